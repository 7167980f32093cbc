-- Words on batches, handed on to the program.
pub use Rattle.lake_batch.specs.BatchViews.{BatchView}
pub use Rattle.lake_batch.specs.Batches.{HoldsBodies, IsBegun, IsServedBatch, IsTimed}
pub use Rattle.lake_batch.specs.CommandWords.{CommandView, GoesThrough, LineEnds}
