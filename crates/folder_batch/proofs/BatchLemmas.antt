-- Words on batches, handed on to the program.
pub use Rattle.lake_batch.proofs.BatchLemmas.{told_then}
