-- The lines of the generator at a seat.
use Rattle.std.specs.Prelude.{◌≡◌, Result, Ok, Err}
use Rattle.shared_lake.specs.SeatSteps.{LakeSeat}
use Rattle.batch_lines.specs.declared.status.ExitStatus.{ExitStatus}
use Rattle.program_words.specs.declared.generator.Generator.{Generator}
use Rattle.lake_generator.specs.Counting.{heads_done, uploads_done}
use Rattle.lake_generator.specs.Generated.{HasRun, IsUntold}
use Rattle.lake_generator.specs.GeneratedLines.{generated_lines}
use Rattle.lake_generator.specs.declared.serving.Counts.{Counts}

-- all lines were run, and so much was done; this is the seat then
pub record HasRunTo (asked : Generator) (counts : Counts) (seat : LakeSeat) : Type 0 where
  pub lines : HasRun asked
  pub at : lines.run.end.lake.seat ≡ seat
  pub uploads : counts.uploads ≡ uploads_done (generated_lines asked.number asked.objects) lines.effects
  pub heads : counts.heads ≡ heads_done (generated_lines asked.number asked.objects) lines.effects

-- that, or why nothing is told
abbrev pub RunsTo : Generator → LakeSeat → Result Counts ExitStatus → Type 0
RunsTo asked seat (Ok counts) = HasRunTo asked counts seat
RunsTo asked seat (Err status) = IsUntold asked status
