-- What a batch works on, as far as that tells what it holds.
use Rattle.std.specs.Prelude.{ℕ, List, Option}
use Rattle.lakectl_commands.specs.HeldFiles.{HeldFiles}
use Rattle.lakectl_session.specs.ServedCommands.{CommandView}
use Rattle.batch_lines.specs.Outcome.{Trace}

-- what a batch works on: what is left of its source, what its sink got and how often that has failed, the clock's
-- readings, and what the files hold
pub record BatchView : Type 0 where
  pub left : Option (List ℕ)
  pub written : Option (List ℕ)
  pub sink_faults : ℕ
  pub readings : Option (List ℕ)
  pub files : Option HeldFiles

-- what a batch changes line by line: what its commands work on, and the sink
abbrev pub trace_of : CommandView → BatchView → Trace CommandView
trace_of command batch = record { server = command; written = batch.written; faults = batch.sink_faults }
