-- What a batch under way has come to, as contracts see it.
use Rattle.std.specs.Prelude.{ℕ, List, Option}
use Rattle.batch_lines.specs.declared.results.Results.{Results}
use Rattle.batch_lines.specs.Progress.{Progress, BatchState}

-- how the lines went and what is pending, when the sink got these bytes
abbrev pub progress_of : Results → (written : Option (List ℕ)) → Progress
progress_of results written =
    record { written = written; pending = results.output; done = results.done; starved = results.starved }

-- the same with what serves the lines
abbrev pub state_of : {L : Type 0} → Results → (server : L) → (written : Option (List ℕ)) → BatchState L
state_of results server written = record { server = server; progress = progress_of results written }
