use Rattle.lake_core.proofs.ChangeLemmas.{change_faulted, change_made}
use Rattle.lake_core.proofs.changes.law_of_changes.Goals as goal

pub returns : goal.returns
returns g c = record { made = change_made; faulted = change_faulted }
