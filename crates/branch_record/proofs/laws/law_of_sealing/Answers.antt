use Rattle.branch_record.proofs.LayersLemmas.{looked_then, sealed_then, staged_then}
use Rattle.branch_record.proofs.laws.law_of_sealing.Goals as goal

pub returns : goal.returns
returns c = record { look = looked_then; sealed = sealed_then; staged = staged_then }
