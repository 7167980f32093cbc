use Rattle.branch_record.proofs.ResetLemmas.{staged_left, sealed_left, looked_left}
use Rattle.branch_record.proofs.laws.law_of_resets.Goals as goal

pub returns : goal.returns
returns c = record { staged = staged_left; sealed = sealed_left; look = looked_left }
