use Rattle.std.specs.FinMap.{empty}
use Rattle.branch_record.specs.Tokens.{with_each}
use Rattle.branch_record.proofs.LayersLemmas.{layers_none}
use Rattle.branch_record.proofs.ResetLemmas.{staged_kept}
use Rattle.branch_record.proofs.laws.law_of_drops.Goals as goal

pub returns : goal.returns
returns c = record { sealed = λ r tokens. layers_none (with_each r.sealed (λ _. empty) tokens); staged = staged_kept }
