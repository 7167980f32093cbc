-- What is handed out for a new head of a branch.
use Rattle.std.proofs.Common.{◌≡◌, ◌<◌, sym, subst}
use Rattle.std.specs.Prelude.{Result, Ok, Err, IfOk}
use Rattle.lake_format.specs.declared.cut.Cut.{Cut}
use Rattle.lake_model.specs.declared.fault.StepFault.{StepFault}
use Rattle.core_readings.specs.declared.prepared.Prepared.{Prepared}

-- the modulus of the cut is above 0
pub modulus_told : (answer : Result Prepared StepFault) (cut : Cut) → IfOk answer (λ p. p.cut ≡ cut) → 0 < cut.modulus
    → IfOk answer (λ p. 0 < p.cut.modulus)
modulus_told (Ok p) cut is above = subst (λ (c : Cut). 0 < c.modulus) (sym is) above
modulus_told (Err fault) cut is above = tt
