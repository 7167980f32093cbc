-- What a test of causes answers.
use Rattle.std.specs.Prelude.{◌≡◌, Option, Some, None, Result, Ok, Err, MatchResult}
use Rattle.lake_model.specs.declared.fault.StepFault.{StepFault}
use Rattle.lake_model.specs.Refusals.{Causes, first_cause}

-- a test passed where no cause holds; else its answer is the first cause
abbrev pub Asks : {X : Type 0} → Causes → Result X StepFault → Type 0
Asks c answer = MatchResult answer (λ x. first_cause c ≡ None) (λ fault. first_cause c ≡ Some fault)

-- a test that finds something: where no cause holds it is what was found, else the answer is the first cause
abbrev pub AsksFor : {X : Type 0} → Causes → Option X → Result X StepFault → Type 0
AsksFor c value (Ok x) = (first_cause c ≡ None) × (value ≡ Some x)
AsksFor c value (Err fault) = first_cause c ≡ Some fault
