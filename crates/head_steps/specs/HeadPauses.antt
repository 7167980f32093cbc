-- How many versions a try of a new head found.
use Rattle.std.specs.Prelude.{ℕ, Result, Err}
use Rattle.lake_model.specs.declared.fault.StepFault.TheVariants.{Changed}
use Rattle.head_drafts.specs.declared.fault.HeadFault.{HeadFault}
use Rattle.head_drafts.specs.declared.fault.HeadFault.TheVariants.{Step}

-- how many tries found other versions, by the refusal of one
abbrev pub times_changed : {X : Type 0} → Result X HeadFault → ℕ
times_changed (Err (Step (Changed version settings))) = 1
times_changed result = 0
