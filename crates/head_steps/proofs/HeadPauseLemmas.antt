-- How often a try of a new head paused.
use Rattle.std.proofs.Common.{◌≡◌, ◌≤◌, ℕ, Option, option_map, refl, arith}
use Rattle.lake_base.specs.Memory.{next_count}
use Rattle.lake_model.specs.declared.fault.StepFault.{StepFault}
use Rattle.lake_model.specs.declared.fault.StepFault.TheVariants.{Changed}
use Rattle.head_drafts.specs.declared.fault.HeadFault.TheVariants.{Step}
use Rattle.flow_steps.specs.Retries.{HasPaused}
use Rattle.head_steps.specs.HeadPauses.{times_changed}
use Rattle.head_steps.proofs.SwapTryLemmas.{refusal_of}

-- it didn't
pub paused_not : (changed : ℕ) (now : Option ℕ) → changed ≡ 0 → HasPaused 1 changed now now
paused_not changed now none = record { times = 0; few = omega arith; enough = omega (arith, none); called = refl }

-- a step finds other versions at most once
pub changed_few : (fault : StepFault) → times_changed (refusal_of (Step fault)) ≤ 1
changed_few (Changed version settings) = omega arith
changed_few fault = omega arith
