-- The number that is given out next.
use Rattle.std.proofs.Common.{◌≡◌, ◌<◌, ℕ, List, ap, sym, arith}
use Rattle.std.specs.Prelude.{Option, Some, None, Ok, IsSome}
use Rattle.std.specs.FinMap.{get}
use Rattle.std.specs.List.{Contains}
use Rattle.lake_model.specs.declared.fault.StepFault.{StepFault}
use Rattle.lake_model.specs.State.{State}
use Rattle.lake_model.specs.Naming.{IsNamed}
use Rattle.lake_model.specs.Refusals.{first_cause, unless_refused}
use Rattle.lake_model.specs.Soundness.{IsSound}
use Rattle.lake_model.specs.Steps.{take_ticket_reply, write_causes}
use Rattle.core_state.specs.LakeStates.{lake_value, state_of}
use Rattle.core_standing.specs.Standing.{Stands}
use Rattle.lake_core.specs.Lakes.{LakeValue, state}
use Rattle.lake_core.specs.Numbers.{numbers_of}
use Rattle.lake_core.proofs.NumberLemmas.{number_below}

reply_value : (refusal : Option StepFault) (at next place number : ℕ)
    → unless_refused {X = ℕ × ℕ} refusal (at, next) ≡ Ok (place, number) → number ≡ next
reply_value None at next place number is =
    let pairs : (at, next) ≡ (place, number) = cc in sym (ap (λ (pair : ℕ × ℕ). pair.1) pairs)
reply_value (Some fault) at next place number is = absurd cc

-- it is the next number
reply_number : (now : State) (repo branch : List ℕ) (place number : ℕ)
    → take_ticket_reply now repo branch ≡ Ok (place, number)
    → number ≡ now.next_number
reply_number now repo branch place number is =
    reply_value (first_cause (write_causes now repo branch)) _ now.next_number place number is

module _ {K : Type 0} (lake : LakeValue K) (repo branch : List ℕ) (place number : ℕ)
    (stands : Stands (lake_value lake.opened) lake.history (lake_value lake.present))
    (reply : take_ticket_reply (state lake) repo branch ≡ Ok (place, number)) where
  -- so nothing has it that has numbers below the next one
  below_not : number < (state lake).next_number → ⊥
  below_not below =
      let is : number ≡ (state lake).next_number = reply_number (state lake) repo branch place number reply in
      omega arith

  -- no entry gave it out
  pub never_given : Contains (numbers_of lake.history) number → ⊥
  never_given among =
      below_not (number_below (state_of (lake_value lake.opened)) lake.history number stands.legal among)

  module _ (sound : IsSound (state lake)) where
    -- and in a sound lake it is neither named nor gone
    pub never_named : IsNamed (state lake) number → ⊥
    never_named named = below_not (sound.named number named)

    pub never_gone : IsSome (get (state lake).gone number) → ⊥
    never_gone gone = below_not (sound.gone number gone)
