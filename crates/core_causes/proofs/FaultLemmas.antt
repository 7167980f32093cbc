-- What isn't these bytes, one of two clashes, and the fault that tells of one.
use Rattle.std.proofs.Common.{◌≡◌, ℕ, Bool, true, false, cond, List, ◌⊎◌, inl, inr, refl, sym, ap, ◌∙◌}
use Rattle.std.proofs.lemmas.Slice.Eq.{bytes_eq-Decides}
use Rattle.std.specs.Prelude.{Option, Some, None, option_map, Result, Ok, Err, IsErrAnd}
use Rattle.std.specs.Option.{option_or}
use Rattle.std.specs.Str.{bytes_eq}
use Rattle.lake_model.specs.declared.fault.StepFault.{StepFault}
use Rattle.lake_model.specs.declared.fault.StepFault.TheVariants.{NoMemory}
use Rattle.lake_model.specs.Refusals.{Clash, clash_fault}
use Rattle.core_causes.specs.Clashing.{TellsOrFails, other_than}

-- ---- what isn't these bytes

module _ (new kept : List ℕ) where
  either_other : (test : Bool) → bytes_eq kept new ≡ test → (got : List ℕ) → cond test None (Some kept) ≡ Some got
      → (kept ≡ got) × (new ≡ got → ⊥)
  either_other true is got found = absurd cc
  either_other false is got found =
      let same : kept ≡ got = cc in
      (same, λ new_is. absurd (let equal : bytes_eq kept new ≡ true = (bytes_eq-Decides kept new).1 (same ∙ sym new_is) in cc))

  either_same : (test : Bool) → bytes_eq kept new ≡ test → cond test None (Some kept) ≡ None → new ≡ kept
  either_same true is none = sym ((bytes_eq-Decides kept new).0 is)
  either_same false is none = absurd cc

-- other bytes were found
pub other_some : (new : List ℕ) (o : Option (List ℕ)) (kept : List ℕ) → other_than new o ≡ Some kept
    → (o ≡ Some kept) × (new ≡ kept → ⊥)
other_some new None kept is = absurd cc
other_some new (Some found) kept is =
    let both = either_other new found (bytes_eq found new) refl kept is in (ap Some both.0, both.1)

-- no others were found than these
pub other_none : (new : List ℕ) (o : Option (List ℕ)) (kept : List ℕ) → other_than new o ≡ None → o ≡ Some kept → new ≡ kept
other_none new None kept none is = absurd cc
other_none new (Some found) kept none is =
    let same : found ≡ kept = cc in either_same new found (bytes_eq found new) refl none ∙ same

-- ---- one of two, or neither

pub or_some : {X : Type 0} (o p : Option X) (x : X) → option_or o p ≡ Some x → (o ≡ Some x) ⊎ (p ≡ Some x)
or_some None p x is = inr is
or_some (Some y) p x is = inl is

pub or_none : {X : Type 0} (o p : Option X) → option_or o p ≡ None → (o ≡ None) × (p ≡ None)
or_none None p is = (refl, is)
or_none (Some y) p is = absurd cc

pub mapped_none : {X Y : Type 0} (f : X → Y) (o : Option X) → option_map f o ≡ None → o ≡ None
mapped_none f None is = refl
mapped_none f (Some x) is = absurd cc

pub or_nothing : {X : Type 0} (o : Option X) → option_or o None ≡ o
or_nothing None = refl
or_nothing (Some x) = refl

-- ---- the fault that tells of a clash

-- the fault of a clash, or else of another
pub fault_or : (one other : Option Clash) (fault : StepFault) → clash_fault one ≡ Some fault → clash_fault (option_or one other) ≡ Some fault
fault_or None other fault is = absurd cc
fault_or (Some clash) other fault is = is

pub fault_none : (one other : Option Clash) → clash_fault one ≡ None → option_or one other ≡ other
fault_none None other is = refl
fault_none (Some clash) other is = absurd cc

-- a fault that was told is that of a clash, or memory ran out
pub fault_told : {X : Type 0} (cause : Option StepFault) (answer : Result X StepFault) (fault : StepFault) → IsErrAnd answer (λ e. e ≡ fault)
    → (fault ≡ NoMemory) ⊎ (cause ≡ Some fault) → TellsOrFails cause answer
fault_told cause (Ok x) fault same is = absurd same
fault_told cause (Err e) fault same is = elim is [ inl memory ↦ inl (same ∙ memory) | inr told ↦ inr (told ∙ ap Some (sym same)) ]
