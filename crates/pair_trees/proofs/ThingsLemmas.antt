-- Places of things.
use Rattle.std.proofs.Common.{◌≡◌, ◌⊎◌, ℕ, zero, suc, [], ◌∷◌, ◌++◌, length, Option, Some, None, refl, ap, ◌∙◌, inl, inr}
use Rattle.std.specs.List.{slice_get}
use Rattle.std.specs.Option.{option_and_then}
use Rattle.std.proofs.lemmas.Option.{slice_get_within, slice_get-get_or, get_or_from_slice_get}
use Rattle.pair_format.specs.declared.stored.Stored.{Stored}
use Rattle.pair_trees.specs.Things.{IsThere, Spells, Things}

within_some : (o : Option (Option Stored)) (s : Stored) → option_and_then (λ thing. thing) o ≡ Some s → o ≡ Some (Some s)
within_some None s e = absurd cc
within_some (Some thing) s e = ap (λ t. Some t) e

pub thing_here : (things : Things) (n : ℕ) (s : Stored) → Spells things n s → slice_get things n ≡ Some (Some s)
thing_here things n s e = within_some (slice_get things n) s e

-- what a pair spells is there
pub spells_there : (things : Things) (n : ℕ) (s : Stored) → Spells things n s → IsThere things s
spells_there things n s e =
    let here = thing_here things n s e in
    (n, slice_get_within things n (Some s) here, get_or_from_slice_get things n (Some s) (Some s) here)

-- what is there some pair spells
pub there_spells : (things : Things) (s : Stored) → IsThere things s → (n : ℕ) × Spells things n s
there_spells things s has =
    (has.0, ap (option_and_then (λ thing. thing)) (slice_get-get_or things has.0 (Some s) has.1 ∙ ap (λ t. Some t) has.2))

-- one thing more
pub spells_more : (things : Things) (x : Option Stored) (n : ℕ) (s : Stored) → Spells (things ++ x ∷ []) n s
    → Spells things n s ⊎ ((n ≡ length things) × (x ≡ Some s))
spells_more [] x zero s e = inr (refl, e)
spells_more [] x (suc n) s e = absurd cc
spells_more (thing ∷ things) x zero s e = inl e
spells_more (thing ∷ things) x (suc n) s e =
    elim (spells_more things x n s e) [
      | inl before ↦ inl before
      | inr last ↦ inr (ap (λ k. suc k) last.0, last.1)
    ]
