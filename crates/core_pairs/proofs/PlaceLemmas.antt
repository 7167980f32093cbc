-- What is found in a map after one thing was put there or went.
use Rattle.std.proofs.Common.{◌≡◌, ◌⊎◌, inl, inr, ℕ, Bool, true, false, cond, List, Some, None, refl, sym, ap, ◌∙◌}
use Rattle.std.specs.Str.{bytes_eq}
use Rattle.std.specs.FinMap.{get, insert, remove}
use Rattle.lake_base.specs.Maps.{ByteMap}
use Rattle.byte_map.proofs.ByteMapLemmas.{get_insert, get_remove}
use Rattle.core_pairs.proofs.StandLemmas.{tied, untied}

-- names are the same or not
pub decide : (n name : List ℕ) → (n ≡ name) ⊎ (n ≡ name → ⊥)
decide n name = by (bytes_eq n name) refl
  where
    by : (test : Bool) → bytes_eq n name ≡ test → (n ≡ name) ⊎ (n ≡ name → ⊥)
    by true e = inl (tied n name e)
    by false e = inr (untied n name e)

pub unequal : (n name : List ℕ) → (n ≡ name → ⊥) → bytes_eq n name ≡ false
unequal n name apart = by (bytes_eq n name) refl
  where
    by : (test : Bool) → bytes_eq n name ≡ test → test ≡ false
    by true e = absurd (apart (tied n name e))
    by false e = refl

module _ {X : Type 0} (m : ByteMap X) (name : List ℕ) where
  -- what is found is what was put, or was there under another name
  pub found : (x : X) (n : List ℕ) (y : X) → get (insert m name x) n ≡ Some y → ((n ≡ name) × (x ≡ y)) ⊎ ((n ≡ name → ⊥) × (get m n ≡ Some y))
  found x n y there = by (bytes_eq n name) refl (sym (get_insert m name x n) ∙ there)
    where
      by : (test : Bool) → bytes_eq n name ≡ test → cond test (Some x) (get m n) ≡ Some y
          → ((n ≡ name) × (x ≡ y)) ⊎ ((n ≡ name → ⊥) × (get m n ≡ Some y))
      by true e at = inl (tied n name e, cc)
      by false e at = inr (untied n name e, at)

  -- under another name stands what was there
  pub get_other : (x : X) (n : List ℕ) → (n ≡ name → ⊥) → get (insert m name x) n ≡ get m n
  get_other x n apart = get_insert m name x n ∙ ap (λ b. cond b (Some x) (get m n)) (unequal n name apart)

  pub get_left : (n : List ℕ) → (n ≡ name → ⊥) → get (remove m name) n ≡ get m n
  get_left n apart = get_remove m name n ∙ ap (λ b. cond b None (get m n)) (unequal n name apart)

  -- what is found where one went was there under another name
  pub left : (n : List ℕ) (y : X) → get (remove m name) n ≡ Some y → (n ≡ name → ⊥) × (get m n ≡ Some y)
  left n y there = by (bytes_eq n name) refl (sym (get_remove m name n) ∙ there)
    where
      by : (test : Bool) → bytes_eq n name ≡ test → cond test None (get m n) ≡ Some y → (n ≡ name → ⊥) × (get m n ≡ Some y)
      by true e at = absurd cc
      by false e at = (untied n name e, at)
