-- What is left of a list that a loop goes over.
use Rattle.std.proofs.Common.{◌≡◌, ◌<◌, ◌≤◌, ◌+◌, ℕ, zero, suc, List, [], ◌∷◌, length, drop, get_or, refl, drop-cons, add-one, arith}

pub left_is : {X : Type 0} (xs : List X) (i : ℕ) (d : X) → i < length xs → drop i xs ≡ get_or xs i d ∷ drop (i + 1) xs
left_is xs i d h = rw add-one (drop-cons xs i d h)

pub left_none : {X : Type 0} (xs : List X) (i : ℕ) → length xs ≤ i → drop i xs ≡ []
left_none [] zero h = refl
left_none [] (suc i) h = refl
left_none (x ∷ xs) zero h = absurd (omega (arith, h))
left_none (x ∷ xs) (suc i) h = left_none xs i (omega (arith, h))
