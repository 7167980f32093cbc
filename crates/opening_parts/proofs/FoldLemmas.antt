-- Things are gone through, the last of them first.
use Rattle.std.proofs.Common.{◌≡◌, ◌<◌, ◌≤◌, ◌+◌, List, [], ◌∷◌, ◌++◌, ℕ, length, drop, get_or, refl, sym, ap, ◌∙◌}
use Rattle.std.proofs.lemmas.List.{drop_all, drop_more}
use Rattle.opening_parts.specs.Fillings.{from_last}

module _ {T X : Type 0} (f : T → X → X) where
  -- none yet
  pub none_yet : (xs : List T) (n : ℕ) (z : X) → length xs ≤ n → z ≡ from_last f (drop n xs) z
  none_yet xs n z past = sym (ap (λ l. from_last f l z) (drop_all n xs past))

  -- the one at a place, over those behind it
  pub one_more : (xs : List T) (n : ℕ) (x : T) (z : X) → n < length xs → x ≡ get_or xs n x
      → f x (from_last f (drop (n + 1) xs) z) ≡ from_last f (drop n xs) z
  one_more xs n x z within is =
      ap (λ y. f y (from_last f (drop (n + 1) xs) z)) is ∙ sym (ap (λ l. from_last f l z) (drop_more xs n x within))

  -- the last one is the first to be taken
  pub last_first : (xs : List T) (x : T) (z : X) → from_last f (xs ++ x ∷ []) z ≡ from_last f xs (f x z)
  last_first [] x z = refl
  last_first (y ∷ xs) x z = ap (f y) (last_first xs x z)
