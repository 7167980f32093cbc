-- What a loop over a list has made so far: one more item at its end.
use Rattle.std.proofs.Common.{◌≡◌, ℕ, zero, suc, ◌+◌, ◌<◌, List, [], ◌∷◌, ◌++◌, length, get_or, take, sym, ap, subst, ◌∙◌, append_assoc, add-one, arith}
use Rattle.std.specs.List.{flat_map, AllByRecursion}
use Rattle.std.proofs.lemmas.List.{take_more, append-nil}
use Rattle.std.proofs.lemmas.List.Concat.{flat_map-append}

-- the bytes of one item more
pub flat_take : {X : Type 0} (f : X → List ℕ) (xs : List X) (i : ℕ) (x : X) → i < length xs → x ≡ get_or xs i x
    → flat_map f (take (i + 1) xs) ≡ flat_map f (take i xs) ++ f x
flat_take f xs i x lt is =
    ap (flat_map f) (take_more xs i x lt) ∙ flat_map-append f (take i xs) (get_or xs i x ∷ [])
    ∙ ap (λ b. flat_map f (take i xs) ++ b) (append-nil (f (get_or xs i x)) ∙ ap f (sym is))

-- one more item's bytes
pub flat_more : {X : Type 0} (f : X → List ℕ) (out old new : List ℕ) (xs : List X) (i : ℕ) (x : X) → i < length xs → x ≡ get_or xs i x
    → old ≡ out ++ flat_map f (take i xs) → new ≡ old ++ f x → new ≡ out ++ flat_map f (take (i + 1) xs)
flat_more f out old new xs i x lt is written more =
    more ∙ ap (λ b. b ++ f x) written ∙ append_assoc out (flat_map f (take i xs)) (f x) ∙ ap (λ b. out ++ b) (sym (flat_take f xs i x lt is))

-- one more item of a copy
pub copied_more : {X : Type 0} (before so_far new xs : List X) (i : ℕ) (x copy : X) → i < length xs → x ≡ get_or xs i x → so_far ≡ before ++ take i xs
    → new ≡ so_far ++ copy ∷ [] → copy ≡ x
    → new ≡ before ++ take (i + 1) xs
copied_more before so_far new xs i x copy lt is all more same =
    more ∙ ap (λ l. l ++ copy ∷ []) all ∙ append_assoc before (take i xs) (copy ∷ []) ∙ ap (λ y. before ++ (take i xs ++ y ∷ [])) (same ∙ is)
    ∙ ap (λ l. before ++ l) (sym (take_more xs i x lt))

-- one more item that P holds of
pub all_more : {X : Type 0} (P : X → Type 0) (xs : List X) (i : ℕ) (x : X) → i < length xs → x ≡ get_or xs i x → AllByRecursion P (take i xs) → P x
    → AllByRecursion P (take (i + 1) xs)
all_more {X = X} P xs i x lt is before here = subst (λ n. AllByRecursion P (take n xs)) (sym (add-one i)) (step xs i lt is before)
  where
    step : (xs : List X) (i : ℕ) → i < length xs → x ≡ get_or xs i x → AllByRecursion P (take i xs) → AllByRecursion P (take (suc i) xs)
    step [] i lt is before = absurd (omega arith)
    step (y ∷ xs) zero lt is before = (subst P is here, tt)
    step (y ∷ xs) (suc i) lt is before = (before.0, step xs i (omega arith) is before.1)
