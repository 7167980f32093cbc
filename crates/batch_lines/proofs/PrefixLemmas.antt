-- The beginnings of lists.
use Rattle.std.proofs.Common.{◌≡◌, ◌≤◌, ◌+◌, ◌-◌, ℕ, zero, suc, List, [], ◌∷◌, ◌++◌, length, take, drop, refl, sym, ◌∙◌, ap, arith}
use Rattle.std.proofs.Common.{take-append-drop}
use Rattle.std.proofs.Math.Seq.{take-append-add}
use Rattle.http_wire.specs.SinkFronts.{IsPrefix}

-- what stands first
pub taken_front : (n : ℕ) (xs : List ℕ) → IsPrefix (take n xs) xs
taken_front n xs = (drop n xs, take-append-drop n xs)

-- what is fed within the limit is a front of what the limit allows
pub front_within : (limit : ℕ) (fed left input : List ℕ) → fed ++ left ≡ input → length fed ≤ limit
    → IsPrefix fed (take limit input)
front_within limit fed left input whole within =
    let count : length fed + (limit - length fed) ≡ limit = omega arith in (
      take (limit - length fed) left,
      sym (take-append-add fed left (limit - length fed)) ∙ ap (λ n. take n (fed ++ left)) count
          ∙ ap (take limit) whole,
    )

-- one byte more of what is kept
pub take-push : (n : ℕ) (xs : List ℕ) (byte : ℕ) → take n (take n xs ++ byte ∷ []) ≡ take n (xs ++ byte ∷ [])
take-push zero xs byte = refl
take-push (suc n) [] byte = refl
take-push (suc n) (x ∷ xs) byte = ap (λ (l : List ℕ). x ∷ l) (take-push n xs byte)
