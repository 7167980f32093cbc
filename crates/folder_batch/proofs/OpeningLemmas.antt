-- The only seat at a folder's lake.
use Rattle.std.proofs.Common.{◌≡◌, ◌+◌, ◌++◌, ◌∷◌, [], List, length, length-append, Option, Some, refl, ◌∙◌, ap, arith}
use Rattle.std.specs.Option.{option_to_list}

-- a list of one has just one element
pub only_one : {X : Type 0} (items : List X) → length items ≡ 1 → (x : X) × (items ≡ x ∷ [])
only_one [] one = absurd (omega (arith, one))
only_one (x ∷ []) one = (x, refl)
only_one (x ∷ y ∷ items) one = absurd (omega (arith, one))

-- what is popped of a list of one is all of it
pub popped_only : {X : Type 0} (items rest : List X) (last : X) (result : Option X) → length items ≡ 1
    → items ≡ rest ++ option_to_list result → result ≡ Some last → items ≡ last ∷ []
popped_only items [] last result one whole is = whole ∙ ap option_to_list is
popped_only items (x ∷ rest) last result one whole is =
    let more : items ≡ (x ∷ rest) ++ last ∷ [] = whole ∙ ap (λ o. (x ∷ rest) ++ option_to_list o) is in
    let long : length items ≡ length ((x ∷ rest) ++ last ∷ []) = ap length more in
    let sum : length (rest ++ last ∷ []) ≡ length rest + 1 = length-append rest (last ∷ []) in
    absurd (omega (arith, one, long, sum))
