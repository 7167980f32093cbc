-- Fields that are put one after another, in order of their keys.
use Rattle.std.proofs.Common.{◌≡◌, ℕ, zero, suc, ◌<◌, ◌+◌, List, [], ◌∷◌, ◌++◌, map, take, drop, length, get_or}
use Rattle.std.proofs.Common.{Ordering, Less, Greater, refl, sym, ap, ◌∙◌, subst, arith}
use Rattle.std.proofs.lemmas.List.{take_more}
use Rattle.std.proofs.lemmas.Cmp.{nat_list_cmp_total}
use Rattle.std.specs.Cmp.Lexicographic.{slice_cmp}
use Rattle.std.specs.List.{AllByRecursion}
use Rattle.std.specs.List.Sorted.{IsStrictlySortedBy}
use Rattle.std.specs.Ordering.{nat_cmp, ordering_reverse}
use Rattle.serde_json.specs.Data.{Data, string, member, put}
use Rattle.lake_base.specs.Maps.{byte_order, IsAscending}
use Rattle.api_replies.specs.ReplyForms.{fields, pair_field}

abbrev key_of : List ℕ × List ℕ → List ℕ
key_of pair = pair.0

below_middle : (key : List ℕ) (done : List (List ℕ × List ℕ)) (pair : List ℕ × List ℕ) (more : List (List ℕ × List ℕ))
    → AllByRecursion (λ y. byte_order key y ≡ Less) (map key_of (done ++ pair ∷ more)) → byte_order key pair.0 ≡ Less
below_middle key [] pair more h = h.0
below_middle key (x ∷ done) pair more h = below_middle key done pair more h.1

-- a pair whose key is above those before it goes last
pub put_last : (done : List (List ℕ × List ℕ)) (pair : List ℕ × List ℕ) (more : List (List ℕ × List ℕ))
    → IsAscending (map (λ p. p.0) (done ++ pair ∷ more))
    → put pair.0 (string pair.1) (fields (map pair_field done)) ≡ fields (map pair_field (done ++ pair ∷ []))
unfolding IsStrictlySortedBy
put_last [] pair more h = refl
put_last (first ∷ done) pair more h =
    let above : slice_cmp nat_cmp pair.0 first.0 ≡ Greater =
    nat_list_cmp_total.antisymm pair.0 first.0 ∙ ap ordering_reverse (below_middle first.0 done pair more h.0) in
    rw above (ap (member first.0 (string first.1)) (put_last done pair more h.1))

-- a list around the item at a place
around : (items : List (List ℕ × List ℕ)) (i : ℕ) (d : List ℕ × List ℕ) → i < length items
    → items ≡ take i items ++ get_or items i d ∷ drop (suc i) items
around [] i d within = absurd (omega arith)
around (x ∷ items) zero d within = refl
around (x ∷ items) (suc i) d within = ap (λ xs. x ∷ xs) (around items i d (omega arith))

-- the fields of one pair more
pub put_next : (items : List (List ℕ × List ℕ)) (i : ℕ) (pair : List ℕ × List ℕ) → IsAscending (map (λ p. p.0) items) → i < length items
    → pair ≡ get_or items i pair
    → put pair.0 (string pair.1) (fields (map pair_field (take i items))) ≡ fields (map pair_field (take (i + 1) items))
put_next items i pair ascending within is =
    let whole : items ≡ take i items ++ pair ∷ drop (suc i) items =
    around items i pair within ∙ ap (λ p. take i items ++ p ∷ drop (suc i) items) (sym is) in
    let next : take (i + 1) items ≡ take i items ++ pair ∷ [] = take_more items i pair within ∙ ap (λ p. take i items ++ p ∷ []) (sym is) in
    put_last (take i items) pair (drop (suc i) items) (subst (λ xs. IsAscending (map (λ p. p.0) xs)) whole ascending)
    ∙ ap (λ xs. fields (map pair_field xs)) (sym next)
