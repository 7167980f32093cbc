-- Pairs that are put in place, and puts that wait.
use Rattle.std.proofs.Common.{reverse, ◌≡◌, ℕ, ◌<◌, List, [], ◌∷◌, ◌++◌, length, get_or, refl, sym, ap, ◌∙◌}
use Rattle.std.proofs.lemmas.List.{reverse-append, map-append, get_or-map, length-map}
use Rattle.std.specs.FinMap.{insert, from_entries, from_sorted, empty, entries, get-from_entries, get-from_sorted, entries-from_sorted}
use Rattle.std.proofs.lemmas.Cmp.{nat_list_cmp_total}
use Rattle.std.specs.declared.cmp.Ordering.{Ordering}
use Rattle.lake_base.specs.Maps.{byte_order, HasAscendingKeys}
use Rattle.pair_format.specs.declared.pair.Pair.{Pair}
use Rattle.keeper.specs.declared.put.Put.{Put}
use Rattle.keeper.specs.Keepers.{KeptPairs, entries_of, pairs_with, pairs_after, pairs_over}
use Rattle.keeper.proofs.PairsLemmas.{same}

over_last : (es : List (List ℕ × List ℕ)) (e : List ℕ × List ℕ) (before : KeptPairs) → pairs_over (es ++ e ∷ []) before ≡ pairs_over es (insert before e.0 e.1)
over_last [] e before = refl
over_last (f ∷ es) e before = ap (λ m. insert m f.0 f.1) (over_last es e before)

pub over_none : (es : List (List ℕ × List ℕ)) → pairs_over es empty ≡ from_entries es
over_none [] = refl
over_none (e ∷ es) = ap (λ m. insert m e.0 e.1) (over_none es)

-- the last pair may be put in place first
pub over_more : (old new : List Pair) (pair : Pair) (before : KeptPairs) → old ≡ new ++ pair ∷ []
    → pairs_over (entries_of new) (insert before pair.key pair.value) ≡ pairs_over (entries_of old) before
over_more old new pair before is =
    sym (over_last (entries_of new) (pair.key, pair.value) before)
    ∙ ap (λ es. pairs_over es before) (sym (map-append (λ (p : Pair). (p.key, p.value)) new (pair ∷ [])))
    ∙ ap (λ l. pairs_over (entries_of l) before) (sym is)

-- the put that waits at the end is the next
pub next_put : (old new : List Put) (put : Put) (pairs : KeptPairs) → old ≡ new ++ put ∷ []
    → pairs_after (reverse old) pairs ≡ pairs_after (reverse new) (pairs_with put pairs)
unfolding pairs_after
next_put old new put pairs is = ap (λ l. pairs_after (reverse l) pairs) is ∙ ap (λ l. pairs_after l pairs) (reverse-append new (put ∷ []))

pub none_after : (pairs : KeptPairs) → pairs_after [] pairs ≡ pairs
unfolding pairs_after
none_after pairs = refl

-- pairs in order are the map's
pub entries_held : (pairs : List Pair) → HasAscendingKeys (entries_of pairs) → entries (from_entries {R = byte_order} (entries_of pairs)) ≡ entries_of pairs
entries_held pairs h =
    let es = entries_of pairs in
    ap entries (same (from_entries es) (from_sorted es) (λ q. get-from_entries nat_list_cmp_total es q ∙ sym (get-from_sorted byte_order es q h)))
    ∙ entries-from_sorted byte_order es h

-- where no put waits, none is to come
pub none_waits : (waiting : List Put) (pairs : KeptPairs) → waiting ≡ [] → pairs_after (reverse waiting) pairs ≡ pairs
none_waits waiting pairs none = ap (λ l. pairs_after (reverse l) pairs) none ∙ none_after pairs

-- where nothing is to come, the pairs are those in place
pub settled : (waiting : List Put) (given : List Pair) (pairs : KeptPairs) → waiting ≡ [] → given ≡ []
    → pairs_after (reverse waiting) (pairs_over (entries_of given) pairs) ≡ pairs
settled waiting given pairs none no_more =
    none_waits waiting (pairs_over (entries_of given) pairs) none ∙ ap (λ l. pairs_over (entries_of l) pairs) no_more

-- ---- whether keys ascend

-- how the keys of pairs at two places compare
pub compared_keys : (pairs : List Pair) (i j : ℕ) (x y : Pair) (a b : List ℕ) (r : Ordering) → x ≡ get_or pairs i x → y ≡ get_or pairs j y
    → a ≡ (get_or pairs i x).key → b ≡ (get_or pairs j y).key → r ≡ byte_order a b → r ≡ byte_order x.key y.key
compared_keys pairs i j x y a b r is other first second e =
    e ∙ (λ k. byte_order ((first ∙ ap (λ (p : Pair). p.key) (sym is)) k) ((second ∙ ap (λ (p : Pair). p.key) (sym other)) k))

-- the key and value of the pair at a place
pub entry_at : (pairs : List Pair) (i : ℕ) (x : Pair) → i < length pairs → x ≡ get_or pairs i x
    → (x.key, x.value) ≡ get_or (entries_of pairs) i (x.key, x.value)
entry_at pairs i x lt is = ap (λ (p : Pair). (p.key, p.value)) is ∙ sym (get_or-map (λ (p : Pair). (p.key, p.value)) pairs i x (x.key, x.value) lt)

pub entries_len : (pairs : List Pair) → length (entries_of pairs) ≡ length pairs
entries_len pairs = length-map pairs (λ (p : Pair). (p.key, p.value))
