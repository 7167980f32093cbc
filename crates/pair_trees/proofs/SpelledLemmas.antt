-- Pairs are found by their keys, and no two have one.
use Rattle.std.proofs.Common.{◌≡◌, ℕ, zero, suc, ◌+◌, ◌<◌, ◌≤◌, true, ltb, List, [], ◌∷◌, ◌++◌, length, map, get_or, take, Option, Some, None, Result, Ok, Err}
use Rattle.std.proofs.Common.{Bor, MatchOption, MatchResult, IfSome, refl, sym, ap, subst, ◌∙◌, inl, inr, arith}
use Rattle.std.specs.List.{slice_get}
use Rattle.std.specs.List.Sorted.{IsSearchInRange, IsBinarySearchResult}
use Rattle.std.specs.Option.{option_copied, option_and_then}
use Rattle.std.specs.Ordering.{ordering_index}
use Rattle.std.specs.declared.cmp.Ordering.{Ordering}
use Rattle.std.specs.declared.cmp.Ordering.TheVariants.{Less, Equal, Greater}
use Rattle.std.proofs.lemmas.Bool.{cases_Bool, ltb-true, ltb-false}
use Rattle.std.proofs.lemmas.List.{get_or-map, length-map, map-append, take_more}
use Rattle.std.proofs.lemmas.Option.{slice_get_within, slice_get-get_or, slice_get_read, get_or_from_slice_get}
use Rattle.lake_base.specs.Maps.{byte_order, HasAscendingKeys, IsAt, IsGap}
use Rattle.lake_base.proofs.MapsLemmas.{searched, same_key, below_at, head_below, tail_ascends, turned}
use Rattle.keeper.specs.Keepers.{entries_of}
use Rattle.pair_format.specs.declared.key.OwnedKey.{OwnedKey}
use Rattle.pair_format.specs.declared.pair.Pair.{Pair}
use Rattle.pair_format.specs.declared.stored.Stored.{Stored}
use Rattle.pair_format.specs.declared.stored.Stored.TheVariants as stored
use Rattle.pair_format.specs.PairSpelling.{IsSpelledKey, IsSpelledStored, key_of, key_spelling, pair_spelling}
use Rattle.pair_format.proofs.ReadingLemmas.{keys_apart}
use Rattle.pair_trees.specs.Things.{HasKey, IsFound, IsThere, Spells, Things, is_branch, is_staged, thing_at, thing_of}
use Rattle.pair_trees.specs.Spelled.{AreSpelled, AreSpellings, HasNoKey, IsKeyAt}
use Rattle.pair_trees.proofs.ThingsLemmas.{spells_there, there_spells, spells_more}

-- ---- searches

blank : Pair
blank = record { key = []; value = [] }

abbrev entry : Pair → List ℕ × List ℕ
entry pair = (pair.key, pair.value)

entry_at : (pairs : List Pair) (i : ℕ) (e : List ℕ × List ℕ) (d : Pair) → i < length pairs → get_or (entries_of pairs) i e ≡ entry (get_or pairs i d)
entry_at pairs i e d lt = get_or-map entry pairs i d e lt

entries_len : (pairs : List Pair) → length (entries_of pairs) ≡ length pairs
entries_len pairs = length-map pairs entry

pub searched_pairs : (pairs : List Pair) (key : List ℕ) (r : Result ℕ ℕ) → HasAscendingKeys (entries_of pairs) → IsSearchInRange r (length pairs)
    → IsBinarySearchResult (λ pair. byte_order pair.key key) pairs r → MatchResult r (IsAt (entries_of pairs) key) (IsGap (entries_of pairs) key)
searched_pairs pairs key (Ok at) h within found =
    searched (entries_of pairs) key h (Ok at) (omega (arith, within, entries_len pairs))
    (λ d. subst (λ (e : List ℕ × List ℕ). byte_order e.0 key ≡ Equal) (sym (entry_at pairs at d blank within)) (found blank))
searched_pairs pairs key (Err at) h within parted =
    searched (entries_of pairs) key h (Err at) (omega (arith, within, entries_len pairs))
    (λ rising.
    let split = parted (λ i j d le lt.
    let one = entry_at pairs i (entry d) d (omega (arith, le, lt)) in
    let two = entry_at pairs j (entry d) d lt in
    subst (λ (e : List ℕ × List ℕ). ordering_index (byte_order e.0 key) ≤ ordering_index (byte_order (get_or pairs j d).key key)) one
    (subst (λ (e : List ℕ × List ℕ). ordering_index (byte_order (get_or (entries_of pairs) i (entry d)).0 key) ≤ ordering_index (byte_order e.0 key)) two
    (rising i j (entry d) le (omega (arith, lt, entries_len pairs))))) in (
      λ i d low high. subst (λ (e : List ℕ × List ℕ). byte_order e.0 key ≡ Less) (sym (entry_at pairs i d blank (omega (arith, high, within))))
          (split.0 i blank low high),
      λ i d low high. subst (λ (e : List ℕ × List ℕ). byte_order e.0 key ≡ Greater)
          (sym (entry_at pairs i d blank (omega (arith, high, entries_len pairs)))) (split.1 i blank low (omega (arith, high, entries_len pairs))),
    ))

-- the key and the value of the pair at a place
entry_here : (pairs : List Pair) (n : ℕ) (pair : Pair) (d : List ℕ × List ℕ) → slice_get pairs n ≡ Some pair → get_or (entries_of pairs) n d ≡ entry pair
entry_here pairs n pair d here =
    entry_at pairs n d pair (slice_get_within pairs n pair here) ∙ ap entry (get_or_from_slice_get pairs n pair pair here)

tie : (a : List ℕ) → byte_order a a ≡ Equal
tie a = by (byte_order a a) refl
  where
    by : (o : Ordering) → byte_order a a ≡ o → o ≡ Equal
    by Less e = absurd (cross e (turned a a Less e))
      where
        cross : byte_order a a ≡ Less → byte_order a a ≡ Greater → ⊥
        cross x y = cc
    by Equal e = refl
    by Greater e = absurd (cross e (turned a a Greater e))
      where
        cross : byte_order a a ≡ Greater → byte_order a a ≡ Less → ⊥
        cross x y = cc

pub key_at : (pairs : List Pair) (key : List ℕ) (at : ℕ) → IsAt (entries_of pairs) key at → IsKeyAt pairs key at
key_at pairs key at is = record {
  within = omega (arith, is.within, entries_len pairs);
  same = λ pair here. same_key pair.key key (subst (λ (e : List ℕ × List ℕ). byte_order e.0 key ≡ Equal) (entry_here pairs at pair (entry pair) here)
      (is.same (entry pair)));
}

pub no_key : (pairs : List Pair) (key : List ℕ) (at : ℕ) → IsGap (entries_of pairs) key at → HasNoKey pairs key
no_key pairs key at gap n pair here same =
    let ties : byte_order (get_or (entries_of pairs) n (entry pair)).0 key ≡ Equal =
    ap (λ (e : List ℕ × List ℕ). byte_order e.0 key) (entry_here pairs n pair (entry pair) here) ∙ ap (λ k. byte_order k key) same ∙ tie key in
    elim (cases_Bool (ltb n at)) [
      | inl lt ↦ no (gap.before n (entry pair) (omega arith) (ltb-true n at lt)) ties
      | inr ge ↦ no_more (gap.from n (entry pair) (ltb-false n at ge) (omega (arith, entries_len pairs, slice_get_within pairs n pair here))) ties
    ]
  where
    no : {o : Ordering} → o ≡ Less → o ≡ Equal → ⊥
    no x y = cc

    no_more : {o : Ordering} → o ≡ Greater → o ≡ Equal → ⊥
    no_more x y = cc

-- ---- no two pairs have one key

rising : {X : Type 0} (es : List (List ℕ × X)) (i j : ℕ) (d : List ℕ × X) → HasAscendingKeys es → i < j → j < length es
    → byte_order (get_or es i d).0 (get_or es j d).0 ≡ Less
rising [] i j d h lt within = absurd (omega arith)
rising (e ∷ es) zero zero d h lt within = absurd (omega arith)
rising (e ∷ es) zero (suc j) d h lt within = below_at e.0 es j d (head_below e es h) (omega arith)
rising (e ∷ es) (suc i) zero d h lt within = absurd (omega arith)
rising (e ∷ es) (suc i) (suc j) d h lt within = rising es i j d (tail_ascends e es h) (omega arith) (omega arith)

below : (pairs : List Pair) (i j : ℕ) (x y : Pair) → HasAscendingKeys (entries_of pairs) → i < j → slice_get pairs i ≡ Some x → slice_get pairs j ≡ Some y
    → x.key ≡ y.key → ⊥
below pairs i j x y h lt at there same =
    let less : byte_order x.key y.key ≡ Less =
    sym (ap (λ (e : List ℕ × List ℕ). byte_order e.0 y.key) (entry_here pairs i x (entry x) at))
    ∙ sym (ap (λ (e : List ℕ × List ℕ). byte_order (get_or (entries_of pairs) i (entry x)).0 e.0) (entry_here pairs j y (entry x) there))
    ∙ rising (entries_of pairs) i j (entry x) h lt (omega (arith, entries_len pairs, slice_get_within pairs j y there)) in
    no less (ap (λ k. byte_order k y.key) same ∙ tie y.key)
  where
    no : {o : Ordering} → o ≡ Less → o ≡ Equal → ⊥
    no x y = cc

pub one_place : (pairs : List Pair) (i j : ℕ) (x y : Pair) → HasAscendingKeys (entries_of pairs) → slice_get pairs i ≡ Some x → slice_get pairs j ≡ Some y
    → x.key ≡ y.key → i ≡ j
one_place pairs i j x y h at there same =
    elim (cases_Bool (ltb i j)) [
      | inl lt ↦ absurd (below pairs i j x y h (ltb-true i j lt) at there same)
      | inr ge ↦ elim (cases_Bool (ltb j i)) [
        | inl gt ↦ absurd (below pairs j i y x h (ltb-true j i gt) there at (sym same))
        | inr le ↦ omega (arith, ltb-false i j ge, ltb-false j i le)
      ]
    ]

-- no two things have one key
pub things_apart : (pairs : List Pair) (things : Things) → AreSpelled pairs things → (n m : ℕ) (s t : Stored) → Spells things n s → Spells things m t
    → key_of s ≡ key_of t → n ≡ m
things_apart pairs things are n m s t here there same =
    one_place pairs n m (pair_spelling s) (pair_spelling t) are.ascend (are.each n s here).at (are.each m t there).at (ap key_spelling same)

-- ---- the order of kinds

branch_key : (s : Stored) → is_branch s ≡ true → (rest : List ℕ) × (key_spelling (key_of s) ≡ 66 ∷ rest)
branch_key (stored.Branch repo branch version head staging sealed) e = (_, refl)
branch_key (stored.Repository repo created default_branch settings) e = absurd cc
branch_key (stored.Tag repo tag commit) e = absurd cc
branch_key (stored.Commit repo id expired commit) e = absurd cc
branch_key (stored.MetaRange name bytes) e = absurd cc
branch_key (stored.Range name bytes) e = absurd cc
branch_key (stored.Staged token path change) e = absurd cc
branch_key (stored.Note repo name text) e = absurd cc
branch_key (stored.Gone number) e = absurd cc
branch_key (stored.Counts number version token) e = absurd cc

staged_key : (s : Stored) → is_staged s ≡ true → (rest : List ℕ) × (key_spelling (key_of s) ≡ 83 ∷ rest)
staged_key (stored.Staged token path change) e = (_, refl)
staged_key (stored.Repository repo created default_branch settings) e = absurd cc
staged_key (stored.Branch repo branch version head staging sealed) e = absurd cc
staged_key (stored.Tag repo tag commit) e = absurd cc
staged_key (stored.Commit repo id expired commit) e = absurd cc
staged_key (stored.MetaRange name bytes) e = absurd cc
staged_key (stored.Range name bytes) e = absurd cc
staged_key (stored.Note repo name text) e = absurd cc
staged_key (stored.Gone number) e = absurd cc
staged_key (stored.Counts number version token) e = absurd cc

key_less : (pairs : List Pair) (i j : ℕ) (x y : Pair) → HasAscendingKeys (entries_of pairs) → i < j → slice_get pairs i ≡ Some x → slice_get pairs j ≡ Some y
    → byte_order x.key y.key ≡ Less
key_less pairs i j x y h lt at there =
    sym (ap (λ (e : List ℕ × List ℕ). byte_order e.0 y.key) (entry_here pairs i x (entry x) at))
    ∙ sym (ap (λ (e : List ℕ × List ℕ). byte_order (get_or (entries_of pairs) i (entry x)).0 e.0) (entry_here pairs j y (entry x) there))
    ∙ rising (entries_of pairs) i j (entry x) h lt (omega (arith, entries_len pairs, slice_get_within pairs j y there))

no_same : (a b : List ℕ) → 66 ∷ a ≡ 83 ∷ b → ⊥
no_same a b e = let h : 66 ≡ 83 = heads e in omega (arith, h)
  where
    heads : {x y : ℕ} {s t : List ℕ} → x ∷ s ≡ y ∷ t → x ≡ y
    heads h = cc

-- a branch stands before a change
pub branch_first : (pairs : List Pair) (things : Things) → AreSpelled pairs things → (n m : ℕ) (s t : Stored) → Spells things n s → Spells things m t
    → is_branch s ≡ true → is_staged t ≡ true → n < m
branch_first pairs things are n m s t here there branch staged =
    let one = branch_key s branch in
    let two = staged_key t staged in
    let at = (are.each n s here).at in
    let later = (are.each m t there).at in
    elim (cases_Bool (ltb n m)) [
      | inl lt ↦ ltb-true n m lt
      | inr ge ↦ elim (cases_Bool (ltb m n)) [
        | inl gt ↦ absurd (no_less two.0 one.0 (sym (ap (λ k. byte_order k (key_spelling (key_of s))) two.1 ∙ ap (byte_order (83 ∷ two.0)) one.1)
            ∙ key_less pairs m n (pair_spelling t) (pair_spelling s) are.ascend (ltb-true m n gt) later at))
        | inr le ↦
            let same : n ≡ m = omega (arith, ltb-false n m ge, ltb-false m n le) in
            absurd (no_same one.0 two.0 (sym one.1 ∙ ap (λ (p : Pair). p.key) (inside (sym at ∙ ap (slice_get pairs) same ∙ later)) ∙ two.1))
      ]
    ]
  where
    no_less : (a b : List ℕ) → byte_order (83 ∷ a) (66 ∷ b) ≡ Less → ⊥
    no_less a b e = cc

    inside : {x y : Pair} → Some x ≡ Some y → x ≡ y
    inside e = cc

-- ---- what is found by a key

module _ (pairs : List Pair) (things : Things) (are : AreSpelled pairs things) (k : OwnedKey) (limits : IsSpelledKey k) where
  -- where no pair has the key, nothing does
  pub none_there : HasNoKey pairs (key_spelling k) → HasKey things k → ⊥
  none_there absent has =
      let place = there_spells things has.thing has.there in
      absent place.0 (pair_spelling has.thing) (are.each place.0 has.thing place.1).at (ap key_spelling has.under)

  module _ (at : ℕ) (is : IsKeyAt pairs (key_spelling k) at) where
    -- what has the key is spelled there
    pub spelled_at : (t : Stored) → IsThere things t → key_of t ≡ k → Spells things at t
    spelled_at t there under =
        let place = there_spells things t there in
        let spelling = (are.each place.0 t place.1).at in
        let last = slice_get-get_or pairs at blank is.within in
        let same : place.0 ≡ at = one_place pairs place.0 at (pair_spelling t) (get_or pairs at blank) are.ascend spelling last
        (ap key_spelling under ∙ sym (is.same (get_or pairs at blank) last)) in
        subst (λ n. Spells things n t) same place.1

    pub found_there : (s : Stored) → Spells things at s → IsFound things k s
    found_there s here =
        let one = are.each at s here in
        record {
          there = spells_there things at s here;
          under = keys_apart (key_of s) k one.limits.named limits (is.same (pair_spelling s) one.at);
          only = λ other there under. some_is (sym (spelled_at other there under) ∙ here);
        }
      where
        some_is : {x y : Stored} → Some x ≡ Some y → x ≡ y
        some_is e = cc

    pub not_there : thing_at things at ≡ None → HasKey things k → ⊥
    not_there none has = no (sym (spelled_at has.thing has.there has.under) ∙ none)
      where
        no : {x : Stored} → Some x ≡ None → ⊥
        no e = cc

    -- what a look-up at the place gives
    pub answered : (x : Option Stored) → x ≡ get_or things at x → (r : Option (Bor Stored)) → option_copied r ≡ x
        → MatchOption r (HasKey things k → ⊥) (λ s. IsFound things k s.now)
    answered x here r copied = by r copied
      where
        long : length things ≡ length pairs
        long = ap length are.same ∙ length-map pairs thing_of

        at_is : thing_at things at ≡ x
        at_is = ap (option_and_then (λ thing. thing)) (slice_get_read things (length things) at x refl (omega (arith, long, is.within)) here)

        by : (r : Option (Bor Stored)) → option_copied r ≡ x → MatchOption r (HasKey things k → ⊥) (λ s. IsFound things k s.now)
        by None e = not_there (at_is ∙ sym e)
        by (Some s) e = found_there s.now (at_is ∙ sym e)

-- ---- one pair more

pub same_more : (pairs : List Pair) (things : Things) (i : ℕ) (pair : Pair) (x : Option Stored) → i < length pairs → pair ≡ get_or pairs i pair
    → things ≡ map thing_of (take i pairs) → x ≡ thing_of pair → things ++ x ∷ [] ≡ map thing_of (take (i + 1) pairs)
same_more pairs things i pair x lt is so_far one =
    let whole : take (i + 1) pairs ≡ take i pairs ++ pair ∷ [] = take_more pairs i pair lt ∙ ap (λ p. take i pairs ++ p ∷ []) (sym is) in
    ap (λ l. l ++ x ∷ []) so_far ∙ ap (λ t. map thing_of (take i pairs) ++ t ∷ []) one
    ∙ sym (ap (map thing_of) whole ∙ map-append thing_of (take i pairs) (pair ∷ []))

-- each thing so far is spelled, and so is the next
pub each_more : (pairs : List Pair) (things : Things) (i : ℕ) (pair : Pair) (x : Option Stored) → slice_get pairs i ≡ Some pair → length things ≡ i
    → IfSome x (λ s. IsSpelledStored s × (pair ≡ pair_spelling s)) → AreSpellings pairs things → AreSpellings pairs (things ++ x ∷ [])
each_more pairs things i pair x here long one each n s spells =
    elim (spells_more things x n s spells) [
      | inl before ↦ each n s before
      | inr last ↦
          let spelled = subst (λ o. IfSome o (λ s. IsSpelledStored s × (pair ≡ pair_spelling s))) last.1 one in
          record { limits = spelled.0; at = ap (slice_get pairs) (last.0 ∙ long) ∙ here ∙ ap (λ p. Some p) spelled.1 }
    ]
