-- How the search for a head's end goes on.
use Rattle.std.proofs.Common.{◌≡◌, ◌≤◌, ◌<◌, ◌+◌, ◌-◌, ℕ, zero, suc, true, false, List, [], ◌∷◌, ◌++◌, length, take, drop, refl, sym, ap, subst, ◌∙◌}
use Rattle.std.proofs.Common.{arith, true≢false, slice_range}
use Rattle.std.proofs.lemmas.List.{length-take, drop-take, drop-drop}
use Rattle.std.proofs.lemmas.Bool.Decides.{nat_tests}
use Rattle.http_wire.specs.declared.heads.Search.{Search}
use Rattle.http_wire.specs.MessageHeads.{begins_pair, headed, too_long, unended, opening}
use Rattle.http_wire.specs.HeadSearch.{HasNoEnd, IsHeadEnd, pairs, IsSearch, IsGiven}
use Rattle.http_wire.proofs.HeadLemmas.{end_in_front, none_in_front, opening_headed, opening_too_long, opening_part}

-- a part of a list without its first items
pub range_skip : (xs : List ℕ) (start end n : ℕ) → start + n ≤ end → slice_range xs (start + n) end ≡ drop n (slice_range xs start end)
range_skip xs start end n h =
    let m : ℕ = end - (start + n) in
    let e : n + m ≡ end - start = omega (arith, h) in
    ap (take m) (sym (drop-drop n start xs)) ∙ sym (drop-take n m (drop start xs)) ∙ ap (λ (i : ℕ). drop n (take i (drop start xs))) e

pub length_range : (xs : List ℕ) (start end : ℕ) → length (slice_range xs start end) ≤ end - start
length_range xs start end = omega (arith, length-take (end - start) (drop start xs))

-- the pair that stands at the front
pub pair_is : (w : List ℕ) → begins_pair w ≡ true → w ≡ 13 ∷ 10 ∷ drop 2 w
pair_is [] h = absurd (true≢false (sym h))
pair_is (a ∷ []) h = absurd (true≢false (sym h))
pair_is (a ∷ b ∷ w) h =
    let first : a ≡ 13 = grind (arith, nat_tests, h) in
    let second : b ≡ 10 = grind (arith, nat_tests, h) in
    ap (λ (x : ℕ). x ∷ b ∷ w) first ∙ ap (λ (y : ℕ). 13 ∷ y ∷ w) second

pairs_more : (n : ℕ) (w : List ℕ) → pairs n ++ 13 ∷ 10 ∷ w ≡ pairs (suc n) ++ w
pairs_more zero w = refl
pairs_more (suc n) w = ap (λ (l : List ℕ). 13 ∷ 10 ∷ l) (pairs_more n w)

pub none_at_start : (w : List ℕ) → HasNoEnd w 0
none_at_start w zero h = refl
none_at_start w (suc k) h = absurd (omega (arith, h))

-- a pair is taken out
pub skip_search : (w : List ℕ) (skipped : ℕ) → skipped + 2 ≤ 16384 → IsSearch (record { skipped = skipped + 2; passed = 0 }) (drop 2 w)
skip_search w skipped h = record { within = omega arith; limit = omega (arith, h); none = none_at_start (drop 2 w) }

pub skip_total : (w : List ℕ) (skipped total : ℕ) → begins_pair w ≡ true → skipped + length w ≡ total → skipped + 2 + length (drop 2 w) ≡ total
skip_total w skipped total h is = omega (arith, is, ap length (pair_is w h))

pub skip_given : (given w : List ℕ) (search : Search) → begins_pair w ≡ true → IsGiven given search w
    → IsGiven given (record { skipped = search.skipped + 2; passed = 0 }) (drop 2 w)
skip_given given w search h was = record {
  count = suc was.count;
  skipped = omega (arith, was.skipped);
  whole = was.whole ∙ ap (λ (l : List ℕ). pairs was.count ++ l) (pair_is w h) ∙ pairs_more was.count (drop 2 w);
}

module _ (w held front : List ℕ) (m : ℕ) (same : held ≡ w) (front_is : front ≡ take m held) (within : m ≤ length held) where
  front_of : front ≡ take m w
  front_of = front_is ∙ ap (take m) same

  held_long : m ≤ length w
  held_long = omega (arith, within, ap length same)

  -- a head's end in what was looked at
  pub shows_head : (given : List ℕ) (search : Search) (n : ℕ) → search.skipped + m ≤ 16384 → IsHeadEnd front n
      → (search.skipped + 2 ≤ 16384 → begins_pair w ≡ false) → IsGiven given search w
      → (n ≤ length w) × ((more : List ℕ) → opening (given ++ more) ≡ headed (take n w) (drop n w ++ more))
  shows_head given search n limit end pair was =
      let there = end_in_front w m n held_long (subst (λ (l : List ℕ). IsHeadEnd l n) front_of end) in (
        there.0.within,
        λ more. ap (λ (l : List ℕ). opening (l ++ more)) was.whole
            ∙ opening_headed was.count w more n (omega (arith, limit, was.skipped, there.1)) there.0 (λ two. pair (omega (arith, was.skipped, two))),
      )

  -- no end within the limit
  pub shows_too_long : (given : List ℕ) (search : Search) → search.skipped + m ≡ 16384 → HasNoEnd front (length front)
      → (search.skipped + 2 ≤ 16384 → begins_pair w ≡ false) → IsGiven given search w
      → (more : List ℕ) → opening (given ++ more) ≡ too_long
  shows_too_long given search limit none pair was more =
      ap (λ (l : List ℕ). opening (l ++ more)) was.whole
      ∙ opening_too_long was.count m w more (omega (arith, limit, was.skipped)) held_long
      (none_in_front w m held_long (subst (λ (l : List ℕ). HasNoEnd l (length l)) front_of none)) (λ two. pair (omega (arith, was.skipped, two)))

  -- no end in all that is held
  pub passes_all : m ≡ length held → HasNoEnd front (length front) → HasNoEnd w (length w)
  passes_all all none =
      let e : m ≡ length w = omega (arith, all, ap length same) in
      subst (λ (i : ℕ). HasNoEnd w i) e (none_in_front w m held_long (subst (λ (l : List ℕ). HasNoEnd l (length l)) front_of none))

-- all that is held is a part of a head
pub shows_part : (given w : List ℕ) (search : Search) (passed : ℕ) → search.skipped + length w < 16384 → HasNoEnd w (length w)
    → (search.skipped + 2 ≤ 16384 → begins_pair w ≡ false) → IsGiven given search w
    → IsGiven given (record { skipped = search.skipped; passed = passed }) w × (opening given ≡ unended w)
shows_part given w search passed limit none pair was = (
  record { count = was.count; skipped = was.skipped; whole = was.whole },
  ap opening was.whole ∙ opening_part was.count w (omega (arith, limit, was.skipped)) none (λ two. pair (omega (arith, was.skipped, two))),
)

pub part_search : (w : List ℕ) (skipped passed : ℕ) → passed ≡ length w → skipped + length w < 16384 → HasNoEnd w (length w)
    → IsSearch (record { skipped = skipped; passed = passed }) w
part_search w skipped passed all limit none = record {
  within = omega (arith, all);
  limit = omega (arith, all, limit);
  none = subst (λ (i : ℕ). HasNoEnd w i) (sym all) none;
}
