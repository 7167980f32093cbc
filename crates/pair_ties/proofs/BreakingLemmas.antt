-- The first broken pair.
use Rattle.std.proofs.Common.{◌≡◌, ◌↔◌, ℕ, zero, suc, ◌+◌, ◌<◌, Bool, true, false, cond, eqb, ltb, ◌||◌, List, [], ◌∷◌, length, get_or, Option, Some, None}
use Rattle.std.proofs.Common.{Result, Ok, Err}
use Rattle.std.proofs.Common.{IfOk, IsTrue, IsSomeAnd, MatchOption, refl, sym, ap, subst, ◌∙◌, inl, inr, arith}
use Rattle.std.specs.List.{AllByRecursion, list_any, slice_get}
use Rattle.std.specs.Option.{option_and_then}
use Rattle.std.specs.Result.{result_ok}
use Rattle.std.proofs.lemmas.Bool.{cases_Bool, ltb-true, ltb-false}
use Rattle.std.proofs.lemmas.List.{length-map}
use Rattle.std.proofs.lemmas.Option.{slice_get-get_or, slice_get_read}
use Rattle.std.proofs.lemmas.Slice.Eq.{bytes_eq-Decides}
use Rattle.lake_format.specs.Reading.{◌>>=◌}
use Rattle.lake_format.specs.declared.cut.Cut.{Cut}
use Rattle.lake_format.specs.declared.fields.FieldFault.{FieldFault}
use Rattle.lake_format.specs.declared.fields.FieldFault.TheVariants.{Bad}
use Rattle.pair_format.specs.declared.fault.PairFault.{PairFault}
use Rattle.pair_format.specs.declared.fault.PairFault.TheVariants.{Value}
use Rattle.pair_format.specs.declared.key.OwnedKey.TheVariants as key
use Rattle.pair_format.specs.declared.pair.Pair.{Pair}
use Rattle.pair_format.specs.declared.stored.Stored.{Stored}
use Rattle.pair_format.specs.declared.stored.Stored.TheVariants as stored
use Rattle.pair_format.specs.PairReading.{alone, both, pair_from, read_key, read_u64, read_value, value_fields, with_place, key_fields}
use Rattle.pair_format.specs.PairSpelling.{key_of}
use Rattle.pair_ties.specs.BrokenPairs.{AreBlamelessBefore, HasPair, IsBlameless, IsBlamelessAt, IsFirstBroken, IsRight, keys_named}
use Rattle.pair_ties.specs.PairTies.{AreTied}
use Rattle.pair_ties.proofs.BlameLemmas.{all_are_tied}
use Rattle.pair_trees.specs.Spelled.{AreSpelled}
use Rattle.pair_trees.specs.Things.{HasCountsPair, Things, is_counts_pair, thing_at, thing_of, things_of}
use Rattle.pair_trees.proofs.FoundLemmas.{at_none, at_some}
use Rattle.pair_trees.proofs.ThingsLemmas.{spells_there}

-- ---- the key of the counts

pub any_counts : (pairs : List Pair) → IsTrue (list_any is_counts_pair pairs) ↔ HasCountsPair pairs
any_counts pairs = (λ e. forth pairs e, λ has. back pairs has.0 has.1.0 has.1.1 has.1.2)
  where
    forth : (pairs : List Pair) → list_any is_counts_pair pairs ≡ true → HasCountsPair pairs
    forth [] e = absurd cc
    forth (pair ∷ pairs) e = by (forth pairs) (is_counts_pair pair) refl
      where
        by : (list_any is_counts_pair pairs ≡ true → HasCountsPair pairs) → (b : Bool) → is_counts_pair pair ≡ b → HasCountsPair (pair ∷ pairs)
        by more true is = let same = (bytes_eq-Decides pair.key (90 ∷ [])).0 is in
            (pair.value, (0, omega arith, λ i. record { key = same i; value = pair.value }))
        by more false is = let rest = more (sym (ap (λ b. b || list_any is_counts_pair pairs) is) ∙ e) in
            (rest.0, (suc rest.1.0, omega (arith, rest.1.1), rest.1.2))

    back : (pairs : List Pair) (value : List ℕ) (k : ℕ) → k < length pairs → get_or pairs k (record { key = 90 ∷ []; value = value })
        ≡ record { key = 90 ∷ []; value = value }
        → list_any is_counts_pair pairs ≡ true
    back [] value k lt is = absurd (omega (arith, lt))
    back (pair ∷ pairs) value zero lt is =
        ap (λ b. b || list_any is_counts_pair pairs) (ap is_counts_pair is ∙ (bytes_eq-Decides (90 ∷ []) (90 ∷ [])).1 refl)
    back (pair ∷ pairs) value (suc k) lt is = ap (λ b. is_counts_pair pair || b) (back pairs value k (omega (arith, lt)) is) ∙ or_true (is_counts_pair pair)
      where
        or_true : (b : Bool) → (b || true) ≡ true
        or_true true = refl
        or_true false = refl

field_ok : {A B : Type 0} (r : Result A FieldFault) (f : A → Result B FieldFault) (y : B) → (r >>= f) ≡ Ok y → (x : A) × (r ≡ Ok x) × (f x ≡ Ok y)
field_ok (Ok x) f y e = (x, refl, e)
field_ok (Err fault) f y e = absurd cc

abbrev done : {A : Type 0} → A → Result A FieldFault
done x = Ok x

ok_is : {A : Type 0} (x y : A) → done x ≡ done y → x ≡ y
ok_is x y e = cc

some_is : {X : Type 0} {x y : X} → Some x ≡ Some y → x ≡ y
some_is e = cc

placed_ok : {A : Type 0} (side : ℕ → PairFault) (n : ℕ) (r : Result A FieldFault) (x : A) → result_ok (with_place side n r) ≡ Some x → r ≡ Ok x
placed_ok side n (Ok y) x e = ap (λ z. Ok z) (some_is e)
placed_ok side n (Err fault) x e = absurd cc

alone_ok : {A : Type 0} (x : A × List ℕ) (y : A) → alone x ≡ Ok y → x.0 ≡ y
alone_ok x y e = by (eqb (length x.1) 0) e
  where
    by : (b : Bool) → cond b (Ok x.0) (Err (Bad (length x.1))) ≡ done y → x.0 ≡ y
    by true e = ok_is x.0 y e
    by false e = absurd cc

-- what a pair of that key spells is the counts
pub counts_read : (value : List ℕ) (s : Stored) → thing_of (record { key = 90 ∷ []; value = value }) ≡ Some s → key_of s ≡ key.Counts
unfolding pair_from read_key key_fields value_fields
counts_read value s e =
    let read = placed_ok Value (length value) (read_value key.Counts value) s e in
    let fields = field_ok (value_fields key.Counts value) alone s read in
    let made = field_ok (both read_u64 (both read_u64 read_u64) value)
    (λ x. Ok (stored.Counts x.0.0 x.0.1.0 x.0.1.1, x.1)) fields.0 fields.1 in
    sym (ap key_of (ap (λ (x : Stored × List ℕ). x.0) (ok_is _ fields.0 made.2) ∙ alone_ok fields.0 s fields.2))

-- ---- each pair

some_and : (o : Option Stored) (P : Stored → Type 0) → IsSomeAnd o P → (s : Stored) × (o ≡ Some s) × P s
some_and None P h = absurd h
some_and (Some s) P h = (s, refl, h)

-- what is told of what a pair spells
module _ (cut : Cut) (pairs : List Pair) (things : Things) (at : ℕ) where
  pub right_as : {E : Type 0} (s t : Stored) → s ≡ t → (r : Result Bool E) → IfOk r (λ right. IsTrue right ↔ IsRight cut pairs things at t)
      → IfOk r (λ right. IsTrue right ↔ IsRight cut pairs things at s)
  right_as s t is r told = subst (λ x. IfOk r (λ right. IsTrue right ↔ IsRight cut pairs things at x)) (sym is) told

  pub told_as : (s t : Stored) → s ≡ t → (b : Bool) → IsTrue b ↔ IsRight cut pairs things at t → IsTrue b ↔ IsRight cut pairs things at s
  told_as s t is b told = subst (λ x. IsTrue b ↔ IsRight cut pairs things at x) (sym is) told

  pub blameless_at : {E : Type 0} (s : Stored) → thing_at things at ≡ Some s → (r : Result Bool E)
      → IfOk r (λ blameless. IsTrue blameless ↔ IsBlameless cut pairs things at s) → IfOk r (λ blameless. IsTrue blameless ↔ IsBlamelessAt cut pairs things at)
  blameless_at s is r told = subst (λ o. IfOk r (λ blameless. IsTrue blameless ↔ IsSomeAnd o (IsBlameless cut pairs things at))) (sym is) told

  -- where what it names is there, it is blameless if it is right
  pub named_right : {E : Type 0} (s : Stored) → AllByRecursion (HasPair pairs) (keys_named s) → (r : Result Bool E)
      → IfOk r (λ right. IsTrue right ↔ IsRight cut pairs things at s) → IfOk r (λ blameless. IsTrue blameless ↔ IsBlameless cut pairs things at s)
  named_right s named (Ok b) told = (λ e. record { there = named; right = told.0 e }, λ blameless. told.1 blameless.right)
  named_right s named (Err fault) told = tt

pub at_place : (things : Things) (i : ℕ) (thing : Option Stored) → i < length things → thing ≡ get_or things i thing → thing_at things i ≡ thing
at_place things i thing lt is = ap (option_and_then (λ thing. thing)) (slice_get_read things (length things) i thing refl lt is)

-- one more is blameless
pub blameless_more : (cut : Cut) (pairs : List Pair) (things : Things) (i : ℕ) → AreBlamelessBefore cut pairs things i → IsBlamelessAt cut pairs things i
    → AreBlamelessBefore cut pairs things (i + 1)
blameless_more cut pairs things i before here k lt =
    elim (cases_Bool (ltb k i)) [
      | inl less ↦ before k (ltb-true k i less)
      | inr more ↦ let same : i ≡ k = omega (arith, lt, ltb-false k i more) in subst (IsBlamelessAt cut pairs things) same here
    ]

-- ---- all pairs

module _ (cut : Cut) (pairs : List Pair) (things : Things) (are : AreSpelled pairs things) (has : HasCountsPair pairs) where
  long : length things ≡ length pairs
  long = ap length are.same ∙ length-map pairs thing_of

  -- where none is to blame, the counts are there
  all_tied : AreBlamelessBefore cut pairs things (length things) → AreTied cut things
  all_tied all =
      let k = has.1.0 in
      let pair : Pair = record { key = 90 ∷ []; value = has.0 } in
      let spelled = some_and (thing_at things k) (IsBlameless cut pairs things k) (all k (omega (arith, has.1.1, long))) in
      let here : slice_get pairs k ≡ Some pair = slice_get-get_or pairs k pair has.1.1 ∙ ap (λ p. Some p) has.1.2 in
      let is : thing_at things k ≡ thing_of pair = ap (λ l. thing_at l k) are.same ∙ placed pairs k pair here in
      record {
        counts = record {
          thing = spelled.0;
          there = spells_there things k spelled.0 spelled.1;
          under = counts_read has.0 spelled.0 (sym is ∙ spelled.1);
        };
        each = all_are_tied cut pairs things are all;
      }
    where
      placed : (pairs : List Pair) (k : ℕ) (pair : Pair) → slice_get pairs k ≡ Some pair → thing_at (things_of pairs) k ≡ thing_of pair
      placed [] k pair h = absurd cc
      placed (p ∷ pairs) zero pair h = ap thing_of (inside h)
        where
          inside : {a b : Pair} → Some a ≡ Some b → a ≡ b
          inside h = cc
      placed (p ∷ pairs) (suc k) pair h = placed pairs k pair h

  -- the first that is to blame is the broken one
  first_is_broken : (at : ℕ) → (at < length things) × AreBlamelessBefore cut pairs things at × (IsBlamelessAt cut pairs things at → ⊥)
      → IsFirstBroken cut pairs at
  first_is_broken at first = inr (record {
    counts = has;
    within = omega (arith, first.0, long);
    before = subst (λ l. AreBlamelessBefore cut pairs l at) are.same first.1;
    broken = subst (λ l. IsBlamelessAt cut pairs l at → ⊥) are.same first.2;
  })

  -- what is told of the first, by tables of the same cut
  module _ (other : Cut) (same : other ≡ cut) (o : Option ℕ)
      (told : MatchOption o (AreBlamelessBefore other pairs things (length things))
      (λ at. (at < length things) × AreBlamelessBefore other pairs things at × (IsBlamelessAt other pairs things at → ⊥))) where
    pub some_broken : (at : ℕ) → o ≡ Some at → IsFirstBroken cut pairs at
    some_broken at is = first_is_broken at
        (subst (λ k. (at < length things) × AreBlamelessBefore k pairs things at × (IsBlamelessAt k pairs things at → ⊥)) same (at_some _ _ o at told is))

    pub none_broken : o ≡ None → AreTied cut things
    none_broken is = all_tied (subst (λ k. AreBlamelessBefore k pairs things (length things)) same (at_none _ _ o told is))
