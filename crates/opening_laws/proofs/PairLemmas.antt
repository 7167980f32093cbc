-- What stands in a lake, and what the pairs spell that stand for it.
use Rattle.std.proofs.Common.{◌≡◌, ◌⊎◌, inl, inr, ℕ, suc, ◌<◌, Bool, true, false, cond, List, [], ◌∷◌, length, get_or, Option, Some}
use Rattle.std.proofs.Common.{IsSomeAnd, refl, sym, ap, subst, ◌∙◌, arith}
use Rattle.std.specs.List.{Contains}
use Rattle.std.specs.Cmp.{tied_itself}
use Rattle.std.specs.Ordering.{eq_by_cmp}
use Rattle.std.specs.Result.{result_ok}
use Rattle.std.specs.declared.cmp.Ordering.TheVariants.{Equal}
use Rattle.std.specs.FinMap.{find, get-from_sorted}
use Rattle.std.proofs.lemmas.Cmp.{nat_list_cmp_total}
use Rattle.std.proofs.lemmas.List.{get_or-map, length-map}
use Rattle.std.proofs.lemmas.List.Elements.{Contains-get_or}
use Rattle.std.proofs.lemmas.Map.Text.{is_eq-slice_cmp}
use Rattle.std.proofs.lemmas.Option.{slice_get_within}
use Rattle.std.proofs.lemmas.Slice.Eq.{bytes_eq-Decides}
use Rattle.lake_base.specs.Maps.{HasAscendingKeys, byte_order}
use Rattle.lake_base.proofs.MapsLemmas.{find_at}
use Rattle.lake_format.specs.declared.cut.Cut.{Cut}
use Rattle.pair_format.specs.declared.pair.Pair.{Pair}
use Rattle.pair_format.specs.declared.stored.Stored.{Stored}
use Rattle.pair_format.specs.PairReading.{pair_from}
use Rattle.pair_format.specs.PairSpelling.{IsSpelledStored, key_of, key_spelling, value_spelling}
use Rattle.pair_format.proofs.ReadingLemmas.{again}
use Rattle.keeper.specs.Keepers.{entries_of}
use Rattle.pair_trees.specs.Things.{IsThere, Spells, Things, kept_of, thing_of, things_of}
use Rattle.pair_trees.proofs.ThingsLemmas.{there_spells, thing_here}
use Rattle.pair_ties.specs.PairTies.{AreTied, IsTied}
use Rattle.core_state.specs.LakeStates.{LakeStateValue}
use Rattle.core_pairs.specs.LakePairs.{IsFile, IsFilePair, IsPairIn, StandFor, StandsIn}

pub some_is : {X : Type 0} {x y : X} → Some x ≡ Some y → x ≡ y
some_is e = cc

-- ---- pairs as a keeper keeps them

later : {X : Type 0} (y : X) (xs : List X) (x : X) → Contains xs x → Contains (y ∷ xs) x
later y xs x has = (suc has.0, omega (arith, has.1), has.2)

blank : Pair
blank = record { key = []; value = [] }

abbrev entry : Pair → List ℕ × List ℕ
entry pair = (pair.key, pair.value)

-- what is found under a key is a pair's value
pub pair_of_found : (pairs : List Pair) (key value : List ℕ) → find byte_order key (entries_of pairs) ≡ Some value
    → Contains pairs (record { key = key; value = value })
pair_of_found [] key value e = absurd cc
pair_of_found (pair ∷ pairs) key value e = by (eq_by_cmp byte_order key pair.key) refl (pair_of_found pairs key value)
  where
    by : (b : Bool) → eq_by_cmp byte_order key pair.key ≡ b
        → (find byte_order key (entries_of pairs) ≡ Some value → Contains pairs (record { key = key; value = value }))
        → Contains (pair ∷ pairs) (record { key = key; value = value })
    by true same more =
        let value_is : pair.value ≡ value = some_is (sym (ap (λ b. cond b (Some pair.value) (find byte_order key (entries_of pairs))) same) ∙ e) in
        let key_is : key ≡ pair.key = (bytes_eq-Decides key pair.key).0 (sym (is_eq-slice_cmp key pair.key) ∙ same) in
        (0, omega arith, λ i. record { key = sym key_is i; value = value_is i })
    by false apart more =
        later pair pairs (record { key = key; value = value })
        (more (sym (ap (λ b. cond b (Some pair.value) (find byte_order key (entries_of pairs))) apart) ∙ e))

-- a pair's value is found under its key
pub found_of_pair : (pairs : List Pair) (pair : Pair) → HasAscendingKeys (entries_of pairs) → Contains pairs pair
    → find byte_order pair.key (entries_of pairs) ≡ Some pair.value
found_of_pair pairs pair ascend has =
    let here : (d : List ℕ × List ℕ) → get_or (entries_of pairs) has.0 d ≡ entry pair =
    λ d. get_or-map entry pairs has.0 pair d has.1 ∙ ap entry has.2 in
    find_at (entries_of pairs) pair.key has.0 (entry pair) ascend
    (record {
      within = omega (arith, has.1, length-map pairs entry);
      same = λ d. subst (λ (e : List ℕ × List ℕ). byte_order e.0 pair.key ≡ Equal) (sym (here d)) (tied_itself nat_list_cmp_total pair.key);
    })
    ∙ ap (λ (e : List ℕ × List ℕ). Some e.1) (here (entry pair))

-- ---- what pairs spell

-- what a pair spells is there
pub thing_of_pair : (pairs : List Pair) (pair : Pair) → Contains pairs pair → Contains (things_of pairs) (thing_of pair)
thing_of_pair pairs pair has =
    (has.0, omega (arith, has.1, length-map pairs thing_of), get_or-map thing_of pairs has.0 pair (thing_of pair) has.1 ∙ ap thing_of has.2)

-- what is there a pair spells
pub pair_of_thing : (pairs : List Pair) (thing : Option Stored) → Contains (things_of pairs) thing
    → (pair : Pair) × (Contains pairs pair × (thing_of pair ≡ thing))
pair_of_thing pairs thing has =
    let lt : has.0 < length pairs = omega (arith, has.1, length-map pairs thing_of) in
    (get_or pairs has.0 blank, (Contains-get_or pairs has.0 blank lt, sym (get_or-map thing_of pairs has.0 blank thing lt) ∙ has.2))

module _ (pairs : List Pair) (l : LakeStateValue) (ascend : HasAscendingKeys (entries_of pairs)) (stand : StandFor (kept_of pairs) l) where
  -- what stands in the lake is there
  pub stands_there : (s : Stored) → StandsIn l s → IsThere (things_of pairs) s
  stands_there s h =
      let kept = sym (get-from_sorted byte_order (entries_of pairs) (key_spelling (key_of s)) ascend) ∙ stand.each s h in
      subst (Contains (things_of pairs)) (ap result_ok (again s (stand.spelled s h)))
      (thing_of_pair pairs (record { key = key_spelling (key_of s); value = value_spelling s })
      (pair_of_found pairs (key_spelling (key_of s)) (value_spelling s) kept))

  -- what is there stands in the lake, or is a file; and it is within its limits
  pub there_known : (s : Stored) → IsThere (things_of pairs) s → (StandsIn l s ⊎ IsFile s) × IsSpelledStored s
  there_known s there =
      let pair = pair_of_thing pairs (Some s) there in
      by pair.0 pair.1.1
      (stand.only pair.0.key pair.0.value
      (get-from_sorted byte_order (entries_of pairs) pair.0.key ascend ∙ found_of_pair pairs pair.0 ascend pair.1.0))
    where
      one : (t : Stored) → IsSpelledStored t → (pair : Pair) → thing_of pair ≡ Some s → pair.key ≡ key_spelling (key_of t) → pair.value ≡ value_spelling t
          → t ≡ s
      one t within pair is key value =
          let spelled : thing_of pair ≡ result_ok (pair_from (key_spelling (key_of t)) (value_spelling t)) = λ i. result_ok (pair_from (key i) (value i)) in
          some_is (sym (ap result_ok (again t within)) ∙ sym spelled ∙ is)

      by : (pair : Pair) → thing_of pair ≡ Some s → IsPairIn l pair.key pair.value ⊎ IsFilePair pair.key pair.value
          → (StandsIn l s ⊎ IsFile s) × IsSpelledStored s
      by pair is (inl (t, (h, (key, value)))) =
          let same = one t (stand.spelled t h) pair is key value in
          (inl (subst (StandsIn l) same h), subst IsSpelledStored same (stand.spelled t h))
      by pair is (inr (t, (file, (within, (key, value))))) =
          let same = one t within pair is key value in (inr (subst IsFile same file), subst IsSpelledStored same within)

  pub limits : (s : Stored) → IsThere (things_of pairs) s → IsSpelledStored s
  limits s there = (there_known s there).1

  -- what is there and is no file stands in the lake
  pub there_stands : (s : Stored) → (IsFile s → ⊥) → IsThere (things_of pairs) s → StandsIn l s
  there_stands s plain there = by (there_known s there).0
    where
      by : StandsIn l s ⊎ IsFile s → StandsIn l s
      by (inl h) = h
      by (inr file) = absurd (plain file)

-- ---- ties

-- what is there is tied, at its place
pub record IsTiedThere (cut : Cut) (things : Things) (s : Stored) : Type 0 where
  pub place : ℕ
  pub spelled : Spells things place s
  pub tie : IsTied cut things place s

pub tied_there : (cut : Cut) (things : Things) → AreTied cut things → (s : Stored) → IsThere things s → IsTiedThere cut things s
tied_there cut things tied s there =
    let at = there_spells things s there in
    record {
      place = at.0;
      spelled = at.1;
      tie = subst (λ o. IsSomeAnd o (IsTied cut things at.0)) at.1 (tied.each at.0 (slice_get_within things at.0 (Some s) (thing_here things at.0 s at.1)));
    }
