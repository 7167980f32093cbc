-- What each pair spells that stands for a lake, and at which place.
use Rattle.std.proofs.Common.{◌≡◌, ◌⊎◌, inl, inr, ℕ, zero, suc, ◌<◌, Bool, true, false, ◌||◌, List, [], ◌∷◌, length, take, get_or, Option, Some, None}
use Rattle.std.proofs.Common.{refl, sym, ap, subst, ◌∙◌, arith}
use Rattle.std.specs.Prelude.{nat_eq}
use Rattle.std.specs.List.{slice_get}
use Rattle.std.specs.Option.{option_and_then, option_map}
use Rattle.std.specs.Result.{result_ok}
use Rattle.std.specs.FinMap.{get-from_sorted}
use Rattle.std.proofs.lemmas.List.{length-map}
use Rattle.std.proofs.lemmas.List.Elements.{Contains-get_or}
use Rattle.std.proofs.lemmas.List.Folds.{list_any-append}
use Rattle.std.proofs.lemmas.Option.{slice_get-get_or, slice_get-map, slice_get_within}
use Rattle.lake_base.specs.Maps.{HasAscendingKeys, byte_order}
use Rattle.branch_record.specs.Record.{is_among}
use Rattle.pair_format.specs.declared.pair.Pair.{Pair}
use Rattle.pair_format.specs.declared.stored.Stored.{Stored}
use Rattle.pair_format.specs.PairReading.{pair_from}
use Rattle.pair_format.specs.PairSpelling.{IsSpelledStored, key_of, key_spelling, pair_spelling, value_spelling}
use Rattle.pair_format.proofs.ReadingLemmas.{again}
use Rattle.keeper.specs.Keepers.{entries_of}
use Rattle.pair_trees.specs.Spelled.{AreSpelled}
use Rattle.pair_trees.specs.Things.{IsThere, Spells, Things, kept_of, thing_at, thing_of, things_of, tokens_in, tokens_named}
use Rattle.pair_trees.proofs.SpelledLemmas.{things_apart}
use Rattle.pair_trees.proofs.ThingsLemmas.{there_spells, thing_here}
use Rattle.core_state.specs.LakeStates.{LakeStateValue}
use Rattle.core_pairs.specs.LakePairs.{IsFile, IsFilePair, IsPairIn, StandFor, StandsIn}
use Rattle.opening_laws.proofs.PairLemmas.{found_of_pair, some_is}

blank : Pair
blank = record { key = []; value = [] }

-- ---- tokens

-- one of the branches before a place names a token
pub record IsNamedBefore (things : Things) (n token : ℕ) : Type 0 where
  pub place : ℕ
  pub thing : Stored
  pub less : place < n
  pub spelled : Spells things place thing
  pub among : is_among (tokens_in (Some thing)) token ≡ true

pub named_by : (things : Things) (n token : ℕ) → is_among (tokens_named (take n things)) token ≡ true → IsNamedBefore things n token
named_by [] zero token e = absurd cc
named_by [] (suc n) token e = absurd cc
named_by (thing ∷ things) zero token e = absurd cc
named_by (thing ∷ things) (suc n) token e =
    by thing (is_among (tokens_in thing) token) refl
    (sym (list_any-append (λ named. nat_eq named token) (tokens_in thing) (tokens_named (take n things))) ∙ e) (named_by things n token)
  where
    by : (first : Option Stored) (b : Bool) → is_among (tokens_in first) token ≡ b → (b || is_among (tokens_named (take n things)) token) ≡ true
        → (is_among (tokens_named (take n things)) token ≡ true → IsNamedBefore things n token) → IsNamedBefore (first ∷ things) (suc n) token
    by None true is both more = absurd cc
    by (Some s) true is both more = record { place = 0; thing = s; less = omega arith; spelled = refl; among = is }
    by first false is both more =
        let rest = more both in
        record { place = suc rest.place; thing = rest.thing; less = omega (arith, rest.less); spelled = rest.spelled; among = rest.among }

-- what is spelled names its tokens
pub named_there : (things : Things) (k : ℕ) (s : Stored) (token : ℕ) → Spells things k s → is_among (tokens_in (Some s)) token ≡ true
    → is_among (tokens_named things) token ≡ true
named_there [] k s token is among = absurd cc
named_there (thing ∷ things) zero s token is among =
    list_any-append (λ named. nat_eq named token) (tokens_in thing) (tokens_named things)
    ∙ ap (λ b. b || is_among (tokens_named things) token) (ap (λ t. is_among (tokens_in t) token) is ∙ among)
named_there (thing ∷ things) (suc k) s token is among =
    list_any-append (λ named. nat_eq named token) (tokens_in thing) (tokens_named things)
    ∙ ap (λ b. is_among (tokens_in thing) token || b) (named_there things k s token is among)
    ∙ or_true (is_among (tokens_in thing) token)
  where
    or_true : (b : Bool) → (b || true) ≡ true
    or_true true = refl
    or_true false = refl

-- ---- places

module _ (pairs : List Pair) (l : LakeStateValue) (ascend : HasAscendingKeys (entries_of pairs)) (stand : StandFor (kept_of pairs) l) where
  abbrev things : Things
  things = things_of pairs

  -- a pair spells something that stands in the lake, or a file
  pub record IsSpelledHere (n : ℕ) : Type 0 where
    pub thing : Stored
    pub spelled : Spells things n thing
    pub at : slice_get pairs n ≡ Some (pair_spelling thing)
    pub within : IsSpelledStored thing
    pub known : StandsIn l thing ⊎ IsFile thing

  pub spelled_here : (n : ℕ) → n < length pairs → IsSpelledHere n
  spelled_here n lt =
      by (get_or pairs n blank) (slice_get-get_or pairs n blank lt)
      (stand.only (get_or pairs n blank).key (get_or pairs n blank).value
      (get-from_sorted byte_order (entries_of pairs) (get_or pairs n blank).key ascend
      ∙ found_of_pair pairs (get_or pairs n blank) ascend (Contains-get_or pairs n blank lt)))
    where
      made : (pair : Pair) → slice_get pairs n ≡ Some pair → (t : Stored) → StandsIn l t ⊎ IsFile t → IsSpelledStored t
          → pair.key ≡ key_spelling (key_of t) → pair.value ≡ value_spelling t → IsSpelledHere n
      made pair at t known within key value =
          let is : pair ≡ pair_spelling t = λ i. record { key = key i; value = value i } in
          let spells : thing_of pair ≡ Some t = (λ i. result_ok (pair_from (key i) (value i))) ∙ ap result_ok (again t within) in
          record {
            thing = t;
            spelled = ap (option_and_then (λ thing. thing)) (slice_get-map thing_of pairs n ∙ ap (option_map thing_of) at) ∙ spells;
            at = at ∙ ap (λ p. Some p) is;
            within = within;
            known = known;
          }

      by : (pair : Pair) → slice_get pairs n ≡ Some pair → IsPairIn l pair.key pair.value ⊎ IsFilePair pair.key pair.value → IsSpelledHere n
      by pair at (inl (t, (h, (key, value)))) = made pair at t (inl h) (stand.spelled t h) key value
      by pair at (inr (t, (file, (within, (key, value))))) = made pair at t (inr file) within key value

  pub are_spelled : AreSpelled pairs things
  are_spelled = record {
    ascend = ascend;
    same = refl;
    each = λ n s spells.
        let lt : n < length pairs = omega (arith, slice_get_within things n (Some s) (thing_here things n s spells), length-map pairs thing_of) in
        let here = spelled_here n lt in
        let same = some_is (sym here.spelled ∙ spells) in
        record {
          limits = subst IsSpelledStored same here.within;
          at = subst (λ t. slice_get pairs n ≡ Some (pair_spelling t)) same here.at;
        };
  }

  -- of two things of one key both are one
  pub one_thing : (s t : Stored) → IsThere things s → IsThere things t → key_of s ≡ key_of t → s ≡ t
  one_thing s t one two same =
      let here = there_spells things s one in
      let there = there_spells things t two in
      let place : here.0 ≡ there.0 = things_apart pairs things are_spelled here.0 there.0 s t here.1 there.1 same in
      some_is (sym here.1 ∙ ap (thing_at things) place ∙ there.1)

  -- and stand at one place
  pub one_place : (n m : ℕ) (s t : Stored) → Spells things n s → Spells things m t → key_of s ≡ key_of t → n ≡ m
  one_place n m s t here there same = things_apart pairs things are_spelled n m s t here there same
