-- What stands in a lake, as things join it.
use Rattle.std.proofs.Common.{◌≡◌, ◌⊎◌, inl, inr, ℕ, zero, suc, Bool, true, false, [], List, ◌∷◌, Option, Some, None, refl, sym, ap, subst, arith}
use Rattle.std.specs.FinMap.{get}
use Rattle.std.specs.List.{Contains}
use Rattle.lake_values.proofs.OrderLemmas.{Contains-first, Contains-later, Contains-nothing, first_or_later}
use Rattle.pair_format.specs.declared.key.OwnedKey.{OwnedKey}
use Rattle.pair_format.specs.declared.stored.Stored.{Stored}
use Rattle.pair_format.specs.PairSpelling.{key_of}
use Rattle.pair_trees.specs.Things.{Spells, Things}
use Rattle.pair_trees.proofs.ThingsLemmas.{there_spells}
use Rattle.core_state.specs.RepositoryStates.{RepositoryStateValue}
use Rattle.core_state.specs.LakeStates.{LakeStateValue}
use Rattle.core_pairs.specs.LakePairs.{StandsIn}
use Rattle.core_pairs.proofs.StandLemmas.{Turns}
use Rattle.core_pairs.proofs.ThingLemmas.{Makes, new_stands, turns, with_one}
use Rattle.opening_parts.specs.Fillings.{from_last}

-- just these things stand in a lake
pub record Shows (l : LakeStateValue) (D : Stored → Type 0) : Type 0 where
  pub stands : (s : Stored) → D s → StandsIn l s
  pub only : (s : Stored) → StandsIn l s → D s

-- the same things in other words
pub shows_as : (l : LakeStateValue) (D E : Stored → Type 0) → Shows l D → ((s : Stored) → D s → E s) → ((s : Stored) → E s → D s) → Shows l E
shows_as l D E shows into back = record { stands = λ s e. shows.stands s (back s e); only = λ s h. into s (shows.only s h) }

-- ---- one thing more

-- none of these has this key
abbrev pub IsFresh : (Stored → Type 0) → OwnedKey → Type 0
IsFresh D k = (s : Stored) → D s → key_of s ≡ k → ⊥

abbrev pub And : Stored → (Stored → Type 0) → Stored → Type 0
And x D s = (x ≡ s) ⊎ D s

module _ (l : LakeStateValue) (q : List ℕ) (was : Option RepositoryStateValue) (r : RepositoryStateValue) (x : Stored) (D : Stored → Type 0)
    (at : get l.repositories q ≡ was) (makes : Makes l q was r (key_of x) (Some x)) (shows : Shows l D) (fresh : IsFresh D (key_of x)) where
  turned_so : Turns (StandsIn l) (StandsIn (with_one l q r)) (key_of x) (Some x)
  turned_so = turns l q was r (key_of x) (Some x) at makes

  stands_then : (s : Stored) → And x D s → StandsIn (with_one l q r) s
  stands_then s (inl same) = new_stands l q r s (makes.new s (ap Some same)).1.1
  stands_then s (inr d) = turned_so.stays s (shows.stands s d) (fresh s d)

  only_then : (s : Stored) → (Some x ≡ Some s) ⊎ (StandsIn l s × (key_of s ≡ key_of x → ⊥)) → And x D s
  only_then s (inl is) = let same : x ≡ s = cc in inl same
  only_then s (inr (old, apart)) = inr (shows.only s old)

  -- it joins the lake
  pub shows_more : Shows (with_one l q r) (And x D)
  shows_more = record { stands = stands_then; only = λ s h. only_then s (turned_so.either s h) }

-- ---- things of which no two have one key

abbrev pub AreApart : Things → Type 0
AreApart [] = Unit {0}
AreApart (t ∷ ts) = ((x s : Stored) → t ≡ Some x → Contains ts (Some s) → key_of s ≡ key_of x → ⊥) × AreApart ts

-- two of one key stand in one place
abbrev pub HaveOnePlace : Things → Type 0
HaveOnePlace things = (n m : ℕ) (s t : Stored) → Spells things n s → Spells things m t → key_of s ≡ key_of t → n ≡ m

first_apart : (t : Option Stored) (ts : Things) → HaveOnePlace (t ∷ ts) → (x s : Stored) → t ≡ Some x → Contains ts (Some s) → key_of s ≡ key_of x → ⊥
first_apart t ts one x s is has same =
    let place = there_spells ts s has in
    let e : suc place.0 ≡ zero = one (suc place.0) zero s x place.1 is same in
    absurd (omega (arith, e))

pub apart_of : (things : Things) → HaveOnePlace things → AreApart things
apart_of [] one = tt
apart_of (t ∷ ts) one = (
  first_apart t ts one,
  apart_of ts (λ n m s x here there same. let e = one (suc n) (suc m) s x here there same in omega (arith, e)),
)

-- ---- all things of some kinds join

module _ (f : Option Stored → LakeStateValue → LakeStateValue) (does : Stored → Bool) (D There : Stored → Type 0) (Good : LakeStateValue → Type 0)
    (none : (l : LakeStateValue) → f None l ≡ l)
    (skips : (x : Stored) (l : LakeStateValue) → does x ≡ false → f (Some x) l ≡ l)
    (step : (x : Stored) (E : Stored → Type 0) (l : LakeStateValue) → There x → does x ≡ true → Shows l E → ((s : Stored) → D s → E s) → Good l
    → IsFresh E (key_of x) → Shows (f (Some x) l) (And x E) × Good (f (Some x) l))
    (apart : (x s : Stored) → does x ≡ true → D s → key_of s ≡ key_of x → ⊥)
    (l : LakeStateValue) (shows : Shows l D) (good : Good l) where
  -- those of these kinds, and what stood before
  abbrev pub Joined : Things → Stored → Type 0
  Joined ts s = ((does s ≡ true) × Contains ts (Some s)) ⊎ D s

  abbrev IsRun : Things → Type 0
  IsRun ts = Shows (from_last f ts l) (Joined ts) × Good (from_last f ts l)

  none_joined : (s : Stored) → Joined [] s → D s
  none_joined s (inl (is, has)) = absurd (Contains-nothing (Some s) has)
  none_joined s (inr d) = d

  grown : (t : Option Stored) (ts : Things) (s : Stored) → Joined ts s → Joined (t ∷ ts) s
  grown t ts s (inl (is, has)) = inl (is, Contains-later t (Some s) ts has)
  grown t ts s (inr d) = inr d

  -- where the first one isn't of these kinds
  skipped : (t : Option Stored) (ts : Things) → f t (from_last f ts l) ≡ from_last f ts l → ((s : Stored) → does s ≡ true → t ≡ Some s → ⊥)
      → IsRun ts → IsRun (t ∷ ts)
  skipped t ts stays other rest = (
    subst (λ m. Shows m (Joined (t ∷ ts))) (sym stays) (shows_as (from_last f ts l) (Joined ts) (Joined (t ∷ ts)) rest.0 (grown t ts) back),
    subst Good (sym stays) rest.1,
  )
    where
      by : (s : Stored) → does s ≡ true → (t ≡ Some s) ⊎ Contains ts (Some s) → Joined ts s
      by s is (inl first) = absurd (other s is first)
      by s is (inr later) = inl (is, later)

      back : (s : Stored) → Joined (t ∷ ts) s → Joined ts s
      back s (inl (is, has)) = by s is (first_or_later t (Some s) ts has)
      back s (inr d) = inr d

  -- where it is
  joined : (x : Stored) (ts : Things) → There x → does x ≡ true → AreApart (Some x ∷ ts) → IsRun ts → IsRun (Some x ∷ ts)
  joined x ts there is distinct rest =
      let next = step x (Joined ts) (from_last f ts l) there is rest.0 (λ s d. inr d) rest.1 fresh in
      (shows_as (f (Some x) (from_last f ts l)) (And x (Joined ts)) (Joined (Some x ∷ ts)) next.0 into back, next.1)
    where
      fresh : IsFresh (Joined ts) (key_of x)
      fresh s (inl (is, has)) same = distinct.0 x s refl has same
      fresh s (inr d) same = apart x s is d same

      into : (s : Stored) → And x (Joined ts) s → Joined (Some x ∷ ts) s
      into s (inl same) = inl (subst (λ s. (does s ≡ true) × Contains (Some x ∷ ts) (Some s)) same (is, Contains-first (Some x) ts))
      into s (inr old) = grown (Some x) ts s old

      by : (s : Stored) → does s ≡ true → (Some x ≡ Some s) ⊎ Contains ts (Some s) → And x (Joined ts) s
      by s of (inl first) = let same : x ≡ s = cc in inl same
      by s of (inr later) = inr (inl (of, later))

      back : (s : Stored) → Joined (Some x ∷ ts) s → And x (Joined ts) s
      back s (inl (of, has)) = by s of (first_or_later (Some x) (Some s) ts has)
      back s (inr d) = inr (inr d)

  one_more : (t : Option Stored) (ts : Things) → AreApart (t ∷ ts) → ((x : Stored) → Contains (t ∷ ts) (Some x) → There x) → IsRun ts → IsRun (t ∷ ts)
  one_more None ts distinct there rest = skipped None ts (none (from_last f ts l)) (λ s is same. absurd cc) rest
  one_more (Some x) ts distinct there rest = by (does x) refl
    where
      by : (test : Bool) → does x ≡ test → IsRun (Some x ∷ ts)
      by true e = joined x ts (there x (Contains-first (Some x) ts)) e distinct rest
      by false e =
          skipped (Some x) ts (skips x (from_last f ts l) e)
          (λ s is same. let one : x ≡ s = cc in let test : does x ≡ true = subst (λ s. does s ≡ true) (sym one) is in absurd cc) rest

  pub run : (ts : Things) → AreApart ts → ((x : Stored) → Contains ts (Some x) → There x) → IsRun ts
  run [] distinct there = (shows_as l D (Joined []) shows (λ s d. inr d) none_joined, good)
  run (t ∷ ts) distinct there =
      one_more t ts distinct there (run ts distinct.1 (λ x has. there x (Contains-later t (Some x) ts has)))
