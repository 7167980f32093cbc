-- Repositories and numbers that are gone join a lake.
use Rattle.std.proofs.Common.{◌≡◌, ◌⊎◌, inl, inr, ℕ, Bool, true, false, cond, List, Option, Some, None, refl, sym, ap, subst, ◌∙◌}
use Rattle.std.specs.Bool.{nat_eq}
use Rattle.std.specs.Option.{is_some}
use Rattle.std.specs.Ordering.{eq_by_cmp, nat_cmp}
use Rattle.std.specs.Cmp.{nat_cmp_total, nat_eq_equiv, unsigned_tied}
use Rattle.std.specs.FinMap.{FinMap, contains_key, empty, get, insert, get-empty, get-insert}
use Rattle.std.specs.List.{Contains}
use Rattle.std.proofs.lemmas.Bool.{eqb-true}
use Rattle.lake_format.specs.declared.cut.Cut.{Cut}
use Rattle.byte_map.proofs.ByteMapLemmas.{get_empty}
use Rattle.pair_format.specs.declared.key.OwnedKey.TheVariants as key
use Rattle.pair_format.specs.declared.stored.Stored.{Stored}
use Rattle.pair_format.specs.declared.stored.Stored.TheVariants as stored
use Rattle.pair_format.specs.PairSpelling.{IsSpelledStored, key_of}
use Rattle.pair_trees.specs.Things.{IsThere, Things}
use Rattle.core_state.specs.RepositoryStates.{RepositoryStateValue}
use Rattle.core_state.specs.LakeStates.{LakeStateValue}
use Rattle.core_filling.specs.Filling.{bare_repository}
use Rattle.core_pairs.specs.LakePairs.{StandsIn}
use Rattle.core_pairs.proofs.RepositoryPutLemmas.{makes_bare}
use Rattle.core_pairs.proofs.ThingLemmas.{IsIn, IsRepository, LakeThing, closed, into}
use Rattle.opening_parts.specs.Filled.{counted_lake}
use Rattle.opening_parts.specs.Fillings.{from_last, with_base, with_gone}
use Rattle.core_opening.proofs.ShowsLemmas.{And, AreApart, IsFresh, Shows, run, shows_more}

-- ---- the lake at first

-- nothing but the counts stands there
module _ (cut : Cut) (counts : ℕ × ℕ × ℕ) where
  abbrev pub first_thing : Stored
  first_thing = stored.Counts counts.0 counts.1 counts.2

  only_counts : (s : Stored) → LakeThing (counted_lake cut counts) s ⊎ IsIn (counted_lake cut counts) s → first_thing ≡ s
  only_counts (stored.Counts number version token) (inl (a, (b, c))) = cc
  only_counts (stored.Gone number) (inl h) = let none = get-empty {X = Unit {0}} nat_cmp number in absurd cc
  only_counts s (inl h) = absurd h
  only_counts s (inr i) = let at = i.in_lake in let none = get_empty {X = RepositoryStateValue} i.q in absurd cc

  pub shows_first : Shows (counted_lake cut counts) (λ s. first_thing ≡ s)
  shows_first = record {
    stands = λ s same. subst (StandsIn (counted_lake cut counts)) same (refl, (refl, refl));
    only = λ s h. only_counts s (into (counted_lake cut counts) s h);
  }

-- ---- one that joins

abbrev pub is_base : Stored → Bool
is_base (stored.Repository repo created default_branch settings) = true
is_base (stored.Gone number) = true
is_base _ = false

module _ (l : LakeStateValue) (number : ℕ) where
  same_number : (m : ℕ) → eq_by_cmp nat_cmp m number ≡ true → m ≡ number
  same_number m e = eqb-true m number (sym (unsigned_tied m number) ∙ e)

  itself : eq_by_cmp nat_cmp number number ≡ true
  itself = unsigned_tied number number ∙ nat_eq_equiv.refl number

  at_gone : (m : ℕ) → contains_key (insert l.gone number tt) m ≡ is_some (cond (eq_by_cmp nat_cmp m number) (Some tt) (get l.gone m))
  at_gone m = ap is_some (get-insert nat_cmp_total l.gone number tt m)

  gone_stays : (s : Stored) → StandsIn l s → StandsIn (with_gone number l) s
  gone_stays (stored.Gone m) h = at_gone m ∙ by (eq_by_cmp nat_cmp m number)
    where
      by : (test : Bool) → is_some (cond test (Some tt) (get l.gone m)) ≡ true
      by true = refl
      by false = h
  gone_stays s h = h

  gone_there : StandsIn (with_gone number l) (stored.Gone number)
  gone_there = at_gone number ∙ ap (λ test. is_some (cond test (Some tt) (get l.gone number))) itself

  gone_was : (s : Stored) → StandsIn (with_gone number l) s → (stored.Gone number ≡ s) ⊎ StandsIn l s
  gone_was (stored.Gone m) h = by (eq_by_cmp nat_cmp m number) refl (sym (at_gone m) ∙ h)
    where
      by : (test : Bool) → eq_by_cmp nat_cmp m number ≡ test → is_some (cond test (Some tt) (get l.gone m)) ≡ true
          → (stored.Gone number ≡ stored.Gone m) ⊎ StandsIn l (stored.Gone m)
      by true e there = inl (ap (λ n. stored.Gone n) (sym (same_number m e)))
      by false e there = inr there
  gone_was s h = inr h

  pub shows_gone : (E : Stored → Type 0) → Shows l E → Shows (with_gone number l) (And (stored.Gone number) E)
  shows_gone E shows = record { stands = stands; only = λ s h. only s (gone_was s h) }
    where
      stands : (s : Stored) → And (stored.Gone number) E s → StandsIn (with_gone number l) s
      stands s (inl same) = subst (StandsIn (with_gone number l)) same gone_there
      stands s (inr e) = gone_stays s (shows.stands s e)

      only : (s : Stored) → (stored.Gone number ≡ s) ⊎ StandsIn l s → And (stored.Gone number) E s
      only s (inl same) = inl same
      only s (inr h) = inr (shows.only s h)

-- no repository of this name stands there yet
pub none_yet : (l : LakeStateValue) (E : Stored → Type 0) (repo : List ℕ) → Shows l E → IsFresh E (key.Repository repo) → get l.repositories repo ≡ None
none_yet l E repo shows fresh = by (get l.repositories repo) refl
  where
    by : (o : Option RepositoryStateValue) → get l.repositories repo ≡ o → get l.repositories repo ≡ None
    by None e = e
    by (Some r) e =
        absurd (fresh (stored.Repository repo r.created r.default_branch r.settings)
        (shows.only (stored.Repository repo r.created r.default_branch r.settings)
        (closed (get l.repositories repo) (IsRepository r.created r.default_branch r.settings) r e (refl, (refl, refl)))) refl)

-- ---- all of them

module _ (things : Things) (limits : (s : Stored) → IsThere things s → IsSpelledStored s) (distinct : AreApart things)
    (cut : Cut) (counts : ℕ × ℕ × ℕ) where
  abbrev Before : Stored → Type 0
  Before s = first_thing cut counts ≡ s

  skips : (x : Stored) (l : LakeStateValue) → is_base x ≡ false → with_base (Some x) l ≡ l
  skips (stored.Repository repo created default_branch settings) l e = absurd cc
  skips (stored.Gone number) l e = absurd cc
  skips x l e = refl

  step : (x : Stored) (E : Stored → Type 0) (l : LakeStateValue) → IsThere things x → is_base x ≡ true → Shows l E → ((s : Stored) → Before s → E s) → Unit {0}
      → IsFresh E (key_of x) → Shows (with_base (Some x) l) (And x E) × Unit {0}
  step (stored.Repository repo created default_branch settings) E l there is shows keeps good fresh = (
    shows_more l repo None (bare_repository created default_branch settings) (stored.Repository repo created default_branch settings) E
        (none_yet l E repo shows fresh)
        (makes_bare l repo created default_branch settings (limits (stored.Repository repo created default_branch settings) there)) shows fresh,
    tt,
  )
  step (stored.Gone number) E l there is shows keeps good fresh = (shows_gone l number E shows, tt)
  step x E l there is shows keeps good fresh = absurd cc

  apart : (x s : Stored) → is_base x ≡ true → Before s → key_of s ≡ key_of x → ⊥
  apart x s is same e = by x is (ap key_of same ∙ e)
    where
      by : (x : Stored) → is_base x ≡ true → key.Counts ≡ key_of x → ⊥
      by (stored.Repository repo created default_branch settings) is e = cc
      by (stored.Gone number) is e = cc
      by x is e = cc

  -- what stands then
  abbrev pub Bases : Stored → Type 0
  Bases s = ((is_base s ≡ true) × IsThere things s) ⊎ Before s

  pub shows_bases : Shows (from_last with_base things (counted_lake cut counts)) Bases
  shows_bases =
      (run with_base is_base Before (IsThere things) (λ l. Unit {0}) (λ l. refl) skips step apart (counted_lake cut counts) (shows_first cut counts) tt
      things distinct (λ x has. has)).0
