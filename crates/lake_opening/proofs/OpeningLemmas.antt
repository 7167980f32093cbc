-- A lake that is opened over a keeper.
use Rattle.std.proofs.Common.{inl, inr, ◌≡◌, ◌==◌, ℕ, Bool, true, false, List, [], ◌∷◌, length, refl, sym, ap, ◌∙◌, subst, arith}
use Rattle.std.specs.Prelude.{◌⊎◌, Option, Some, None, IfSome, Result, Ok, Err, MatchResult, is_some, option_map}
use Rattle.std.specs.FinMap.{empty, empty_of_len, entries, entries-from_sorted, len-entries, same_entries_map}
use Rattle.keeper.specs.Keepers.{KeptPairs, entries_of, pairs_after}
use Rattle.lake_base.specs.Maps.{HasAscendingKeys, byte_order}
use Rattle.lake_base.specs.Memory.{next_count}
use Rattle.lake_base.specs.Outside.{Rose}
use Rattle.lake_format.specs.declared.cut.Cut.{Cut}
use Rattle.pair_format.specs.declared.pair.Pair.{Pair}
use Rattle.pair_trees.specs.Things.{kept_of}
use Rattle.core_state.specs.LakeStates.{lake_value}
use Rattle.core_state.specs.declared.lake.LakeState.{LakeState}
use Rattle.core_puts.specs.FreshLakes.{fresh_puts}
use Rattle.core_puts.specs.KeeperViews.{IsCalledOnce, IsLaterKeeper, KeeperView}
use Rattle.core_keeping.specs.Following.{FollowLake}
use Rattle.core_opening.specs.Opening.{IsWholeLake}
use Rattle.lake_core.specs.Lakes.{LakeValue}
use Rattle.lake_core.specs.Opening.{IsFilled}
use Rattle.lake_opening.specs.declared.fault.OpenFault.{OpenFault}
use Rattle.lake_opening.specs.declared.fault.OpenFault.TheVariants.{BadPair, NoMemory, StoreFault, Tree}
use Rattle.lake_opening.specs.Opening.{AreLoaded, HasOpenCause, IsFoundOver, IsLakeOf, IsOnlyRead, IsOpened, IsRead, IsUnopened, KeptBy}

-- a keeper that loaded nothing has no pairs
pub had_none : (kept : Option KeptPairs) (pairs : List Pair) → IfSome kept (λ before. entries_of pairs ≡ entries before)
    → pairs ≡ [] → IfSome kept (λ before. before ≡ empty)
had_none None pairs are none = tt
had_none (Some before) pairs are none = empty_of_len before (len-entries before ∙ ap length (sym are ∙ ap entries_of none))

-- pairs were loaded whose list isn't empty
pub some_loaded : (pairs : List Pair) (len : ℕ) (test : Bool) → test ≡ (len == 0) → test ≡ false → length pairs ≡ len → pairs ≡ [] → ⊥
some_loaded pairs len test is fails same none =
    let zero : len ≡ 0 = sym same ∙ ap length none in
    let yes : true ≡ false = ap (λ n. n == 0) (sym zero) ∙ sym is ∙ fails in
    absurd cc

-- a lake that was read of some pairs is the one for which they stand
pub lake_of : (cut : Cut) (pairs : List Pair) (lake : LakeState) → (pairs ≡ [] → ⊥) → IsWholeLake cut pairs lake → IsLakeOf cut pairs lake
lake_of cut [] lake some is = absurd (some refl)
lake_of cut (pair ∷ pairs) lake some is = is

-- ---- the pairs of a lake that was read

-- pairs that were loaded are those that are kept
pub kept_loaded : (pairs : List Pair) (before : KeptPairs) → HasAscendingKeys (entries_of pairs) → entries_of pairs ≡ entries before → kept_of pairs ≡ before
kept_loaded pairs before ascend are = same_entries_map (kept_of pairs) before (entries-from_sorted byte_order (entries_of pairs) ascend ∙ are)

-- they follow the lake that was read of them
module _ (cut : Cut) (pairs : List Pair) (lake : LakeState) (whole : IsWholeLake cut pairs lake) (ascend : HasAscendingKeys (entries_of pairs)) where
  whole_follows : (o : Option KeptPairs) → IfSome o (λ before. entries_of pairs ≡ entries before)
      → IfSome o (λ before. FollowLake before lake.names.files (lake_value lake))
  whole_follows None are = tt
  whole_follows (Some before) are =
      subst (λ kept. FollowLake kept lake.names.files (lake_value lake)) (kept_loaded pairs before ascend are)
      (record { kept = record { stand = whole.read.stand; apart = whole.tokens }; places = whole.places })

pub read_follows : {K : Type 0} (view : KeeperView K) (cut : Cut) (old new : K) (pairs : List Pair) (lake : LakeState)
    → IsRead view cut old new pairs (Some lake) → IfSome (view.kept new) (λ before. FollowLake before lake.names.files (lake_value lake))
read_follows view cut old new pairs lake read =
    whole_follows cut pairs lake (read.some read.there) read.loaded.ascend (view.kept new)
    (subst (λ o. IfSome o (λ before. entries_of pairs ≡ entries before)) (sym read.keeper.kept) read.loaded.all)

-- ---- a lake that is founded behind a reading

module _ {K : Type 0} (view : KeeperView K) (cut : Cut) where
  module _ (old mid : K) (read : IsOnlyRead view old mid) where
    later_since : (new : K) → IsLaterKeeper view mid new → IsLaterKeeper view old new
    later_since new is =
        record { told = is.told ∙ ap is_some read.kept; later = let same = read.quiet in let more = is.later in omega (arith, same, more) }

    pub filled_since : (new : K) → IsFilled view cut mid new → IsFilled view cut old new
    filled_since new is = record {
      kept = subst (λ o. IfSome o (λ before. view.kept new ≡ Some (pairs_after (fresh_puts cut) before))) read.kept is.kept;
      once = is.once ∙ ap (option_map next_count) read.calls;
      succeeded = is.succeeded ∙ ap (option_map next_count) read.successes;
      quiet = is.quiet ∙ read.quiet;
      keeper = later_since new is.keeper;
    }

    read_since : (new : K) → IsOnlyRead view mid new → IsOnlyRead view old new
    read_since new is = record {
      kept = is.kept ∙ read.kept;
      calls = is.calls ∙ read.calls;
      successes = is.successes ∙ read.successes;
      quiet = is.quiet ∙ read.quiet;
    }

    cause_since : (new : K) (fault : OpenFault) → IsUnopened view cut mid fault new → IsUnopened view cut old fault new
    cause_since new fault is = record {
      cause = by fault is.cause;
      kept = keeps fault is.kept;
      calls = called is.calls;
      successes = is.successes ∙ read.successes;
      keeper = later_since new is.keeper;
    }
      where
        called : (view.calls new ≡ view.calls mid) ⊎ IsCalledOnce view mid new → (view.calls new ≡ view.calls old) ⊎ IsCalledOnce view old new
        called (inl none) = inl (none ∙ read.calls)
        called (inr once) = inr (once ∙ ap (option_map next_count) read.calls)

        loads : (pairs : List Pair) → AreLoaded (view.kept mid) pairs → AreLoaded (view.kept old) pairs
        loads pairs are = subst (λ o. AreLoaded o pairs) read.kept are

        keeps : (fault : OpenFault) → KeptBy view cut mid fault new → KeptBy view cut old fault new
        keeps StoreFault is = subst (λ o. IfSome o (λ before. IfSome (view.kept new) (λ after.
            (after ≡ before) ⊎ ((before ≡ empty) × IsCalledOnce view old new × (after ≡ pairs_after (fresh_puts cut) before))))) read.kept
            (subst (λ (calls : Option ℕ). IfSome (view.kept mid) (λ before. IfSome (view.kept new) (λ after.
            (after ≡ before) ⊎ ((before ≡ empty) × (view.calls new ≡ option_map next_count calls) × (after ≡ pairs_after (fresh_puts cut) before)))))
            read.calls is)
        keeps (BadPair number) is = is ∙ read.kept
        keeps (Tree commit fault) is = is ∙ read.kept
        keeps NoMemory is = is ∙ read.kept

        by : (fault : OpenFault) → HasOpenCause view cut mid fault new → HasOpenCause view cut old fault new
        by StoreFault rose = subst (λ n. Rose n (view.faults new)) read.quiet rose
        by (BadPair number) (pairs, loaded, cause, only, some) = (pairs, loads pairs loaded, cause, read_since new only, some)
        by (Tree commit fault) (pairs, loaded, cause, only, some) = (pairs, loads pairs loaded, cause, read_since new only, some)
        by NoMemory quiet = quiet ∙ read.quiet

    -- over a keeper that loaded nothing
    pub founded_since : (answer : Result (LakeValue K) (OpenFault × K)) (pairs : List Pair) → AreLoaded (view.kept old) pairs → pairs ≡ []
        → IsFoundOver view cut mid answer
        → MatchResult answer (IsOpened view cut old) (λ refusal. IsUnopened view cut old refusal.0 refusal.1)
    founded_since (Ok lake) pairs loaded none is = record {
      pairs = [];
      loaded = subst (AreLoaded (view.kept old)) none loaded;
      opened = is.opened;
      history = is.history;
      present = is.present;
      first = is.first;
      taken = filled_since lake.keeper is.filled;
    }
    founded_since (Err refusal) pairs loaded none is = cause_since refusal.1 refusal.0 is
