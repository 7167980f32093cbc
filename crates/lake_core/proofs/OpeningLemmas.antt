-- A lake that is founded over a keeper.
use Rattle.std.proofs.Common.{inl, inr, ◌≡◌, ℕ, List, [], refl, sym, ap, ◌∙◌, subst}
use Rattle.std.specs.Prelude.{◌⊎◌, Option, Some, None, IfSome, Result, Ok, Err, IsErrAnd, MatchResult}
use Rattle.std.specs.FinMap.{empty}
use Rattle.lake_base.specs.Maps.{ByteMap}
use Rattle.keeper.specs.Keepers.{IsQuietUnlessFailed, KeptPairs, MayHaveMade, pairs_after}
use Rattle.keeper.specs.declared.put.Put.{Put}
use Rattle.lake_base.specs.Outside.{Rose}
use Rattle.lake_base.specs.declared.outside.Trouble.{Trouble}
use Rattle.lake_base.specs.declared.outside.Trouble.TheVariants.{Failed, NoMemory}
use Rattle.lake_format.specs.declared.cut.Cut.{Cut}
use Rattle.core_puts.specs.FreshLakes.{fresh_puts}
use Rattle.lake_model.specs.declared.history.HistoryEntry.{HistoryEntry}
use Rattle.core_state.specs.declared.lake.LakeState.{LakeState}
use Rattle.core_state.specs.FirstStates.{fresh_lake}
use Rattle.core_state.specs.LakeStates.{LakeStateValue}
use Rattle.core_state.specs.declared.file_place.FilePlace.{FilePlace}
use Rattle.core_keeping.specs.Following.{FollowLake}
use Rattle.lake_core.specs.declared.open_fault.OpenFault.{OpenFault}
use Rattle.lake_core.specs.OpenFaults.{open_fault_of}
use Rattle.lake_core.specs.Opening.{IsFilled, IsUnfounded}
use Rattle.core_puts.specs.KeeperViews.{IsCalledOnce, IsLaterKeeper, KeeperView}
use Rattle.core_standing.specs.Standing.{Stands}
use Rattle.lake_core.proofs.PairLemmas.{told_made}

-- what a keeper kept of its puts
pub kept_after : (old new : Option KeptPairs) (puts made : List Put) → puts ≡ made
    → IfSome old (λ before. new ≡ Some (pairs_after puts before)) → IfSome old (λ before. new ≡ Some (pairs_after made before))
kept_after old new puts made are kept = subst (λ ps. IfSome old (λ before. new ≡ Some (pairs_after ps before))) are kept

-- a lake that stands for no entries
pub stands_opened : (fresh opened : LakeStateValue) → Stands fresh [] fresh → opened ≡ fresh → Stands opened [] opened
stands_opened fresh opened stands is = subst (λ l. Stands l [] l) (sym is) stands

-- so does one that has none
pub stands_without : (opened present : LakeStateValue) (history : List HistoryEntry) → Stands present [] present
    → opened ≡ present → history ≡ [] → Stands opened history present
stands_without opened present history stands is none =
    subst (λ l. Stands l history present) (sym is) (subst (λ h. Stands present h present) (sym none) stands)

-- a keeper that was out of memory counted no fault
pub quiet_out_of_memory : (before now : ℕ) (trouble : Trouble) → IsQuietUnlessFailed {T = Unit {0}} before now (Err trouble)
    → trouble ≡ NoMemory → now ≡ before
quiet_out_of_memory before now NoMemory quiet is = quiet
quiet_out_of_memory before now Failed quiet is = absurd cc

-- the pairs of a fresh lake follow it, where its keeper had none
pub founded_pairs : {K : Type 0} (view : KeeperView K) (cut : Cut) (old new : K) (files : ByteMap (Option FilePlace)) (present : LakeStateValue)
    → IfSome (view.kept old) (λ pairs. pairs ≡ empty) → IsFilled view cut old new → present ≡ fresh_lake cut
    → FollowLake (pairs_after (fresh_puts cut) empty) files (fresh_lake cut) → IfSome (view.kept new) (λ pairs. FollowLake pairs files present)
founded_pairs view cut old new files present none filled is follow =
    told_made (view.kept old) (view.kept new) (fresh_puts cut) (λ pairs. pairs ≡ empty) (λ pairs. FollowLake pairs files present)
    filled.keeper.told filled.kept none
    (λ pairs are. subst (λ l. FollowLake (pairs_after (fresh_puts cut) pairs) files l) (sym is)
    (subst (λ ps. FollowLake (pairs_after (fresh_puts cut) ps) files (fresh_lake cut)) (sym are) follow))

-- A keeper failed to make the puts, or memory ran out.
module _ {K : Type 0} (view : KeeperView K) (cut : Cut) (old new : K) (made : List Put) (are : made ≡ fresh_puts cut)
    (once : IsCalledOnce view old new) where
  which : (b : KeptPairs) → (after : Option KeptPairs) → IfSome after (MayHaveMade made b)
      → IfSome after (λ a. (a ≡ b) ⊎ (IsCalledOnce view old new × (a ≡ pairs_after (fresh_puts cut) b)))
  which b None may = tt
  which b (Some a) (inl is) = inl is
  which b (Some a) (inr is) = inr (once, is ∙ ap (λ ps. pairs_after ps b) are)

  landed : (before : Option KeptPairs) → IfSome before (λ b. IfSome (view.kept new) (MayHaveMade made b))
      → IfSome before (λ b. IfSome (view.kept new) (λ after. (after ≡ b) ⊎ (IsCalledOnce view old new × (after ≡ pairs_after (fresh_puts cut) b))))
  landed None may = tt
  landed (Some b) may = which b (view.kept new) may

  pub put_failed : (P : LakeState → Type 0) (answer : Result LakeState OpenFault) (trouble : Trouble)
      → IsErrAnd answer (λ e. e ≡ open_fault_of trouble)
      → (trouble ≡ Failed → IfSome (view.kept old) (λ b. IfSome (view.kept new) (MayHaveMade made b)))
      → (trouble ≡ NoMemory → view.kept new ≡ view.kept old)
      → (trouble ≡ Failed → Rose (view.faults old) (view.faults new))
      → (trouble ≡ NoMemory → view.faults new ≡ view.faults old)
      → view.successes new ≡ view.successes old
      → IsLaterKeeper view old new
      → MatchResult answer P (λ fault. IsUnfounded view cut old fault new)
  put_failed P (Ok lake) trouble is failed no_memory rose quiet refused last = absurd is
  put_failed P (Err e) Failed is failed no_memory rose quiet refused last =
      subst (λ fault. IsUnfounded view cut old fault new) (sym is) (record {
        cause = rose refl;
        kept = landed (view.kept old) (failed refl);
        calls = inr once;
        successes = refused;
        keeper = last;
      })
  put_failed P (Err e) NoMemory is failed no_memory rose quiet refused last =
      subst (λ fault. IsUnfounded view cut old fault new) (sym is) (record {
        cause = quiet refl;
        kept = no_memory refl;
        calls = inr once;
        successes = refused;
        keeper = last;
      })
