-- What the opening of a lake leaves.
use Rattle.std.specs.Prelude.{◌≡◌, ◌⊎◌, [], Some, IfSome}
use Rattle.lake_base.specs.Outside.{Rose}
use Rattle.keeper.specs.Keepers.{pairs_after}
use Rattle.lake_format.specs.declared.cut.Cut.{Cut}
use Rattle.core_puts.specs.FreshLakes.{fresh_puts}
use Rattle.core_state.specs.FirstStates.{fresh_lake}
use Rattle.core_state.specs.LakeStates.{lake_value}
use Rattle.core_state.specs.declared.lake.LakeState.{LakeState}
use Rattle.lake_core.specs.declared.open_fault.OpenFault.{OpenFault}
use Rattle.lake_core.specs.declared.open_fault.OpenFault.TheVariants.{NoMemory, StoreFault}
use Rattle.lake_core.specs.Lakes.{LakeValue}
use Rattle.core_puts.specs.KeeperViews.{IsCalledOnce, IsLaterKeeper, KeeperView, SucceededOnce}

-- a lake was opened as this one in memory, over this keeper: it has no entries, and its keeper now is its first
pub record IsReopened {K : Type 0} (over : K) (read : LakeState) (lake : LakeValue K) : Type 0 where
  pub opened : lake.opened ≡ read
  pub history : lake.history ≡ []
  pub present : lake.present ≡ read
  pub first : lake.first ≡ over
  pub keeper : lake.keeper ≡ over

-- a keeper, which had no pairs, made the fresh lake's puts by one call
pub record IsFilled {K : Type 0} (view : KeeperView K) (cut : Cut) (old new : K) : Type 0 where
  pub kept : IfSome (view.kept old) (λ before. view.kept new ≡ Some (pairs_after (fresh_puts cut) before))
  pub once : IsCalledOnce view old new
  pub succeeded : SucceededOnce view old new
  pub quiet : view.faults new ≡ view.faults old
  pub keeper : IsLaterKeeper view old new

-- a fresh lake was founded: it has no entries, and its keeper its pairs; its keeper now is its first
pub record IsFounded {K : Type 0} (view : KeeperView K) (cut : Cut) (keeper : K) (lake : LakeValue K) : Type 0 where
  pub opened : lake_value lake.opened ≡ fresh_lake cut
  pub history : lake.history ≡ []
  pub present : lake.present ≡ lake.opened
  pub first : lake.first ≡ lake.keeper
  pub filled : IsFilled view cut keeper lake.keeper

-- what a keeper keeps after a founding that came to this fault: its pairs are as they were, but that one that was called
-- to put may have made the fresh lake's puts where the store failed
abbrev pub KeptBy : {K : Type 0} → KeeperView K → Cut → K → OpenFault → K → Type 0
KeptBy view cut keeper StoreFault back =
    IfSome (view.kept keeper) (λ before. IfSome (view.kept back)
    (λ after. (after ≡ before) ⊎ (IsCalledOnce view keeper back × (after ≡ pairs_after (fresh_puts cut) before))))
KeptBy view cut keeper NoMemory back = view.kept back ≡ view.kept keeper

-- the cause of a fault: the keeper failed, or memory ran out and it didn't fail
abbrev pub HasFoundingCause : {K : Type 0} → KeeperView K → K → OpenFault → K → Type 0
HasFoundingCause view old StoreFault back = Rose (view.faults old) (view.faults back)
HasFoundingCause view old NoMemory back = view.faults back ≡ view.faults old

-- It wasn't, for this fault, and the keeper is handed back, called to put not at all or once. That call didn't come to Ok:
-- so memory never ran out after the keeper's Ok.
pub record IsUnfounded {K : Type 0} (view : KeeperView K) (cut : Cut) (old : K) (fault : OpenFault) (back : K) : Type 0 where
  pub cause : HasFoundingCause view old fault back
  pub kept : KeptBy view cut old fault back
  pub calls : (view.calls back ≡ view.calls old) ⊎ IsCalledOnce view old back
  pub successes : view.successes back ≡ view.successes old
  pub keeper : IsLaterKeeper view old back
