-- What the opening of a lake over a keeper comes to.
use Rattle.std.specs.Prelude.{◌≡◌, ◌⊎◌, List, [], ◌∷◌, Option, None, IfSome, Result, Ok, Err}
use Rattle.std.specs.FinMap.{empty, entries}
use Rattle.lake_base.specs.Maps.{HasAscendingKeys}
use Rattle.lake_base.specs.Outside.{Rose}
use Rattle.lake_format.specs.declared.cut.Cut.{Cut}
use Rattle.pair_format.specs.declared.pair.Pair.{Pair}
use Rattle.keeper.specs.Keepers.{KeptPairs, entries_of, pairs_after}
use Rattle.core_state.specs.FirstStates.{fresh_lake}
use Rattle.core_state.specs.LakeStates.{lake_value}
use Rattle.core_state.specs.declared.lake.LakeState.{LakeState}
use Rattle.core_puts.specs.FreshLakes.{fresh_puts}
use Rattle.core_puts.specs.KeeperViews.{IsCalledOnce, IsLaterKeeper, KeeperView}
use Rattle.core_standing.specs.Standing.{Stands}
use Rattle.core_opening.specs.Opening.{HasCause, IsWholeLake}
use Rattle.core_opening.specs.declared.fault.OpeningFault.TheVariants as reading
use Rattle.lake_core.specs.Lakes.{LakeValue}
use Rattle.lake_core.specs.Opening.{IsFilled, IsFounded}
use Rattle.lake_opening.specs.declared.fault.OpenFault.{OpenFault}
use Rattle.lake_opening.specs.declared.fault.OpenFault.TheVariants.{BadPair, NoMemory, StoreFault, Tree}

-- pairs that were loaded: all that are kept, where they are told, in the order of their keys
pub record AreLoaded (kept : Option KeptPairs) (pairs : List Pair) : Type 0 where
  pub all : IfSome kept (λ before. entries_of pairs ≡ entries before)
  pub ascend : HasAscendingKeys (entries_of pairs)

-- THE LAKE FOR WHICH PAIRS STAND: the fresh one where there are none
abbrev pub IsLakeOf : Cut → List Pair → LakeState → Type 0
IsLakeOf cut [] lake = lake_value lake ≡ fresh_lake cut
IsLakeOf cut (pair ∷ pairs) lake = IsWholeLake cut (pair ∷ pairs) lake

-- a keeper was only read: it keeps what it kept, wasn't called to put, and counted nothing
pub record IsOnlyRead {K : Type 0} (view : KeeperView K) (old new : K) : Type 0 where
  pub kept : view.kept new ≡ view.kept old
  pub calls : view.calls new ≡ view.calls old
  pub successes : view.successes new ≡ view.successes old
  pub quiet : view.faults new ≡ view.faults old

-- what became of the keeper: where it had no pairs it made the fresh lake's puts by one call, else it was only read
abbrev pub IsTakenOver : {K : Type 0} → KeeperView K → Cut → List Pair → K → K → Type 0
IsTakenOver view cut [] old new = IsFilled view cut old new
IsTakenOver view cut (pair ∷ pairs) old new = IsOnlyRead view old new

-- A LAKE WAS OPENED over a keeper, as the lake for which its pairs stand; it has no entries
pub record IsOpened {K : Type 0} (view : KeeperView K) (cut : Cut) (keeper : K) (lake : LakeValue K) : Type 0 where
  pub pairs : List Pair
  pub loaded : AreLoaded (view.kept keeper) pairs
  pub opened : IsLakeOf cut pairs lake.opened
  pub history : lake.history ≡ []
  pub present : lake.present ≡ lake.opened
  pub first : lake.first ≡ lake.keeper
  pub taken : IsTakenOver view cut pairs keeper lake.keeper

-- THE CAUSE OF A FAULT: the keeper failed, and counted it; there are pairs, and the first broken one is told of those that were
-- loaded, or none is broken and the first commit's tree isn't read, and the keeper was only read; or memory ran out, and the keeper
-- counted nothing
abbrev pub HasOpenCause : {K : Type 0} → KeeperView K → Cut → K → OpenFault → K → Type 0
HasOpenCause view cut old StoreFault back = Rose (view.faults old) (view.faults back)
HasOpenCause view cut old (BadPair number) back =
    (pairs : List Pair) × AreLoaded (view.kept old) pairs × HasCause cut pairs (reading.BadPair number) × IsOnlyRead view old back
    × (pairs ≡ [] → ⊥)
HasOpenCause view cut old (Tree commit fault) back =
    (pairs : List Pair) × AreLoaded (view.kept old) pairs × HasCause cut pairs (reading.Tree commit fault) × IsOnlyRead view old back
    × (pairs ≡ [] → ⊥)
HasOpenCause view cut old NoMemory back = view.faults back ≡ view.faults old

-- what a keeper keeps that is handed back: its pairs are as they were; but that one without pairs, which failed in its one call
-- to put, may have those of the fresh lake
abbrev pub KeptBy : {K : Type 0} → KeeperView K → Cut → K → OpenFault → K → Type 0
KeptBy view cut old StoreFault back = IfSome (view.kept old) (λ before. IfSome (view.kept back) (λ after.
    (after ≡ before) ⊎ ((before ≡ empty) × IsCalledOnce view old back × (after ≡ pairs_after (fresh_puts cut) before))))
KeptBy view cut old fault back = view.kept back ≡ view.kept old

-- IT WASN'T, for this fault, and the keeper is handed back, called to put not at all or once; that call didn't come to Ok
pub record IsUnopened {K : Type 0} (view : KeeperView K) (cut : Cut) (old : K) (fault : OpenFault) (back : K) : Type 0 where
  pub cause : HasOpenCause view cut old fault back
  pub kept : KeptBy view cut old fault back
  pub calls : (view.calls back ≡ view.calls old) ⊎ IsCalledOnce view old back
  pub successes : view.successes back ≡ view.successes old
  pub keeper : IsLaterKeeper view old back

-- ---- in two steps

-- a lake in memory was read from a keeper's pairs, and stands for no entries; or there are none, and so none was read
pub record IsRead {K : Type 0} (view : KeeperView K) (cut : Cut) (old new : K) (pairs : List Pair) (found : Option LakeState) : Type 0 where
  pub loaded : AreLoaded (view.kept old) pairs
  pub keeper : IsOnlyRead view old new
  pub some : (pairs ≡ [] → ⊥) → IfSome found (IsWholeLake cut pairs)
  pub stands : IfSome found (λ lake. Stands (lake_value lake) [] (lake_value lake))
  pub none : found ≡ None → pairs ≡ []
  pub there : IfSome found (λ lake. pairs ≡ [] → ⊥)

-- so it was, or it wasn't for this fault
abbrev pub IsReadOver : {K : Type 0} → KeeperView K → Cut → K → K → Result (Option LakeState) OpenFault → Type 0
IsReadOver view cut old new (Ok found) = (pairs : List Pair) × IsRead view cut old new pairs found
IsReadOver view cut old new (Err fault) = IsUnopened view cut old fault new

-- a fresh lake was founded over a keeper without pairs, or wasn't
abbrev pub IsFoundOver : {K : Type 0} → KeeperView K → Cut → K → Result (LakeValue K) (OpenFault × K) → Type 0
IsFoundOver view cut keeper (Ok lake) = IsFounded view cut keeper lake
IsFoundOver view cut keeper (Err refusal) = IsUnopened view cut keeper refusal.0 refusal.1
