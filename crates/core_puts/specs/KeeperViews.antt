-- What contracts see of a keeper.
use Rattle.std.specs.Prelude.{◌≡◌, ◌≤◌, ◌⊎◌, ℕ, Option, is_some, option_map}
use Rattle.keeper.specs.Keepers.{KeptPairs}
use Rattle.lake_base.specs.Memory.{next_count}

-- the pairs that a keeper keeps, how often it was called to put and how often that came to Ok, where it tells them, and
-- its count of faults
pub record KeeperView (K : Type 0) : Type 0 where
  pub kept : K → Option KeptPairs
  pub faults : K → ℕ
  pub calls : K → Option ℕ
  pub successes : K → Option ℕ

-- a keeper later on: it tells its pairs where it did, and its count of faults didn't fall
pub record IsLaterKeeper {K : Type 0} (view : KeeperView K) (old new : K) : Type 0 where
  pub told : is_some (view.kept new) ≡ is_some (view.kept old)
  pub later : view.faults old ≤ view.faults new

-- it was called to put once more, where it tells
abbrev pub IsCalledOnce : {K : Type 0} → KeeperView K → K → K → Type 0
IsCalledOnce view old new = view.calls new ≡ option_map next_count (view.calls old)

-- it was called at most once more
abbrev pub IsCalledAtMostOnce : {K : Type 0} → KeeperView K → K → K → Type 0
IsCalledAtMostOnce view old new = (view.calls new ≡ view.calls old) ⊎ IsCalledOnce view old new

-- a call of it to put came to Ok, one more, where it tells
abbrev pub SucceededOnce : {K : Type 0} → KeeperView K → K → K → Type 0
SucceededOnce view old new = view.successes new ≡ option_map next_count (view.successes old)

-- it wasn't called to put, and met no fault
pub record IsNotCalled {K : Type 0} (view : KeeperView K) (old new : K) : Type 0 where
  pub calls : view.calls new ≡ view.calls old
  pub quiet : view.faults new ≡ view.faults old
