-- What a change leaves of a lake.
use Rattle.std.specs.Prelude.{◌≡◌, Option, Result}
use Rattle.lake_model.specs.declared.fault.StepFault.{StepFault}
use Rattle.lake_model.specs.declared.history.By.{By}
use Rattle.core_puts.specs.KeeperViews.{KeeperView}
use Rattle.core_puts.specs.KeptChanges.{LeavesParts, Making, Parts}
use Rattle.lake_core.specs.Lakes.{LakeValue}

-- a lake was opened as another, over the same keeper
pub record IsOpenedAs {K : Type 0} (old new : LakeValue K) : Type 0 where
  pub opened : new.opened ≡ old.opened
  pub first : new.first ≡ old.first

-- a lake without what it was opened as
abbrev pub parts_of : {K : Type 0} → LakeValue K → Parts K
parts_of lake = record { keeper = lake.keeper; history = lake.history; present = lake.present }

-- A change leaves what it was opened as, and over which keeper, and of its parts what `LeavesParts` says: where it was
-- accepted it was made, once; where the store failed its fault stands; and where it was refused the lake is the same.
abbrev pub Leaves : {K X : Type 0} → KeeperView K → By → Option Making → Result X StepFault → LakeValue K → LakeValue K → Type 0
Leaves view by made answer old new =
    IsOpenedAs old new × LeavesParts view by made answer (parts_of old) (parts_of new)
