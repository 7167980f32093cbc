-- Numbers of objects that are named not by a ticket alone, and the entries that stage them.
use Rattle.std.specs.Prelude.{◌≡◌, ℕ, List, Some}
use Rattle.std.specs.List.{Contains}
use Rattle.std.specs.FinMap.{get}
use Rattle.lake_model.specs.declared.history.HistoryEntry.{HistoryEntry}
use Rattle.lake_model.specs.declared.history.EntryKind.{EntryKind}
use Rattle.lake_model.specs.declared.history.EntryKind.TheVariants.{Accepted, Faulted}
use Rattle.lake_model.specs.declared.history.Operation.{Operation}
use Rattle.lake_model.specs.declared.history.Operation.TheVariants.{Stage}
use Rattle.lake_model.specs.State.{State}
use Rattle.lake_model.specs.Naming.{IsNamedIn}
use Rattle.lake_model.specs.Uncommitted.{put_number}

-- A number is live where a repository names it: in the map of a commit that isn't expired, or in the changes of a branch.
abbrev pub IsLive : State → ℕ → Type 0
IsLive state number = IsNamedIn (λ name r. get state.repositories name ≡ Some r) number

-- an operation stages an own object of the number
abbrev pub OperationStages : ℕ → Operation → Type 0
OperationStages number (Stage repo branch path change) = put_number change ≡ Some number
OperationStages number _ = ⊥

-- one that was accepted does
abbrev pub KindStages : ℕ → EntryKind → Type 0
KindStages number (Accepted operation) = OperationStages number operation
KindStages number (Faulted operation) = ⊥

-- the entry of one that was accepted
abbrev pub StagesNumber : ℕ → HistoryEntry → Type 0
StagesNumber number entry = KindStages number entry.kind

-- one of these entries stages it
pub record IsStagedIn (entries : List HistoryEntry) (number : ℕ) : Type 0 where
  pub entry : HistoryEntry
  pub among : Contains entries entry
  pub stages : StagesNumber number entry
