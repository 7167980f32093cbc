-- What entries ask of the bodies that are held, and how these may change.
use Rattle.std.specs.Prelude.{◌≡◌, ℕ, List, Option, Some}
use Rattle.lake_values.specs.declared.entry.Change.TheVariants.{Put}
use Rattle.lake_model.specs.declared.history.EntryKind.{EntryKind}
use Rattle.lake_model.specs.declared.history.EntryKind.TheVariants.{Accepted, Faulted}
use Rattle.lake_model.specs.declared.history.HistoryEntry.{HistoryEntry}
use Rattle.lake_model.specs.declared.history.Operation.{Operation}
use Rattle.lake_model.specs.declared.history.Operation.TheVariants.{Stage}
use Rattle.lake_model.specs.State.{State}
use Rattle.lake_laws.specs.LiveNumbers.{IsLive, IsStagedIn}
use Rattle.lake_calls.specs.Calls.{UploadCall}
use Rattle.lake_calls.specs.HeldBodies.{HoldsBody}
use Rattle.lake_calls.specs.Requests.{Asks, CallRequest}
use Rattle.lake_calls.specs.declared.call.Call.TheVariants.{Objects}
use Rattle.lake_calls.specs.declared.objects.ObjectCall.TheVariants as object

-- bodies under numbers
abbrev pub Bodies : Type 0
Bodies = ℕ → Option (List ℕ)

-- an operation stages nothing, or an object outside, or an own object whose body is held
abbrev pub OperationHolds : Bodies → Operation → Type 0
OperationHolds held (Stage repo branch path (Put entry)) = HoldsBody held entry
OperationHolds held operation = Unit {0}

abbrev pub KindHolds : Bodies → EntryKind → Type 0
KindHolds held (Accepted operation) = OperationHolds held operation
KindHolds held (Faulted operation) = Unit {0}

-- so does the entry of one that was accepted
abbrev pub StagesHeld : Bodies → HistoryEntry → Type 0
StagesHeld held entry = KindHolds held entry.kind

-- under each number that is live in a state the same is held
abbrev pub KeepsLive : State → (held now : Bodies) → Type 0
KeepsLive state held now = (number : ℕ) → IsLive state number → now number ≡ held number

-- the body that a call uploads is held under each number that these entries stage
abbrev pub HoldsUploads : CallRequest → List HistoryEntry → Bodies → Type 0
HoldsUploads request entries now = (u : UploadCall) (number : ℕ) → request.asked ≡ Asks (Objects (object.Upload u)) → IsStagedIn entries number
    → now number ≡ Some u.body
