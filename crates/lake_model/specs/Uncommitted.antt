-- Tickets of uploads, and the changes of a branch that aren't committed.
use Rattle.std.specs.Prelude.{◌≡◌, ◌+◌, ℕ, List, Option, Some, None, IfSome, option_map, option_and_then, if◌then◌else◌, not, ◌&&◌, is_some}
use Rattle.std.specs.FinMap.{empty, get, insert, remove}
use Rattle.lake_values.specs.Ancestry.{commit_of}
use Rattle.lake_values.specs.Entry.{EntryValue}
use Rattle.lake_values.specs.KeyMap.{KeyMapValue, over}
use Rattle.lake_values.specs.Reset.{changes_after_reset}
use Rattle.lake_values.specs.declared.commit.ResetWhat.{ResetWhat}
use Rattle.lake_values.specs.declared.entry.Place.{Place}
use Rattle.lake_values.specs.declared.entry.Place.TheVariants.{Own, External}
use Rattle.lake_values.specs.declared.entry.Change.{Change}
use Rattle.lake_values.specs.declared.entry.Change.TheVariants.{Put, Delete}
use Rattle.lake_model.specs.declared.history.CopySource.{CopySource}
use Rattle.lake_model.specs.declared.history.CopySource.TheVariants as source
use Rattle.lake_model.specs.declared.history.SealFor.{SealFor}
use Rattle.lake_model.specs.declared.history.SealFor.TheVariants as seal
use Rattle.lake_model.specs.State.{Branch, Repository, State, HasBranch, map_of, is_expired, now_map}
use Rattle.lake_model.specs.Parts.{in_branch}
use Rattle.lake_model.specs.Branches.{IsUnprotected}

-- the number of an object of the lake's own
abbrev pub own_number : Place → Option ℕ
own_number (Own number digest) = Some number
own_number (External at checksum) = None

-- the number that a change puts
abbrev pub put_number : Change → Option ℕ
put_number (Put entry) = own_number entry.place
put_number Delete = None

-- the number is on a ticket of this seat
abbrev pub HasTicket : State → ℕ → ℕ → Type 0
HasTicket state seat number = get state.tickets number ≡ Some seat

-- A number is given out for an upload: the branch is unprotected, and the number is the next one.
abbrev pub MayTakeTicket : State → List ℕ → List ℕ → ℕ → Type 0
MayTakeTicket state repo branch number =
    HasBranch state repo branch (λ r b. IsUnprotected r branch) × (number ≡ state.next_number)

abbrev pub after_ticket_take : ℕ → ℕ → State → State
after_ticket_take seat number state =
    record state { next_number = number + 1; tickets = insert state.tickets number seat }

-- An upload is given up, whose ticket is the seat's own.
abbrev pub MayDropTicket : State → ℕ → ℕ → Type 0
MayDropTicket state seat number = HasTicket state seat number

abbrev pub after_ticket_drop : ℕ → State → State
after_ticket_drop number state = record state { tickets = remove state.tickets number }

-- the ticket of a number goes, where there is one
abbrev pub without_ticket : Option ℕ → State → State
without_ticket None state = state
without_ticket (Some number) state = after_ticket_drop number state

-- a change joins the staged ones
abbrev pub with_staged : List ℕ → Change → Branch → Branch
with_staged path change b = record b { staged = insert b.staged path change }

-- A change is staged: the branch is unprotected, and the number of an own object is on a ticket of the seat.
abbrev pub MayStage : State → ℕ → List ℕ → List ℕ → Change → Type 0
MayStage state seat repo branch change =
    HasBranch state repo branch (λ r b. IsUnprotected r branch) × IfSome (put_number change) (HasTicket state seat)

abbrev pub after_stage : List ℕ → List ℕ → List ℕ → Change → State → State
after_stage repo branch path change state =
    in_branch repo branch (with_staged path change) (without_ticket (put_number change) state)

-- what is copied from: what is read on a branch, or the map of a commit that isn't expired
abbrev pub copied_map : Repository → CopySource → Option KeyMapValue
copied_map r (source.Branch branch) = option_map (now_map r) (get r.branches branch)
copied_map r (source.Commit id) =
    if is_some (commit_of r.commits id) && not (is_expired r id) then Some (map_of r id) else None

-- An entry is copied: the branch is unprotected, and the source has the entry at its path.
abbrev pub MayCopy : State → List ℕ → List ℕ → CopySource → List ℕ → EntryValue → Type 0
MayCopy state repo branch from from_path entry =
    HasBranch state repo branch (λ r b. IsUnprotected r branch
    × (option_and_then (λ map. get map from_path) (copied_map r from) ≡ Some entry))

abbrev pub after_copy : List ℕ → List ℕ → List ℕ → EntryValue → State → State
after_copy repo branch path entry = in_branch repo branch (with_staged path (Put entry))

-- Changes are dropped: the branch is unprotected.
abbrev pub MayReset : State → List ℕ → List ℕ → Type 0
MayReset state repo branch = HasBranch state repo branch (λ r b. IsUnprotected r branch)

abbrev pub reset_branch : ResetWhat → Branch → Branch
reset_branch what b =
    record b { sealed = changes_after_reset what b.sealed; staged = changes_after_reset what b.staged }

abbrev pub after_reset : List ℕ → List ℕ → ResetWhat → State → State
after_reset repo branch what = in_branch repo branch (reset_branch what)

-- a branch can be sealed for a commit where no pattern protects it, and for anything else always
abbrev pub IsSealable : SealFor → Repository → List ℕ → Type 0
IsSealable seal.Commit r branch = IsUnprotected r branch
IsSealable seal.Other r branch = Unit {0}

-- The staged changes are sealed, over the sealed ones: for a commit the branch is unprotected.
abbrev pub MaySeal : State → List ℕ → List ℕ → SealFor → Type 0
MaySeal state repo branch why = HasBranch state repo branch (λ r b. IsSealable why r branch)

abbrev pub sealed_branch : Branch → Branch
sealed_branch b = record b { sealed = over b.staged b.sealed; staged = empty }

abbrev pub after_seal : List ℕ → List ℕ → State → State
after_seal repo branch = in_branch repo branch sealed_branch
