-- What is done to a repository that stays.
use Rattle.std.specs.Prelude.{◌≡◌, true, Some}
use Rattle.std.specs.FinMap.{contains_key, get, insert, remove}
use Rattle.lake_model.specs.NoteChanges.{notes_after}
use Rattle.lake_model.specs.Parts.{changed_at}
use Rattle.core_state.specs.declared.branch.BranchState.{BranchState}
use Rattle.core_state.specs.declared.repository.RepositoryState.{RepositoryState}
use Rattle.core_state.specs.BranchStates.{BranchStateValue, branch_value}
use Rattle.core_state.specs.RepositoryStates.{RepositoryStateValue}
use Rattle.core_changes.specs.declared.repository.RepositoryChange.{RepositoryChange}
use Rattle.core_changes.specs.declared.repository.RepositoryChange.TheVariants.{PutBranch, DropBranch, PutTag, DropTag, SetNote, InBranch}
use Rattle.core_changes.specs.declared.repository.Room.{Room}
use Rattle.core_changes.specs.declared.repository.Room.TheVariants as room
use Rattle.core_changes.specs.BranchChanges.{HasRoom, HasRoomTo, FitsBranch, branch_after}

-- a repository after a change of it
abbrev pub repository_after : RepositoryChange → RepositoryStateValue → RepositoryStateValue
repository_after (PutBranch name branch) r =
    record r { branches = insert r.branches name.now (branch_value branch) }
repository_after (DropBranch name) r = record r { branches = remove r.branches name.now }
repository_after (PutTag name commit) r = record r { tags = insert r.tags name.now commit }
repository_after (DropTag name) r = record r { tags = remove r.tags name.now }
repository_after (SetNote name note version) r =
    record r { settings = version; notes = notes_after name note r.notes }
repository_after (InBranch name change) r =
    record r { branches = changed_at name.now (branch_after change) r.branches }

-- what a change asks of the repository: that a change of a branch is possible there
abbrev pub FitsRepository : RepositoryChange → RepositoryStateValue → Type 0
FitsRepository (InBranch name change) r = (b : BranchStateValue) → get r.branches name.now ≡ Some b → FitsBranch change b
FitsRepository _ r = Unit {0}

-- there is room for a new branch of a name, for a new tag, for a change of the branch of a name
abbrev pub HasRoomIn : Room → RepositoryState → Type 0
HasRoomIn (room.Branch name) r = contains_key r.branches name.now ≡ true
HasRoomIn (room.Tag name) r = contains_key r.tags name.now ≡ true
HasRoomIn (room.Change name) r = (b : BranchState) → get r.branches name.now ≡ Some (Some b) → HasRoom b
HasRoomIn room.Nothing r = Unit {0}

-- the room that a change needs
abbrev pub HasRoomFor : RepositoryChange → RepositoryState → Type 0
HasRoomFor (PutBranch name branch) r = contains_key r.branches name.now ≡ true
HasRoomFor (PutTag name commit) r = contains_key r.tags name.now ≡ true
HasRoomFor (InBranch name change) r = (b : BranchState) → get r.branches name.now ≡ Some (Some b) → HasRoomTo change b
HasRoomFor _ r = Unit {0}
