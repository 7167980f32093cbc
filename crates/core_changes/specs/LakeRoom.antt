-- The room that a lake in memory has.
use Rattle.std.specs.Prelude.{◌≡◌, true, ℕ, List, Some, IsSome}
use Rattle.std.specs.FinMap.{contains_key, get}
use Rattle.std.specs.BTreeMap.{get as tree_get}
use Rattle.std.specs.Ordering.{nat_cmp}
use Rattle.lake_base.specs.declared.digest.Digest.{Digest}
use Rattle.core_state.specs.declared.lake.LakeState.{LakeState}
use Rattle.core_state.specs.declared.repository.RepositoryState.{RepositoryState}
use Rattle.core_changes.specs.declared.repository.Room.{Room}
use Rattle.core_changes.specs.RepositoryChanges.{HasRoomIn}

-- a repository of a lake has room, where it is there
abbrev pub HasRoomAt : Room → List ℕ → LakeState → Type 0
HasRoomAt room repo l = (r : RepositoryState) → get l.repositories repo ≡ Some (Some r) → HasRoomIn room r

-- there is room for the ticket of the next number
abbrev pub HasTicketRoom : LakeState → Type 0
HasTicketRoom l = IsSome (tree_get nat_cmp l.tickets l.next_number)

-- there is room for a new repository, for the commit of an id and for the file of a name
pub record HasRepositoryRoom (repo : List ℕ) (id name : Digest) (l : LakeState) : Type 0 where
  pub repository : contains_key l.repositories repo ≡ true
  pub commit : contains_key l.names.homes id.0 ≡ true
  pub file : contains_key l.names.files name.0 ≡ true
