-- What a lake is at a moment.
use Rattle.std.specs.Prelude.{◌≡◌, false, ℕ, Bool, List, Option, Some, IsSome, option_and_then}
use Rattle.std.specs.Option.{unwrap_or}
use Rattle.std.specs.FinMap.{FinMap, empty, get, contains_key}
use Rattle.std.specs.Ordering.{nat_cmp}
use Rattle.lake_base.specs.Maps.{ByteMap}
use Rattle.lake_base.specs.declared.digest.Digest.{Digest}
use Rattle.lake_values.specs.Ancestry.{Graph, commit_of}
use Rattle.lake_values.specs.KeyMap.{KeyMapValue, ChangesValue, apply}
use Rattle.lake_values.specs.Settings.{RulesValue}
use Rattle.lake_values.specs.declared.settings.HookRule.{HookRule}
use Rattle.lake_format.specs.declared.cut.Cut.{Cut}

-- a branch: its head, and the changes that were made since, sealed and staged
pub record Branch : Type 0 where
  pub head : Digest
  pub sealed : ChangesValue
  pub staged : ChangesValue

-- the settings of a repository, each where it is set
pub record Notes : Type 0 where
  pub retention : Option RulesValue
  pub protection : Option (List (List ℕ))
  pub hooks : Option (List HookRule)

-- a repository: its commits with the key map of each, those of them that are expired, and what names them
pub record Repository : Type 0 where
  -- seconds since 1970
  pub created : ℕ
  pub default_branch : List ℕ
  pub branches : ByteMap Branch
  pub tags : ByteMap Digest
  pub commits : Graph
  pub maps : ByteMap KeyMapValue
  pub expired : ByteMap (Unit {0})
  pub notes : Notes

-- a lake
pub record State : Type 0 where
  -- by which maps are cut into ranges; no entry changes it
  pub cut : Cut
  pub repositories : ByteMap Repository
  -- the number that the next object gets
  pub next_number : ℕ
  -- the seat of each upload that isn't finished, by its object's number
  pub tickets : FinMap nat_cmp ℕ
  -- the numbers of objects that may be removed for good
  pub gone : FinMap nat_cmp (Unit {0})
  -- whether the store has failed, after which nothing changes
  pub stopped : Bool
  -- how many entries made this state
  pub entries : ℕ

-- a branch of a repository
abbrev pub branch_of : State → List ℕ → List ℕ → Option Branch
branch_of state repo branch = option_and_then (λ r. get r.branches branch) (get state.repositories repo)

-- the key map of a commit
abbrev pub map_of : Repository → Digest → KeyMapValue
map_of r id = unwrap_or (get r.maps id.0) empty

-- it is a commit of the repository
abbrev pub HasCommit : Repository → Digest → Type 0
HasCommit r id = IsSome (commit_of r.commits id)

-- a commit that is expired
abbrev pub is_expired : Repository → Digest → Bool
is_expired r id = contains_key r.expired id.0

-- a commit of the repository that isn't expired
abbrev pub HasLiveCommit : Repository → Digest → Type 0
HasLiveCommit r id = HasCommit r id × (is_expired r id ≡ false)

-- the map of a branch's head
abbrev pub head_map : Repository → Branch → KeyMapValue
head_map r b = map_of r b.head

-- the head's map with the sealed changes made: the map of the next commit
abbrev pub sealed_map : Repository → Branch → KeyMapValue
sealed_map r b = apply b.sealed (head_map r b)

-- what is read on a branch by its plain name: the staged changes over the sealed ones over the head's map
abbrev pub now_map : Repository → Branch → KeyMapValue
now_map r b = apply b.staged (sealed_map r b)

-- the repository is there, and has P
abbrev pub HasRepository : State → List ℕ → (Repository → Type 0) → Type 0
HasRepository state repo P = (r : Repository) × (get state.repositories repo ≡ Some r) × P r

-- the branch is there, and has P with its repository
abbrev pub HasBranch : State → List ℕ → List ℕ → (Repository → Branch → Type 0) → Type 0
HasBranch state repo branch P =
    HasRepository state repo (λ r. (b : Branch) × (get r.branches branch ≡ Some b) × P r b)
