-- New repositories, and commits, merges and picks that become the head of a branch.
use Rattle.std.specs.Prelude.{◌≡◌, ◌⊎◌, ◌++◌, false, ℕ, List, [], ◌∷◌, Option, Some, None, option_map, codes}
use Rattle.std.specs.FinMap.{empty, get, insert}
use Rattle.std.specs.Option.{option_map_or}
use Rattle.std.specs.List.{Contains}
use Rattle.lake_base.specs.Names.{is_like_id}
use Rattle.lake_base.specs.declared.digest.Digest.{Digest}
use Rattle.lake_values.specs.Ancestry.{Graph, base, commit_of, due_generation}
use Rattle.lake_values.specs.Commit.{CommitRecordValue, AboutValue}
use Rattle.lake_values.specs.HookDecisions.{denying_rule}
use Rattle.lake_values.specs.KeyMap.{KeyMapValue, differences}
use Rattle.lake_values.specs.Merging.{base_map, is_refused, merged_map}
use Rattle.lake_values.specs.declared.commit.Strategy.{Strategy}
use Rattle.lake_values.specs.declared.settings.HookRule.{HookRule}
use Rattle.lake_format.specs.Cutting.{files, tree_id}
use Rattle.lake_format.specs.Spelling.{commit_id, commit_spelling, file_name}
use Rattle.lake_format.specs.declared.cut.Cut.{Cut}
use Rattle.lake_model.specs.State.{Branch, Repository, State, HasBranch, HasCommit, HasLiveCommit, head_map, map_of, is_expired, sealed_map}
use Rattle.lake_model.specs.Parts.{changed_at, in_repository}
use Rattle.lake_model.specs.Branches.{IsUnprotected, clean_branch}

-- a commit that is to be made: its parents, its map, and what is said of it
pub record Draft : Type 0 where
  pub parents : List Digest
  pub objects : KeyMapValue
  pub about : AboutValue

-- its record: it names the metarange of its map, and its generation is the one due after its parents
abbrev pub record_of : Cut → Graph → Draft → CommitRecordValue
record_of cut graph draft = record {
  meta_range = tree_id cut draft.objects;
  generation = due_generation graph draft.parents;
  date = draft.about.date;
  parents = draft.parents;
  committer = draft.about.committer;
  message = draft.about.message;
  metadata = draft.about.metadata;
}

-- its bytes and the files of its map
abbrev pub bytes_of : Cut → Graph → Draft → List (List ℕ)
bytes_of cut graph draft = commit_spelling (record_of cut graph draft) ∷ files cut draft.objects

-- one stands before another in a list
pub record StandsBefore {X : Type 0} (xs : List X) (one other : X) : Type 0 where
  pub before : List X
  pub after : List X
  pub parts : xs ≡ before ++ other ∷ after
  pub among : Contains before one

-- the bytes of a commit of the lake, or of a file of its map
pub record AreKept (state : State) (bytes : List ℕ) : Type 0 where
  pub repo : List ℕ
  pub r : Repository
  pub in_lake : get state.repositories repo ≡ Some r
  pub id : Digest
  pub commit : CommitRecordValue
  pub in_graph : commit_of r.commits id ≡ Some commit
  pub are : (bytes ≡ commit_spelling commit) ⊎ Contains (files state.cut (map_of r id)) bytes

-- A new commit is admissible: its id isn't expired; a commit that has its id is this one, of this map; neither it nor a
-- file of its map shares a name with other bytes that are kept; and no two files of its map share a name and differ.
pub record IsAdmissible (state : State) (r : Repository) (draft : Draft) : Type 0 where
  pub live : is_expired r (commit_id (record_of state.cut r.commits draft)) ≡ false
  pub same_record : (old : CommitRecordValue) → commit_of r.commits (commit_id (record_of state.cut r.commits draft)) ≡ Some old
      → old ≡ record_of state.cut r.commits draft
  pub same_map : (old : CommitRecordValue) → commit_of r.commits (commit_id (record_of state.cut r.commits draft)) ≡ Some old
      → map_of r (commit_id (record_of state.cut r.commits draft)) ≡ draft.objects
  pub apart : (new kept : List ℕ) → Contains (bytes_of state.cut r.commits draft) new → AreKept state kept
      → file_name new ≡ file_name kept → new ≡ kept
  pub files_apart : (new kept : List ℕ) → StandsBefore (files state.cut draft.objects) kept new
      → file_name new ≡ file_name kept → new ≡ kept

-- the repository with a new commit
abbrev pub with_commit : Digest → CommitRecordValue → KeyMapValue → Repository → Repository
with_commit id commit map r = record r { commits = insert r.commits id.0 commit; maps = insert r.maps id.0 map }

-- a branch with a new head: nothing is sealed, and the staged changes stay
abbrev pub with_head : Digest → Branch → Branch
with_head id b = record b { head = id; sealed = empty }

-- a new commit becomes the head of a branch
abbrev pub with_draft : Cut → List ℕ → Draft → Repository → Repository
with_draft cut branch draft r =
    let commit = record_of cut r.commits draft in
    let added = with_commit (commit_id commit) commit draft.objects r in
    record added { branches = changed_at branch (with_head (commit_id commit)) r.branches }

-- what is said of the first commit of a repository
abbrev pub first_about : ℕ → AboutValue
first_about date = record { committer = codes "lakefs"; message = codes "Repository created"; metadata = []; date = date }

-- the first commit: of the empty map, without parents
abbrev pub first_draft : ℕ → Draft
first_draft date = record { parents = []; objects = empty; about = first_about date }

-- a repository before its first commit
abbrev pub bare_repository : ℕ → List ℕ → Repository
bare_repository date branch = record {
  created = date;
  default_branch = branch;
  branches = empty;
  tags = empty;
  commits = empty;
  maps = empty;
  expired = empty;
  notes = record { retention = None; protection = None; hooks = None };
}

-- a new repository, with its default branch at its first commit
abbrev pub new_repository : Cut → ℕ → List ℕ → Repository
new_repository cut date branch =
    let commit = record_of cut empty (first_draft date) in
    let added = with_commit (commit_id commit) commit empty (bare_repository date branch) in
    record added { branches = insert empty branch (clean_branch (commit_id commit)) }

-- A repository is made: none of its name is there, its default branch is like no id, and its first commit is admissible.
pub record MayCreateRepository (state : State) (repo branch : List ℕ) (date : ℕ) : Type 0 where
  pub fresh : get state.repositories repo ≡ None
  pub plain : is_like_id branch ≡ false
  pub admissible : IsAdmissible state (bare_repository date branch) (first_draft date)

abbrev pub after_repository_create : List ℕ → List ℕ → ℕ → State → State
after_repository_create repo branch date state =
    record state { repositories = insert state.repositories repo (new_repository state.cut date branch) }

-- the first hook rule that denies a new commit, where hooks are set: they are asked about the paths at which its map
-- differs from the head's
abbrev pub denied_by : Option (List HookRule) → List ℕ → KeyMapValue → Draft → Option ℕ
denied_by None branch old draft = None
denied_by (Some rules) branch old draft = denying_rule rules branch draft.about.metadata (differences draft.objects old)

-- a new commit may become the head: hooks allow it, and it is admissible
pub record MayBecomeHead (state : State) (branch : List ℕ) (r : Repository) (b : Branch) (draft : Draft) : Type 0 where
  pub allowed : denied_by r.notes.hooks branch (head_map r b) draft ≡ None
  pub admissible : IsAdmissible state r draft

-- the commit of a branch's sealed changes
abbrev pub commit_draft : Repository → Branch → AboutValue → Draft
commit_draft r b about = record { parents = b.head ∷ []; objects = sealed_map r b; about = about }

-- Sealed changes are committed: the branch is unprotected, the changes don't leave the head's map as it is, and their
-- commit may become the head.
pub record IsCommittable (state : State) (branch : List ℕ) (about : AboutValue) (r : Repository) (b : Branch) : Type 0 where
  pub unprotected : IsUnprotected r branch
  pub changed : sealed_map r b ≡ head_map r b → ⊥
  pub head : MayBecomeHead state branch r b (commit_draft r b about)

abbrev pub MayCommit : State → List ℕ → List ℕ → AboutValue → Type 0
MayCommit state repo branch about = HasBranch state repo branch (IsCommittable state branch about)

-- what is drafted of a repository and a branch of it, which is there, becomes the head of the branch
abbrev pub draft_on : Cut → List ℕ → (Repository → Branch → Draft) → Repository → Repository
draft_on cut branch draft r = option_map_or (λ b. with_draft cut branch (draft r b) r) (get r.branches branch) r

-- so it does in a lake
abbrev pub after_draft : List ℕ → List ℕ → (Repository → Branch → Draft) → State → State
after_draft repo branch draft state = in_repository repo (draft_on state.cut branch draft) state

abbrev pub after_commit : List ℕ → List ℕ → AboutValue → State → State
after_commit repo branch about = after_draft repo branch (λ r b. commit_draft r b about)

-- the three maps of a merge, and what to do at conflicts
pub record MergeSides : Type 0 where
  pub base : KeyMapValue
  pub source : KeyMapValue
  pub strategy : Strategy

-- the sides of a merge of a commit: its base is the merge base of the head and the commit
abbrev pub merge_sides : Repository → Branch → Digest → Strategy → MergeSides
merge_sides r b id strategy = record {
  base = base_map (option_map (map_of r) (base r.commits b.head id));
  source = map_of r id;
  strategy = strategy;
}

-- the sides of a pick of a commit over a base
abbrev pub pick_sides : Repository → Digest → Digest → Strategy → MergeSides
pick_sides r base id strategy = record { base = map_of r base; source = map_of r id; strategy = strategy }

-- the map of a merge into a branch
abbrev pub merged_into : Repository → Branch → MergeSides → KeyMapValue
merged_into r b sides = merged_map sides.strategy sides.base sides.source (head_map r b)

-- Sides are merged into a branch: nothing is sealed that changes the head's map, the source's map isn't the base's, and
-- no path conflicts that the strategy leaves open.
pub record IsMergeable (r : Repository) (b : Branch) (sides : MergeSides) : Type 0 where
  pub clean : sealed_map r b ≡ head_map r b
  pub changed : sides.source ≡ sides.base → ⊥
  pub settled : is_refused sides.strategy sides.base sides.source (head_map r b) ≡ false

-- the merge commit has the head and the source as its parents
abbrev pub merge_draft : Digest → Strategy → AboutValue → Repository → Branch → Draft
merge_draft id strategy about r b =
    record { parents = b.head ∷ id ∷ []; objects = merged_into r b (merge_sides r b id strategy); about = about }

-- A commit that isn't expired is merged: its sides are mergeable, and the merge commit may become the head.
pub record IsMerge (state : State) (branch : List ℕ) (id : Digest) (strategy : Strategy) (about : AboutValue) (r : Repository) (b : Branch) : Type 0 where
  pub live : HasLiveCommit r id
  pub sides : IsMergeable r b (merge_sides r b id strategy)
  pub head : MayBecomeHead state branch r b (merge_draft id strategy about r b)

abbrev pub MayMerge : State → List ℕ → List ℕ → Digest → Strategy → AboutValue → Type 0
MayMerge state repo branch id strategy about = HasBranch state repo branch (IsMerge state branch id strategy about)

abbrev pub after_merge : List ℕ → List ℕ → Digest → Strategy → AboutValue → State → State
after_merge repo branch id strategy about = after_draft repo branch (merge_draft id strategy about)

-- the commit of a pick has the head as its parent
abbrev pub pick_draft : Digest → Digest → Strategy → AboutValue → Repository → Branch → Draft
pick_draft base id strategy about r b =
    record { parents = b.head ∷ []; objects = merged_into r b (pick_sides r base id strategy); about = about }

-- A commit that isn't expired is picked over a base, which is a commit: as a merge.
pub record IsPick (state : State) (branch : List ℕ) (base id : Digest) (strategy : Strategy) (about : AboutValue) (r : Repository) (b : Branch) : Type 0 where
  pub there : HasCommit r base
  pub live : HasLiveCommit r id
  pub sides : IsMergeable r b (pick_sides r base id strategy)
  pub head : MayBecomeHead state branch r b (pick_draft base id strategy about r b)

abbrev pub MayPick : State → List ℕ → List ℕ → Digest → Digest → Strategy → AboutValue → Type 0
MayPick state repo branch base id strategy about = HasBranch state repo branch (IsPick state branch base id strategy about)

abbrev pub after_pick : List ℕ → List ℕ → Digest → Digest → Strategy → AboutValue → State → State
after_pick repo branch base id strategy about = after_draft repo branch (pick_draft base id strategy about)
