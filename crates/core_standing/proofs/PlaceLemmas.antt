-- Where a new commit goes: its branch and its repository are there, and the lake that has it there.
use Rattle.std.proofs.Common.{◌≡◌, ◌∷◌, ℕ, List, sym, ap, subst, ◌∙◌}
use Rattle.std.specs.Prelude.{Some, option_map}
use Rattle.std.specs.Option.{option_map_or}
use Rattle.std.specs.FinMap.{get, insert}
use Rattle.std.specs.List.{Contains}
use Rattle.lake_base.specs.Maps.{ByteMap}
use Rattle.lake_values.specs.Ancestry.{Graph, commit_of}
use Rattle.lake_values.specs.Commit.{CommitRecordValue}
use Rattle.lake_format.specs.Cutting.{files}
use Rattle.lake_format.specs.Spelling.{commit_id, commit_spelling, file_name}
use Rattle.lake_format.specs.declared.cut.Cut.{Cut}
use Rattle.byte_map.proofs.ValuesLemmas.{get_map_values}
use Rattle.lake_model.specs.State.{Branch, Repository, HasBranch, map_of}
use Rattle.lake_model.specs.Commits.{AreKept, Draft, IsAdmissible, StandsBefore, record_of}
use Rattle.lake_model.specs.Parts.{changed_at}
use Rattle.core_state.specs.BranchStates.{BranchStateValue, branch_of}
use Rattle.core_state.specs.RepositoryStates.{RepositoryStateValue, repository_of}
use Rattle.core_state.specs.LakeStates.{LakeStateValue, state_of}
use Rattle.core_changes.specs.LakeChanges.{with_entry, with_references, with_version}
use Rattle.core_changes.proofs.IndexLemmas.{made_of}
use Rattle.core_state.specs.NewCommits.{NewCommit, commit_of_draft, with_names, with_new_commit, with_new_head}
use Rattle.core_changes.specs.LakeChanges.{after_new_head}

-- ---- the branch

-- a branch that is there, with its repository
pub record Place (l : LakeStateValue) (repo branch : List ℕ) : Type 0 where
  pub r : RepositoryStateValue
  pub b : BranchStateValue
  pub in_lake : get l.repositories repo ≡ Some r
  pub in_repository : get r.branches branch ≡ Some b

module _ (l : LakeStateValue) (repo branch : List ℕ) where
  -- the repository stands in the state
  pub repository_there : (place : Place l repo branch) → get (state_of l).repositories repo ≡ Some (repository_of place.r)
  repository_there place = get_map_values repository_of l.repositories repo ∙ ap (option_map repository_of) place.in_lake

  -- and so does the branch
  pub branch_there : (place : Place l repo branch) → get (repository_of place.r).branches branch ≡ Some (branch_of place.b)
  branch_there place = get_map_values branch_of place.r.branches branch ∙ ap (option_map branch_of) place.in_repository

  -- a branch that the state has is there
  pub place_of : (P : Repository → Branch → Type 0) → HasBranch (state_of l) repo branch P
      → (place : Place l repo branch) × P (repository_of place.r) (branch_of place.b)
  place_of P at =
      let home = made_of repository_of (get l.repositories repo) at.0 (sym (get_map_values repository_of l.repositories repo) ∙ at.1) in
      let one = made_of branch_of (get home.one.branches branch) at.2.0
      (sym (get_map_values branch_of home.one.branches branch) ∙ ap (λ (r : Repository). get r.branches branch) home.made ∙ at.2.1) in (
        record { r = home.one; b = one.one; in_lake = home.is; in_repository = one.is },
        subst (P (repository_of home.one)) (sym one.made) (subst (λ (r : Repository). P r at.2.0) (sym home.made) at.2.2),
      )

-- ---- the commit

-- A new commit of a repository: its id and its files are those of what it says, and it is admissible.
pub record IsNewIn (l : LakeStateValue) (r : RepositoryStateValue) (new : NewCommit) : Type 0 where
  pub id : new.id ≡ commit_id new.content
  pub cut : new.tree.files ≡ files l.cut new.tree.map
  pub same_record : (old : CommitRecordValue) → commit_of r.commits new.id ≡ Some old → old ≡ new.content
  pub same_map : (old : CommitRecordValue) → commit_of r.commits new.id ≡ Some old → map_of (repository_of r) new.id ≡ new.tree.map
  pub apart : (one kept : List ℕ) → Contains (commit_spelling new.content ∷ new.tree.files) one → AreKept (state_of l) kept
      → file_name one ≡ file_name kept → one ≡ kept
  pub files_apart : (one kept : List ℕ) → StandsBefore new.tree.files kept one → file_name one ≡ file_name kept → one ≡ kept

-- a commit is that of a draft, part by part
pub record IsCommitOf (cut : Cut) (graph : Graph) (draft : Draft) (new : NewCommit) : Type 0 where
  pub content : new.content ≡ record_of cut graph draft
  pub id : new.id ≡ commit_id (record_of cut graph draft)
  pub map : new.tree.map ≡ draft.objects
  pub files : new.tree.files ≡ files cut draft.objects

pub by_parts : (cut : Cut) (graph : Graph) (draft : Draft) (new : NewCommit) → new ≡ commit_of_draft cut graph draft → IsCommitOf cut graph draft new
by_parts cut graph draft new is = record {
  content = ap (λ (n : NewCommit). n.content) is;
  id = ap (λ (n : NewCommit). n.id) is;
  map = ap (λ (n : NewCommit). n.tree.map) is;
  files = ap (λ (n : NewCommit). n.tree.files) is;
}

-- the commit of an admissible draft is one
pub new_in : (l : LakeStateValue) (r : RepositoryStateValue) (draft : Draft) (new : NewCommit) → IsCommitOf l.cut r.commits draft new
    → IsAdmissible (state_of l) (repository_of r) draft → IsNewIn l r new
new_in l r draft new of admissible = record {
  id = of.id ∙ ap commit_id (sym of.content);
  cut = of.files ∙ ap (files l.cut) (sym of.map);
  same_record = λ old is. admissible.same_record old (ap (commit_of r.commits) (sym of.id) ∙ is) ∙ sym of.content;
  same_map = λ old is.
      ap (map_of (repository_of r)) of.id ∙ admissible.same_map old (ap (commit_of r.commits) (sym of.id) ∙ is) ∙ sym of.map;
  apart = λ one kept within.
      admissible.apart one kept (subst (λ all. Contains all one) (λ i. commit_spelling (of.content i) ∷ of.files i) within);
  files_apart = λ one kept stands. admissible.files_apart one kept (subst (λ all. StandsBefore all kept one) of.files stands);
}

-- ---- the lake that has it

-- what is changed under a name where something stands is put there
pub changed_there : {X : Type 0} (map : ByteMap X) (name : List ℕ) (change : X → X) (x : X) → get map name ≡ Some x
    → changed_at name change map ≡ insert map name (change x)
changed_there map name change x is = ap (λ o. option_map_or (λ y. insert map name (change y)) o map) is

module _ (l : LakeStateValue) (repo branch : List ℕ) (place : Place l repo branch) (new : NewCommit) where
  -- the repository with the commit as the head of its branch
  abbrev pub repository_now : RepositoryStateValue
  repository_now = record place.r {
    commits = insert place.r.commits new.id.0 new.content;
    trees = insert place.r.trees new.id.0 new.tree;
    branches = insert place.r.branches branch (with_new_head l.next_version new.id place.b);
  }

  -- the lake with that repository
  abbrev pub lake_now : LakeStateValue
  lake_now = with_entry (with_references (with_version
      (record l { repositories = insert l.repositories repo repository_now; names = with_names repo new l.names })))

  pub repositories_are : (after_new_head repo branch new l).repositories ≡ insert l.repositories repo repository_now
  repositories_are =
      let branches = changed_there place.r.branches branch (with_new_head l.next_version new.id) place.b place.in_repository in
      changed_there l.repositories repo (with_new_commit l.next_version branch new) place.r place.in_lake
      ∙ (λ i. insert l.repositories repo (record repository_now { branches = branches i }))

  -- it is what the new head makes of the lake
  pub lake_is : after_new_head repo branch new l ≡ lake_now
  lake_is = λ i. record lake_now { repositories = repositories_are i }
