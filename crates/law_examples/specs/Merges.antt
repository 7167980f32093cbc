-- A branch `dev` beside `main`, and merges of its commit into `main`.
use Rattle.std.specs.Prelude.{List, [], ◌∷◌, ◌++◌, ℕ, Some, codes, option_map}
use Rattle.std.specs.Option.{unwrap_or}
use Rattle.lake_base.specs.declared.digest.Digest.{Digest}
use Rattle.lake_values.specs.Commit.{AboutValue}
use Rattle.lake_values.specs.Entry.{EntryValue}
use Rattle.lake_values.specs.declared.commit.Strategy.{Strategy}
use Rattle.lake_values.specs.declared.commit.Strategy.TheVariants.{Refuse}
use Rattle.lake_values.specs.declared.entry.Change.TheVariants.{Put}
use Rattle.lake_values.specs.declared.settings.Deny.TheVariants.{MaxChanges}
use Rattle.lake_values.specs.declared.settings.Note.{Note}
use Rattle.lake_values.specs.declared.settings.Note.TheVariants.{Hooks}
use Rattle.lake_values.specs.declared.settings.NoteName.TheVariants as name
use Rattle.lake_format.specs.declared.cut.Cut.{Cut}
use Rattle.lake_model.specs.declared.history.HistoryEntry.{HistoryEntry}
use Rattle.lake_model.specs.declared.history.Operation.TheVariants.{BranchCreate, Stage, Seal, Commit, Merge, NoteSet}
use Rattle.lake_model.specs.declared.history.SealFor.TheVariants as seal
use Rattle.lake_model.specs.State.{State, HasBranch, branch_of}
use Rattle.lake_model.specs.Parts.{in_repository}
use Rattle.lake_model.specs.Removal.{with_expired}
use Rattle.lake_model.specs.Commits.{IsAdmissible, commit_draft, merge_draft}
use Rattle.lake_model.specs.History.{after, replay}
use Rattle.lake_model.specs.Soundness.{fresh}
use Rattle.law_examples.specs.HistoryWords.{quickstart, main, first, outside, head_of, entry_of, put_entry, seal_entry, a, b}
use Rattle.law_examples.specs.Picks.{larger_object}

-- another branch than `main`
abbrev pub dev : List ℕ
dev = codes "dev"

-- it begins at the first commit
abbrev pub branch_entry : Cut → HistoryEntry
branch_entry cut = entry_of (BranchCreate quickstart dev (first cut))

-- an entry is put at a path of a branch, and sealed
abbrev pub sealing_entries : List ℕ → List ℕ → EntryValue → List HistoryEntry
sealing_entries branch path entry =
    entry_of (Stage quickstart branch path (Put entry)) ∷ entry_of (Seal quickstart branch seal.Commit) ∷ []

-- and committed
abbrev pub change_entries : List ℕ → List ℕ → EntryValue → AboutValue → List HistoryEntry
change_entries branch path entry about =
    sealing_entries branch path entry ++ entry_of (Commit quickstart branch about) ∷ []

-- the commit of such a change would be admissible
abbrev pub IsChangeAdmissible : State → List ℕ → List ℕ → EntryValue → AboutValue → Type 0
IsChangeAdmissible state branch path entry about =
    let before = replay state (sealing_entries branch path entry) in
    HasBranch before quickstart branch (λ r x. IsAdmissible before r (commit_draft r x about))

-- a lake of this cut, and what is said of the commit of `dev` and of that of `main`
pub record Fork : Type 0 where
  pub cut : Cut
  pub of_dev : AboutValue
  pub of_main : AboutValue

-- `dev` begins at the first commit
abbrev pub lake_with_dev : Cut → State
lake_with_dev cut = after (fresh cut) (branch_entry cut)

-- then an entry is committed at a path of `dev`
abbrev pub lake_of_dev : List ℕ → EntryValue → Fork → State
lake_of_dev path entry fork = replay (lake_with_dev fork.cut) (change_entries dev path entry fork.of_dev)

-- `dev` begins at the first commit, an entry is committed at a path of it, and the outside object at `a` of `main`
abbrev pub fork_entries : List ℕ → EntryValue → Fork → List HistoryEntry
fork_entries path entry fork =
    branch_entry fork.cut ∷ (change_entries dev path entry fork.of_dev ++ change_entries main a outside fork.of_main)

-- both of these commits would be admissible
abbrev pub AreChangesAdmissible : List ℕ → EntryValue → Fork → Type 0
AreChangesAdmissible path entry fork =
    IsChangeAdmissible (lake_with_dev fork.cut) dev path entry fork.of_dev
    × IsChangeAdmissible (lake_of_dev path entry fork) main a outside fork.of_main

-- the outside object stands at `b` of `dev`, and `main` is at the first commit
unfoldable pub ahead_lake : Fork → State
ahead_lake fork = lake_of_dev b outside fork

-- it stands at `b` of `dev`, and at `a` of `main`
unfoldable pub diverged_lake : Fork → State
diverged_lake fork = replay (fresh fork.cut) (fork_entries b outside fork)

-- at `a` one object stands on `dev`, and another on `main`
unfoldable pub rival_lake : Fork → State
rival_lake fork = replay (fresh fork.cut) (fork_entries a larger_object fork)

-- the head of `dev`
abbrev pub dev_head : State → Digest
dev_head state = unwrap_or (option_map (λ b. b.head) (branch_of state quickstart dev)) (record { 0 = [] })

-- the first commit, and the heads of `dev` and of `main`
abbrev pub three_commits : Cut → State → List Digest
three_commits cut state = first cut ∷ dev_head state ∷ head_of state ∷ []

-- a commit is merged into `main`
abbrev pub merge_entry : Digest → Strategy → AboutValue → HistoryEntry
merge_entry source strategy about = entry_of (Merge quickstart main source strategy about)

-- the head of `dev` in a lake is merged
abbrev pub dev_merge : State → Strategy → AboutValue → HistoryEntry
dev_merge state strategy about = merge_entry (dev_head state) strategy about

-- the commit of a merge would be admissible
abbrev pub IsMergeAdmissible : State → Digest → Strategy → AboutValue → Type 0
IsMergeAdmissible state source strategy about =
    HasBranch state quickstart main (λ r x. IsAdmissible state r (merge_draft source strategy about r x))

-- the branches diverged, and then the outside object is put at a path of `main` too, and sealed
abbrev pub resealed_lake : List ℕ → Fork → State
resealed_lake path fork = replay (diverged_lake fork) (put_entry path outside ∷ seal_entry ∷ [])

-- a hook: a commit of `main` may change so many paths at most
abbrev pub change_limit : ℕ → Note
change_limit count = Hooks (record { branch = main; deny = MaxChanges count } ∷ [])

-- the branches diverged, and then that hook is set
abbrev pub hooked_lake : ℕ → Fork → State
hooked_lake count fork =
    after (diverged_lake fork) (entry_of (NoteSet quickstart name.Hooks (Some (change_limit count))))

-- the branches diverged, but this commit is expired: no legal history of these entries gives it
abbrev pub lake_of_expired : Digest → Fork → State
lake_of_expired id fork = in_repository quickstart (with_expired id) (diverged_lake fork)

-- the commit that the merge of `dev` without a strategy would make
abbrev pub merge_commit : AboutValue → Fork → Digest
merge_commit about fork = head_of (after (diverged_lake fork) (dev_merge (diverged_lake fork) Refuse about))
