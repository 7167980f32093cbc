-- Which entries give a version, and how many of them there are; and tries that found another version than their reading.
use Rattle.std.specs.Prelude.{◌≢◌, ◌==◌, ◌&&◌, ◌||◌, not, false, ℕ, Bool, List, [], ◌∷◌, ◌++◌, All, length}
use Rattle.std.specs.List.{filter}
use Rattle.std.specs.Str.{bytes_eq}
use Rattle.lake_model.specs.declared.history.HistoryEntry.{HistoryEntry}
use Rattle.lake_model.specs.declared.history.EntryKind.{EntryKind}
use Rattle.lake_model.specs.declared.history.EntryKind.TheVariants.{Accepted, Faulted}
use Rattle.lake_model.specs.declared.history.Operation.{Operation}
use Rattle.lake_model.specs.declared.history.Operation.TheVariants.{RepoCreate, BranchCreate, Reset, Seal, Commit, Merge, Pick, NoteSet}
use Rattle.lake_model.specs.Versions.{VersionsGiven, branch_version, settings_version, count_versions, moves_references}
use Rattle.lake_laws.specs.OtherSeats.{AreOfOtherSeats}

-- whether a branch that an operation names is this one
abbrev pub is_branch_named : (repo branch r b : List ℕ) → Bool
is_branch_named repo branch r b = bytes_eq r repo && bytes_eq b branch

-- whether an operation gives this branch a version: it makes the branch, drops or seals changes of it, or moves its head
abbrev pub operation_gives_branch : List ℕ → List ℕ → Operation → Bool
operation_gives_branch repo branch (RepoCreate r b date) = is_branch_named repo branch r b
operation_gives_branch repo branch (BranchCreate r b commit) = is_branch_named repo branch r b
operation_gives_branch repo branch (Reset r b what) = is_branch_named repo branch r b
operation_gives_branch repo branch (Seal r b why) = is_branch_named repo branch r b
operation_gives_branch repo branch (Commit r b about) = is_branch_named repo branch r b
operation_gives_branch repo branch (Merge r b source strategy about) = is_branch_named repo branch r b
operation_gives_branch repo branch (Pick r b base source strategy about) = is_branch_named repo branch r b
operation_gives_branch repo branch _ = false

-- whether it gives the settings of this repository a version: it sets or deletes one of them
abbrev pub operation_gives_settings : List ℕ → Operation → Bool
operation_gives_settings repo (NoteSet r name value) = bytes_eq r repo
operation_gives_settings repo _ = false

-- whether an operation was accepted that passes a test
abbrev pub is_accepted : (Operation → Bool) → EntryKind → Bool
is_accepted test (Accepted operation) = test operation
is_accepted test (Faulted operation) = false

-- whether an entry gives this branch a version
abbrev pub gives_branch : List ℕ → List ℕ → HistoryEntry → Bool
gives_branch repo branch entry = is_accepted (operation_gives_branch repo branch) entry.kind

-- whether it gives the settings of this repository a version
abbrev pub gives_settings : List ℕ → HistoryEntry → Bool
gives_settings repo entry = is_accepted (operation_gives_settings repo) entry.kind

-- whether it gives one to either
abbrev pub gives_branch_or_settings : List ℕ → List ℕ → HistoryEntry → Bool
gives_branch_or_settings repo branch entry = gives_branch repo branch entry || gives_settings repo entry

-- whether it raises the version of the references
abbrev pub raises_references : HistoryEntry → Bool
raises_references entry = is_accepted moves_references entry.kind

-- how many entries pass a test
abbrev pub count_of : (HistoryEntry → Bool) → List HistoryEntry → ℕ
count_of test entries = length (filter test entries)

-- whether an entry of another seat passes a test
abbrev pub of_other_seat : ℕ → (HistoryEntry → Bool) → HistoryEntry → Bool
of_other_seat seat test entry = not (entry.by.seat == seat) && test entry

-- the versions of a branch and of its repository's settings
abbrev pub branch_and_settings : List ℕ → List ℕ → VersionsGiven → ℕ × ℕ
branch_and_settings repo branch given = (branch_version given repo branch, settings_version given repo)

-- a try: what came before its reading, and what came between its reading and its step
pub record Try : Type 0 where
  pub before : List HistoryEntry
  pub between : List HistoryEntry

-- the entries of tries, one after the other
abbrev pub entries_of_tries : List Try → List HistoryEntry
entries_of_tries [] = []
entries_of_tries (one ∷ tries) = one.before ++ (one.between ++ entries_of_tries tries)

-- The step of each try found another version than the reading of that try.
abbrev pub EachFoundAnother : {X : Type 0} → (VersionsGiven → X) → VersionsGiven → List Try → Type 0
EachFoundAnother version given [] = Unit {0}
EachFoundAnother version given (one ∷ tries) =
    let read = count_versions given one.before in
    let found = count_versions read one.between in
    (version found ≢ version read) × EachFoundAnother version found tries

-- Only entries of other seats came between the reading and the step of each try.
abbrev pub AreOthersBetween : ℕ → List Try → Type 0
AreOthersBetween seat tries = All (λ one. AreOfOtherSeats seat one.between) tries
