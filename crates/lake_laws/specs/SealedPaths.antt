-- What becomes of a change that a branch has at a path and that isn't committed.
use Rattle.std.specs.Prelude.{◌≡◌, ◌⊎◌, ◌++◌, true, List, ◌∷◌, ℕ, Option, Some, None, All}
use Rattle.std.specs.FinMap.{get}
use Rattle.lake_values.specs.KeyMap.{over, value_after}
use Rattle.lake_values.specs.Reset.{drops_path}
use Rattle.lake_values.specs.declared.entry.Change.{Change}
use Rattle.lake_model.specs.declared.history.HistoryEntry.{HistoryEntry}
use Rattle.lake_model.specs.declared.history.EntryKind.{EntryKind}
use Rattle.lake_model.specs.declared.history.EntryKind.TheVariants.{Accepted, Faulted}
use Rattle.lake_model.specs.declared.history.Operation.{Operation}
use Rattle.lake_model.specs.declared.history.Operation.TheVariants.{BranchDelete, Stage, Copy, Reset, Seal, Commit, Merge, Pick}
use Rattle.lake_model.specs.State.{Branch, State, HasBranch, head_map}
use Rattle.lake_model.specs.History.{after, replay}

-- the change of a branch at a path that isn't committed: the staged one, else the sealed one
abbrev pub uncommitted_change : Branch → List ℕ → Option Change
uncommitted_change b path = get (over b.staged b.sealed) path

-- an operation stages a change at the path of the branch
abbrev pub WritesPath : (repo branch path : List ℕ) → Operation → Type 0
WritesPath repo branch path (Stage r b p change) = (r ≡ repo) × (b ≡ branch) × (p ≡ path)
WritesPath repo branch path (Copy r b p from from_path entry) = (r ≡ repo) × (b ≡ branch) × (p ≡ path)
WritesPath repo branch path _ = ⊥

-- an operation seals the branch
abbrev pub SealsBranch : (repo branch : List ℕ) → Operation → Type 0
SealsBranch repo branch (Seal r b why) = (r ≡ repo) × (b ≡ branch)
SealsBranch repo branch _ = ⊥

-- an operation commits the branch's sealed changes
abbrev pub CommitsBranch : (repo branch : List ℕ) → Operation → Type 0
CommitsBranch repo branch (Commit r b about) = (r ≡ repo) × (b ≡ branch)
CommitsBranch repo branch _ = ⊥

-- an operation makes a merge or a pick the head of the branch
abbrev pub MergesBranch : (repo branch : List ℕ) → Operation → Type 0
MergesBranch repo branch (Merge r b source strategy about) = (r ≡ repo) × (b ≡ branch)
MergesBranch repo branch (Pick r b base source strategy about) = (r ≡ repo) × (b ≡ branch)
MergesBranch repo branch _ = ⊥

-- an operation drops what isn't committed of the branch at the path: it deletes the branch, or resets the path
abbrev pub DropsPath : (repo branch path : List ℕ) → Operation → Type 0
DropsPath repo branch path (BranchDelete r b) = (r ≡ repo) × (b ≡ branch)
DropsPath repo branch path (Reset r b what) = (r ≡ repo) × (b ≡ branch) × (drops_path what path ≡ true)
DropsPath repo branch path _ = ⊥

-- an operation was accepted that has P
abbrev pub IsAccepted : (Operation → Type 0) → EntryKind → Type 0
IsAccepted P (Accepted operation) = P operation
IsAccepted P (Faulted operation) = ⊥

-- none of the entries is of an operation that was accepted and has P
abbrev pub NoneIsAccepted : (Operation → Type 0) → List HistoryEntry → Type 0
NoneIsAccepted P entries = All (λ entry. IsAccepted P entry.kind → ⊥) entries

-- A commit of the branch takes the change at the path: just before it the change is sealed there, and just after it the
-- head's map has there what the change says.
pub record CommitsChange (repo branch path : List ℕ) (change : Change) (state : State) (entry : HistoryEntry) : Type 0 where
  pub commits : IsAccepted (CommitsBranch repo branch) entry.kind
  pub sealed : HasBranch state repo branch (λ r b. get b.sealed path ≡ Some change)
  pub made : HasBranch (after state entry) repo branch (λ r b. get (head_map r b) path ≡ value_after (Some change) None)

-- A merge or a pick of the branch finds the change made: just before it the change is sealed at the path, and the head's
-- map has there already what the change says.
pub record FindsChange (repo branch path : List ℕ) (change : Change) (state : State) (entry : HistoryEntry) : Type 0 where
  pub merges : IsAccepted (MergesBranch repo branch) entry.kind
  pub made : HasBranch state repo branch
      (λ r b. (get b.sealed path ≡ Some change) × (get (head_map r b) path ≡ value_after (Some change) None))

-- a new head of the branch takes the change: a commit, or a merge or a pick that finds it made
abbrev pub TakesChange : (repo branch path : List ℕ) → Change → State → HistoryEntry → Type 0
TakesChange repo branch path change state entry =
    CommitsChange repo branch path change state entry ⊎ FindsChange repo branch path change state entry

-- it takes some change there
abbrev pub TakesPath : (repo branch path : List ℕ) → State → HistoryEntry → Type 0
TakesPath repo branch path state entry = (change : Change) × TakesChange repo branch path change state entry

-- one of the entries has P, with the state just before it
pub record IsMet (P : State → HistoryEntry → Type 0) (state : State) (entries : List HistoryEntry) : Type 0 where
  pub before : List HistoryEntry
  pub entry : HistoryEntry
  pub later : List HistoryEntry
  pub parts : entries ≡ before ++ entry ∷ later
  pub has : P (replay state before) entry

-- among the entries one dropped the path
abbrev pub IsDropped : (repo branch path : List ℕ) → State → List HistoryEntry → Type 0
IsDropped repo branch path state entries = IsMet (λ s entry. IsAccepted (DropsPath repo branch path) entry.kind) state entries

-- among the entries a new head took what was there, or one dropped the path
abbrev pub IsTakenOrDropped : (repo branch path : List ℕ) → (State → HistoryEntry → Type 0) → State → List HistoryEntry → Type 0
IsTakenOrDropped repo branch path Takes state entries =
    IsMet Takes state entries ⊎ IsDropped repo branch path state entries
