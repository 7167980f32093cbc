-- Which change of a path isn't committed where entries stage others there: the newest.
use Rattle.std.specs.Prelude.{◌≡◌, ◌⊎◌, ◌++◌, List, ◌∷◌, ℕ}
use Rattle.lake_values.specs.declared.entry.Change.{Change}
use Rattle.lake_values.specs.declared.entry.Change.TheVariants.{Put}
use Rattle.lake_model.specs.declared.history.HistoryEntry.{HistoryEntry}
use Rattle.lake_model.specs.declared.history.Operation.{Operation}
use Rattle.lake_model.specs.declared.history.Operation.TheVariants.{Stage, Copy}
use Rattle.lake_model.specs.State.{State}
use Rattle.lake_model.specs.History.{replay}
use Rattle.lake_laws.specs.SealedPaths.{IsAccepted, IsDropped, NoneIsAccepted, SealsBranch, TakesChange, WritesPath}

-- an operation stages this change at the path of the branch: a copy stages that its entry is put
abbrev pub StagesChange : (repo branch path : List ℕ) → Change → Operation → Type 0
StagesChange repo branch path change (Stage r b p staged) = (r ≡ repo) × (b ≡ branch) × (p ≡ path) × (staged ≡ change)
StagesChange repo branch path change (Copy r b p from from_path entry) = (r ≡ repo) × (b ≡ branch) × (p ≡ path) × (Put entry ≡ change)
StagesChange repo branch path change _ = ⊥

-- The newest change of the path behind entries before which this one stood there: the one that was staged at last, and
-- this one where none was.
pub data IsNewest (repo branch path : List ℕ) (change : Change) (entries : List HistoryEntry) (newest : Change) : Type 0 where
  Stood : NoneIsAccepted (WritesPath repo branch path) entries → newest ≡ change → IsNewest repo branch path change entries newest
  Staged : (early : List HistoryEntry) (entry : HistoryEntry) (late : List HistoryEntry) → entries ≡ early ++ entry ∷ late
      → IsAccepted (StagesChange repo branch path newest) entry.kind → NoneIsAccepted (WritesPath repo branch path) late
      → IsNewest repo branch path change entries newest

-- The change of the path that was the newest at the last seal of the branch among entries; the one that stood before them
-- where none of them seals it.
pub data IsNewestSealed (repo branch path : List ℕ) (change : Change) (entries : List HistoryEntry) (newest : Change) : Type 0 where
  SealedBefore : NoneIsAccepted (SealsBranch repo branch) entries → newest ≡ change → IsNewestSealed repo branch path change entries newest
  SealedAmong : (early : List HistoryEntry) (seal : HistoryEntry) (late : List HistoryEntry) → entries ≡ early ++ seal ∷ late
      → IsAccepted (SealsBranch repo branch) seal.kind → NoneIsAccepted (SealsBranch repo branch) late
      → IsNewest repo branch path change early newest → IsNewestSealed repo branch path change entries newest

-- Among the entries a new head of the branch takes a change of the path: the one that was the newest at the last seal before
-- it.
pub record TakesNewest (repo branch path : List ℕ) (change : Change) (state : State) (entries : List HistoryEntry) : Type 0 where
  pub before : List HistoryEntry
  pub entry : HistoryEntry
  pub later : List HistoryEntry
  pub parts : entries ≡ before ++ entry ∷ later
  pub newest : Change
  pub is_newest : IsNewestSealed repo branch path change before newest
  pub takes : TakesChange repo branch path newest (replay state before) entry

-- or one drops the path
abbrev pub IsNewestTakenOrDropped : (repo branch path : List ℕ) → Change → State → List HistoryEntry → Type 0
IsNewestTakenOrDropped repo branch path change state entries =
    TakesNewest repo branch path change state entries ⊎ IsDropped repo branch path state entries
