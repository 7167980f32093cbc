-- Tries of a flow that found other versions than their readings, one after the other; and how often a flow paused.
use Rattle.std.specs.Prelude.{◌≡◌, ◌≤◌, ◌++◌, ℕ, zero, suc, List, [], ◌∷◌, length, Option, option_map}
use Rattle.lake_base.specs.Memory.{next_count}
use Rattle.lake_model.specs.declared.history.HistoryEntry.{HistoryEntry}

module _ (Found : (version : ℕ) → (from next : List HistoryEntry) → Type 0) where
  -- tries found these versions, one after the other, each try where the one before it ended
  abbrev pub FoundInTurn : (versions : List ℕ) → (from next : List HistoryEntry) → Type 0
  FoundInTurn [] from next = next ≡ from
  FoundInTurn (version ∷ later) from next = (between : List HistoryEntry) × Found version from between × FoundInTurn later between next

-- these are the first and the last of the versions
pub record AreEnds (first last : ℕ) (versions : List ℕ) : Type 0 where
  pub later : List ℕ
  pub begins : versions ≡ first ∷ later
  pub before : List ℕ
  pub ends : versions ≡ before ++ last ∷ []

-- it was called so often more, where it tells that
abbrev pub called_more : ℕ → Option ℕ → Option ℕ
called_more zero before = before
called_more (suc times) before = called_more times (option_map next_count before)

-- A pause was called at most so often, and at least as often as tries found another version.
pub record HasPaused (most changed : ℕ) (before now : Option ℕ) : Type 0 where
  pub times : ℕ
  pub few : times ≤ most
  pub enough : changed ≤ times
  pub called : now ≡ called_more times before
