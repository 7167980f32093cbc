-- Entries that other seats made.
use Rattle.std.specs.Prelude.{◌≢◌, ℕ, List, All}
use Rattle.lake_model.specs.declared.history.HistoryEntry.{HistoryEntry}

-- the entries are of other seats
abbrev pub AreOfOtherSeats : ℕ → List HistoryEntry → Type 0
AreOfOtherSeats seat entries = All (λ entry. entry.by.seat ≢ seat) entries
