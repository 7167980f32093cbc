-- Entries that leave a tag.
use Rattle.std.specs.Prelude.{◌≡◌, List, [], ◌∷◌, ℕ}
use Rattle.lake_model.specs.declared.history.HistoryEntry.{HistoryEntry}
use Rattle.lake_model.specs.declared.history.EntryKind.TheVariants.{Accepted}
use Rattle.lake_model.specs.declared.history.Operation.TheVariants.{TagDelete}

-- none of the entries deletes the tag
abbrev pub DeletesNot : List ℕ → List ℕ → List HistoryEntry → Type 0
DeletesNot repo tag [] = Unit {0}
DeletesNot repo tag (entry ∷ entries) = (entry.kind ≡ Accepted (TagDelete repo tag) → ⊥) × DeletesNot repo tag entries
