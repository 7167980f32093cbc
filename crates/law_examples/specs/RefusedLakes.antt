-- The lakes in which entries are refused, and the names in them.
use Rattle.std.specs.Prelude.{List, [], ◌∷◌, ℕ, Some, codes}
use Rattle.lake_values.specs.declared.settings.Note.{Note}
use Rattle.lake_values.specs.declared.settings.Note.TheVariants.{Retention, Protection}
use Rattle.lake_values.specs.declared.settings.NoteName.TheVariants as name
use Rattle.lake_format.specs.declared.cut.Cut.{Cut}
use Rattle.lake_model.specs.declared.history.HistoryEntry.{HistoryEntry}
use Rattle.lake_model.specs.declared.history.Operation.{Operation}
use Rattle.lake_model.specs.declared.history.Operation.TheVariants.{BranchCreate, TagCreate, Seal, NoteSet}
use Rattle.lake_model.specs.declared.history.SealFor.TheVariants as seal
use Rattle.lake_model.specs.State.{State}
use Rattle.lake_model.specs.Parts.{in_repository}
use Rattle.lake_model.specs.Removal.{with_expired}
use Rattle.lake_model.specs.History.{after, faulted_entry, replay}
use Rattle.lake_model.specs.Soundness.{fresh}
use Rattle.law_examples.specs.HistoryWords.{quickstart, main, first, entry_of, ticket_entry, until_seal}

-- a repository that isn't there
abbrev pub elsewhere : List ℕ
elsewhere = codes "elsewhere"

-- another branch than `main`
abbrev pub mail : List ℕ
mail = codes "mail"

-- two tags
abbrev pub one : List ℕ
one = codes "one"

abbrev pub two : List ℕ
two = codes "two"

-- a name like an id: 64 hex digits
abbrev pub like_id : List ℕ
like_id = codes "00000000000000000000000000000000000000000000000000000000000000ff"

-- commits are kept for a day
abbrev pub one_day : Note
one_day = Retention (record { default_days = 1; branches = [] })

-- branches whose names begin with `ma` are protected
abbrev pub ma_protected : Note
ma_protected = Protection (codes "ma*" ∷ [])

-- they are protected from then on
abbrev pub protect_entry : HistoryEntry
protect_entry = entry_of (NoteSet quickstart name.Protection (Some ma_protected))

-- the store failed as the seat 1 tried an operation
abbrev pub fault_of : Operation → HistoryEntry
fault_of operation = faulted_entry (record { seat = 1; call = 0 }) operation

-- it failed as `main` was to be sealed
abbrev pub fault_entry : HistoryEntry
fault_entry = fault_of (Seal quickstart main seal.Commit)

abbrev pub stopped_lake : Cut → State
stopped_lake cut = after (fresh cut) fault_entry

-- a fresh lake, but for the number of entries
abbrev pub lake_of_entries : ℕ → Cut → State
lake_of_entries entries cut = record (fresh cut) { entries = entries }

-- `mail` begins at the first commit
abbrev pub branched_lake : Cut → State
branched_lake cut = after (fresh cut) (entry_of (BranchCreate quickstart mail (first cut)))

-- the tag `one` names the first commit
abbrev pub tagged_lake : Cut → State
tagged_lake cut = after (fresh cut) (entry_of (TagCreate quickstart one (first cut)))

-- a fresh lake, but for the first commit, which is expired: no legal history gives it
abbrev pub expired_lake : Cut → State
expired_lake cut = in_repository quickstart (with_expired (first cut)) (fresh cut)

-- commits are kept for a day
abbrev pub retaining_lake : Cut → State
retaining_lake cut = after (fresh cut) (entry_of (NoteSet quickstart name.Retention (Some one_day)))

-- the number 0 is on a ticket of the seat 1
abbrev pub ticket_lake : Cut → State
ticket_lake cut = after (fresh cut) (ticket_entry 0)

-- the outside object is put at `a`, and sealed
abbrev pub ready_lake : Cut → State
ready_lake cut = replay (fresh cut) until_seal

-- so it is, and then `main` is protected
abbrev pub protected_lake : Cut → State
protected_lake cut = after (ready_lake cut) protect_entry
