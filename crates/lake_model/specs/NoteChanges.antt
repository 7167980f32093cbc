-- The settings of a repository, set and deleted.
use Rattle.std.specs.Prelude.{◌≡◌, List, ℕ, Option, Some, None, IsSome, option_map}
use Rattle.lake_values.specs.NoteNames.{note_name}
use Rattle.lake_values.specs.declared.settings.Note.{Note}
use Rattle.lake_values.specs.declared.settings.Note.TheVariants.{Retention, Protection, Hooks}
use Rattle.lake_values.specs.declared.settings.NoteName.{NoteName}
use Rattle.lake_values.specs.declared.settings.NoteName.TheVariants as name
use Rattle.lake_model.specs.State.{Notes, Repository, State, HasRepository}
use Rattle.lake_model.specs.Parts.{in_repository}

-- the setting of a name
abbrev pub note_at : NoteName → Notes → Option Note
note_at name.Retention notes = option_map Retention notes.retention
note_at name.Protection notes = option_map Protection notes.protection
note_at name.Hooks notes = option_map Hooks notes.hooks

-- a setting is set
abbrev pub with_note : Note → Notes → Notes
with_note (Retention rules) notes = record notes { retention = Some rules }
with_note (Protection patterns) notes = record notes { protection = Some patterns }
with_note (Hooks rules) notes = record notes { hooks = Some rules }

-- a setting is deleted
abbrev pub without_note : NoteName → Notes → Notes
without_note name.Retention notes = record notes { retention = None }
without_note name.Protection notes = record notes { protection = None }
without_note name.Hooks notes = record notes { hooks = None }

-- a setting is set, or deleted where no new one is given
abbrev pub notes_after : NoteName → Option Note → Notes → Notes
notes_after name None notes = without_note name notes
notes_after name (Some note) notes = with_note note notes

-- a setting of the name is set, or one that is there is deleted
abbrev pub IsNoteChange : NoteName → Option Note → Repository → Type 0
IsNoteChange name None r = IsSome (note_at name r.notes)
IsNoteChange name (Some note) r = note_name note ≡ name

abbrev pub MaySetNote : State → List ℕ → NoteName → Option Note → Type 0
MaySetNote state repo name note = HasRepository state repo (IsNoteChange name note)

abbrev pub after_note_set : List ℕ → NoteName → Option Note → State → State
after_note_set repo name note = in_repository repo (λ r. record r { notes = notes_after name note r.notes })
