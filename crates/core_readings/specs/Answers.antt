-- What readings answered, as the one-thread lake's replies have it.
use Rattle.std.specs.Prelude.{ℕ, Bool, List, Result, Ok, Err}
use Rattle.lake_base.specs.declared.digest.Digest.{Digest}
use Rattle.lake_values.specs.Commit.{CommitRecordValue}
use Rattle.lake_values.specs.declared.settings.Note.{Note}
use Rattle.lake_pages.specs.declared.listing.Page.{Page}
use Rattle.lake_model.specs.declared.fault.StepFault.{StepFault}
use Rattle.lake_model.specs.Readings.{ListReply, LogReply, NoteReply, PageReply}

-- a page, and where the history stood
abbrev pub page_answer : Result (ℕ × Page) StepFault → Result PageReply StepFault
page_answer (Ok found) = Ok (record { at = found.0; items = found.1.items; more = found.1.has_more })
page_answer (Err fault) = Err fault

-- commits with their ids, and whether one is left
abbrev pub log_answer : Result (ℕ × List (Digest × CommitRecordValue) × Bool) StepFault → Result LogReply StepFault
log_answer (Ok found) = Ok (record { at = found.0; commits = found.1; more = found.2 })
log_answer (Err fault) = Err fault

-- the first of some values, and whether one is left
abbrev pub list_answer : {X : Type 0} → Result (ℕ × List X × Bool) StepFault → Result (ListReply X) StepFault
list_answer (Ok found) = Ok (record { at = found.0; values = found.1; more = found.2 })
list_answer (Err fault) = Err fault

-- a setting, with the version of the settings
abbrev pub note_answer : Result (ℕ × ℕ × Note) StepFault → Result NoteReply StepFault
note_answer (Ok found) = Ok (record { at = found.0; settings = found.1; note = found.2 })
note_answer (Err fault) = Err fault
