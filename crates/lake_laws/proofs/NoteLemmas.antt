-- A setting that no cause keeps from being set or deleted.
use Rattle.std.proofs.Common.{◌≡◌, ℕ, List, refl, sym, ap, ◌∙◌}
use Rattle.std.proofs.lemmas.Bool.{not-false}
use Rattle.std.specs.Prelude.{Option, Some, None, IfSome, is_some}
use Rattle.lake_values.specs.NoteNames.{note_name}
use Rattle.lake_values.specs.declared.settings.Note.{Note}
use Rattle.lake_values.specs.declared.settings.NoteName.{NoteName}
use Rattle.lake_model.specs.declared.fault.StepFault.TheVariants.{NoNote}
use Rattle.lake_model.specs.declared.history.By.{By}
use Rattle.lake_model.specs.declared.history.Operation.TheVariants.{NoteSet}
use Rattle.lake_model.specs.State.{State}
use Rattle.lake_model.specs.History.{Allows, accepted_entry}
use Rattle.lake_model.specs.NoteChanges.{IsNoteChange, note_at}
use Rattle.lake_model.specs.Refusals.{first_cause}
use Rattle.lake_model.specs.Steps.{in_it, set_note_causes}
use Rattle.lake_model.specs.Versions.{VersionsGiven}
use Rattle.lake_laws.proofs.CauseLemmas.{no_cause, allowed, test_fails}
use Rattle.lake_laws.proofs.PlaceLemmas.{answered, there}

-- no cause holds: the setting may be set, or deleted
pub note_allowed : (state : State) (given : VersionsGiven) (by : By) (repo : List ℕ) (expected : Option ℕ) (name : NoteName) (note : Option Note)
    → first_cause (set_note_causes state given repo expected name note) ≡ None → IfSome note (λ n. note_name n ≡ name)
    → Allows state (accepted_entry by (NoteSet repo name note))
note_allowed state given by repo expected name None none kind =
    let no = no_cause (set_note_causes state given repo expected name None) none in
    allowed state _ no.stopped no.full
    (there state repo (IsNoteChange name None) no.repository
    (λ r is. ap is_some (sym (answered state repo (λ x. note_at name x.notes) r (note_at name r.notes) is refl))
    ∙ not-false (is_some (in_it state repo (λ x. note_at name x.notes))) (test_fails _ NoNote no.note)))
note_allowed state given by repo expected name (Some note) none kind =
    let no = no_cause (set_note_causes state given repo expected name (Some note)) none in
    allowed state _ no.stopped no.full (there state repo (IsNoteChange name (Some note)) no.repository (λ r is. kind))
