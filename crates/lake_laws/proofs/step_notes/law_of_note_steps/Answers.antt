use Rattle.lake_laws.proofs.NoteLemmas.{note_allowed}
use Rattle.lake_laws.proofs.step_notes.law_of_note_steps.Goals as goal

pub returns : goal.returns
returns c = record { set_note = note_allowed }
