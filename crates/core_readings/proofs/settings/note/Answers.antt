use Rattle.std.proofs.Common.{sym, ◌∙◌}
use Rattle.core_state.specs.LakeStates.{lake_value}
use Rattle.core_readings.proofs.ReplyLemmas.{in_none}
use Rattle.core_readings.proofs.VersionLemmas.{note_found, note_missing}
use Rattle.core_readings.proofs.settings.note.Goals as goal

pub returns-in_default : goal.returns-in_default
returns-in_default c given has = in_none (lake_value c.args.lake.now) c.args.repo.now _ c.in_default.ensures

pub returns-in-Some-2 : goal.returns-in-Some-2
unfolding lake_value
returns-in-Some-2 c given has =
    note_found (lake_value c.args.lake.now) given has c.args.repo.now c.in-Some.repository.now c.in-Some.ensures c.args.name c.in-Some-2.note
    (sym c.in-Some-2.is ∙ c.in_ok-note.ensures)

pub returns-in-None : goal.returns-in-None
returns-in-None c given has =
    note_missing (lake_value c.args.lake.now) given has c.args.repo.now c.in-Some.repository.now c.in-Some.ensures c.args.name
    (sym c.in-None.is ∙ c.in_ok-note.ensures)
