use Rattle.lake_model.specs.declared.fault.StepFault.TheVariants.{NoNote}
use Rattle.lake_model.specs.Steps.{set_note_causes}
use Rattle.core_state.specs.LakeStates.{lake_value, state_of}
use Rattle.core_state.specs.RepositoryStates.{repository_value}
use Rattle.core_causes.proofs.CommonLemmas.{without_repository}
use Rattle.core_causes.proofs.FirstCauseLemmas.{change_passes, refused}
use Rattle.core_causes.proofs.NamingLemmas.{note_answer, note_first}
use Rattle.core_causes.proofs.naming.test_set_note.Goals as goal

pub returns-in_err-repository : goal.returns-in_err-repository
returns-in_err-repository c = λ given counts.
    let l = lake_value c.args.lake.now in
    let causes = set_note_causes (state_of l) given c.args.repo.now c.args.expected c.args.name c.args.note.now in
    without_repository l c.args.repo.now _ causes (change_passes (state_of l) c.in_ok-test_change.ensures)
    _ _ c.from_residual-in_err-repository.ensures.1 c.in_err-repository.ensures

pub returns-in_err-test_note : goal.returns-in_err-test_note
returns-in_err-test_note c = λ given counts.
    let l = lake_value c.args.lake.now in
    let causes = set_note_causes (state_of l) given c.args.repo.now c.args.expected c.args.name c.args.note.now in
    refused _ causes _ _ NoNote c.from_residual-in_err-test_note.ensures.1 c.in_err-test_note.ensures.0
    (note_first l c.args.repo.now (repository_value c.in_ok-repository.repository.now) c.in_ok-repository.ensures c.in_ok-test_change.ensures
    given counts c.args.expected c.args.name c.args.note.now c.in_err-test_note.ensures.1)

pub returns : goal.returns
returns c = λ given counts.
    note_answer (lake_value c.args.lake.now) c.args.repo.now (repository_value c.in_ok-repository.repository.now)
    c.in_ok-repository.ensures c.in_ok-test_change.ensures given counts c.args.expected c.args.name c.args.note.now
    c.test_settings.result c.in_ok-test_note.ensures c.test_settings.ensures
