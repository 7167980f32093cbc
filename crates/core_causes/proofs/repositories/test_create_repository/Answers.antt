use Rattle.std.proofs.Common.{sym, ◌∙◌}
use Rattle.core_state.specs.LakeStates.{lake_value}
use Rattle.core_state.specs.RepositoryStates.{repository_value}
use Rattle.core_causes.proofs.CreatingLemmas.{found_some}
use Rattle.core_causes.proofs.RepositoriesLemmas.{change_answer, commit_answer, commit_named, exists_answer, file_answer, file_named}
use Rattle.core_causes.proofs.repositories.test_create_repository.Goals as goal

pub returns-in_err-test_change : goal.returns-in_err-test_change
returns-in_err-test_change c branch date are =
    change_answer (lake_value c.args.lake.now) c.requires.sound c.requires.index c.args.repo.now branch date c.args.commit.now c.args.file.now are
    c.from_residual.result _ c.from_residual.ensures.1 c.in_err-test_change.ensures

pub returns-then-is_some : goal.returns-then-is_some
returns-then-is_some c branch date are =
    exists_answer (lake_value c.args.lake.now) c.requires.sound c.requires.index c.args.repo.now branch date c.args.commit.now c.args.file.now are
    c.in_ok-test_change.ensures (found_some repository_value _ _ c.repository-other.ensures ∙ sym c.if-is_some.ensures)

pub returns-in_err-test_clash : goal.returns-in_err-test_clash
returns-in_err-test_clash c branch date are =
    let named = commit_named (lake_value c.args.lake.now) c.requires.sound c.requires.index c.args.repo.now branch date c.args.commit.now c.args.file.now are in
    commit_answer (lake_value c.args.lake.now) c.requires.sound c.requires.index c.args.repo.now branch date c.args.commit.now c.args.file.now are
    c.in_ok-test_change.ensures (found_some repository_value _ _ c.repository-other.ensures ∙ sym c.if-is_some.ensures)
    c.from_residual-in_err-test_clash.result _ c.from_residual-in_err-test_clash.ensures.1 (c.in_err-test_clash.ensures named)

pub returns : goal.returns
returns c branch date are =
    let l = lake_value c.args.lake.now in
    let commit = commit_named l c.requires.sound c.requires.index c.args.repo.now branch date c.args.commit.now c.args.file.now are in
    let file = file_named l c.requires.sound c.requires.index c.args.repo.now branch date c.args.commit.now c.args.file.now are in
    file_answer l c.requires.sound c.requires.index c.args.repo.now branch date c.args.commit.now c.args.file.now are
    c.in_ok-test_change.ensures (found_some repository_value _ _ c.repository-other.ensures ∙ sym c.if-is_some.ensures)
    c.test_clash-2.result (c.in_ok-test_clash.ensures commit) (c.test_clash-2.ensures file)
