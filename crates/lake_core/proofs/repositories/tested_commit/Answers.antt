use Rattle.std.specs.FinMap.{empty}
use Rattle.lake_format.specs.Cutting.{files}
use Rattle.meta_range.specs.Ranges.{first_file}
use Rattle.core_causes.proofs.RepositoriesLemmas.{some_clash}
use Rattle.core_changes.proofs.FoundingLemmas.{one_file}
use Rattle.core_puts.proofs.FoundingLemmas.{first_files}
use Rattle.core_state.specs.LakeStates.{lake_value, state_of}
use Rattle.lake_core.proofs.RepositoryLemmas.{asked_again, asked_well, unmade_asks}
use Rattle.lake_core.proofs.repositories.tested_commit.Goals as goal

pub returns-in_err-first-clause-asks : goal.returns-in_err-first-clause-asks
returns-in_err-first-clause-asks c branch =
    let l = lake_value c.args.lake.now in
    let some = some_clash l c.requires.sound c.requires.index branch c.args.date (first_file (files l.cut empty)) (one_file l.cut) in
    unmade_asks (state_of l) c.args.repo.now branch c.args.date some.0 some.1 c.from_residual.result c.from_residual.ensures.1

pub returns-in_err-test_create_repository-clause-asks : goal.returns-in_err-test_create_repository-clause-asks
returns-in_err-test_create_repository-clause-asks c branch =
    let l = lake_value c.args.lake.now in
    let files = first_files l.cut c.args.date c.in_ok-first.first (c.in_ok-first.ensures l.cut) in
    asked_again (state_of l) c.args.repo.now branch c.args.date _ (c.in_err-test_create_repository.ensures branch c.args.date files)
    c.from_residual-in_err-test_create_repository.result c.from_residual-in_err-test_create_repository.ensures.1

pub returns-clause-asks : goal.returns-clause-asks
returns-clause-asks c branch =
    let l = lake_value c.args.lake.now in
    let files = first_files l.cut c.args.date c.in_ok-first.first (c.in_ok-first.ensures l.cut) in
    asked_well (state_of l) c.args.repo.now branch c.args.date _ (c.in_ok-test_create_repository.ensures branch c.args.date files) c.in_ok-first.first
