use Rattle.std.proofs.Common.{Some, sym}
use Rattle.std.specs.Option.{option_copied}
use Rattle.std.proofs.lemmas.Option.{IfSome_then}
use Rattle.std.proofs.lemmas.Result.{err_from_is_err_and}
use Rattle.core_state.specs.LakeStates.{lake_value}
use Rattle.core_state.specs.RepositoryStates.{repository_value}
use Rattle.core_readings.specs.Preparations.{prepared_value}
use Rattle.core_readings.proofs.PlacesLemmas.{branch_at, found_branch, has_targets}
use Rattle.core_readings.proofs.PreparingLemmas.{gives_same, no_branch, no_repository, no_source, of_there, prepared_there}
use Rattle.core_readings.proofs.TreesLemmas.{has_trees, is_cut}
use Rattle.core_readings.proofs.preparing.prepare.Goals as goal

pub returns-in_default-clause-reply : goal.returns-in_default-clause-reply
returns-in_default-clause-reply c given has =
    no_repository (lake_value c.args.lake.now) given c.args.repo.now c.args.branch.now (option_copied c.args.sides) c.in_default.ensures

pub returns-in_default-found-clause-reply : goal.returns-in_default-found-clause-reply
returns-in_default-found-clause-reply c given has =
    no_branch (lake_value c.args.lake.now) given c.args.repo.now c.args.branch.now (option_copied c.args.sides) c.in-Some.repository.now c.in-Some.ensures
    c.in_default-found.ensures

pub returns-in_err-test_source-clause-reply : goal.returns-in_err-test_source-clause-reply
returns-in_err-test_source-clause-reply c given has =
    let p = err_from_is_err_and c.from_residual.result c.from_residual.ensures.1 in
    rw (p.1, p.2)
    (gives_same _ _
    (no_source (lake_value c.args.lake.now) given c.args.repo.now c.args.branch.now (option_copied c.args.sides) c.in-Some.repository.now c.in-Some.ensures
    c.in_Some-found.found.now c.in_Some-found.ensures _ c.in_err-test_source.ensures))

pub gathered-requires-clause-trees : goal.gathered-requires-clause-trees
gathered-requires-clause-trees c =
    has_trees (lake_value c.args.lake.now) c.requires.sound c.requires.index c.args.repo.now (repository_value c.in-Some.repository.now) (sym c.in-Some.ensures)

pub gathered-requires-clause-cut : goal.gathered-requires-clause-cut
gathered-requires-clause-cut c =
    is_cut (lake_value c.args.lake.now) c.requires.sound c.requires.index c.args.repo.now (repository_value c.in-Some.repository.now) (sym c.in-Some.ensures)

pub gathered-requires-clause-head : goal.gathered-requires-clause-head
gathered-requires-clause-head c =
    (has_targets (lake_value c.args.lake.now) c.requires.sound c.args.repo.now c.in-Some.repository.now c.in-Some.ensures).heads c.args.branch.now
    (branch_at c.in_Some-found.found.now)
    (found_branch (repository_value c.in-Some.repository.now) c.args.branch.now (Some c.in_Some-found.found.now) c.in_Some-found.ensures)

pub gathered-requires-clause-sides : goal.gathered-requires-clause-sides
gathered-requires-clause-sides c =
    IfSome_then (option_copied c.args.sides) c.requires.sides
    (λ sides have. (of_there (lake_value c.args.lake.now) c.args.repo.now sides c.in-Some.repository.now c.in-Some.ensures).1 have)

pub returns-clause-reply : goal.returns-clause-reply
returns-clause-reply c given has =
    prepared_there (lake_value c.args.lake.now) given c.args.repo.now c.args.branch.now (option_copied c.args.sides) c.in-Some.repository.now c.in-Some.ensures
    c.in_Some-found.found.now c.in_Some-found.ensures has (prepared_value c.in_ok-prepared.prepared)
    (c.in_ok-prepared.ensures.value given c.args.repo.now c.args.branch.now) c.in_ok-test_source.ensures
