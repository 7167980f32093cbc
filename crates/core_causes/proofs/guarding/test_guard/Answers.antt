use Rattle.std.proofs.Common.{refl}
use Rattle.core_state.specs.BranchStates.{branch_value}
use Rattle.core_state.specs.LakeStates.{lake_value, state_of}
use Rattle.core_state.specs.RepositoryStates.{repository_value}
use Rattle.core_causes.specs.Guarding.{guard_causes}
use Rattle.core_causes.proofs.FirstCauseLemmas.{refused}
use Rattle.core_causes.proofs.GuardingLemmas.{guard_changed, guard_none, guard_protected, no_branch, no_repository}
use Rattle.core_causes.proofs.guarding.test_guard.Goals as goal

pub returns-in_err-repository : goal.returns-in_err-repository
returns-in_err-repository c = λ given counts.
    no_repository (lake_value c.args.lake.now) given c.args.repo.now c.args.branch.now c.args.version c.args.settings c.in_ok-test_change.ensures
    _ c.args.protects _ _ c.from_residual-in_err-repository.ensures.1 c.in_err-repository.ensures

pub returns-in_err-found : goal.returns-in_err-found
returns-in_err-found c = λ given counts.
    no_branch (lake_value c.args.lake.now) given c.args.repo.now c.args.branch.now c.args.version c.args.settings c.in_ok-test_change.ensures
    (repository_value c.in_ok-repository.repository.now) c.in_ok-repository.ensures
    _ c.args.protects _ _ c.from_residual-in_err-found.ensures.1 c.in_err-found.ensures

pub returns-in_err-test_counted : goal.returns-in_err-test_counted
returns-in_err-test_counted c = λ given counts.
    let l = lake_value c.args.lake.now in
    let causes = guard_causes c.args.protects (state_of l) given c.args.repo.now c.args.branch.now c.args.version c.args.settings in
    let told = c.in_err-test_counted.field-0.0 in
    refused _ causes _ told told c.from_residual-in_err-test_counted.ensures.1 refl
    (guard_protected l given c.args.repo.now c.args.branch.now c.args.version c.args.settings c.in_ok-test_change.ensures
    (repository_value c.in_ok-repository.repository.now) c.in_ok-repository.ensures (branch_value c.in_ok-found.found.now) c.in_ok-found.ensures
    c.args.protects told c.in_err-test_counted.ensures)

pub returns-in_err-test_versions : goal.returns-in_err-test_versions
returns-in_err-test_versions c = λ given counts.
    let l = lake_value c.args.lake.now in
    let causes = guard_causes c.args.protects (state_of l) given c.args.repo.now c.args.branch.now c.args.version c.args.settings in
    let told = c.in_err-test_versions.field-0.0 in
    refused _ causes _ told told c.from_residual-in_err-test_versions.ensures.1 refl
    (guard_changed l given c.args.repo.now c.args.branch.now c.args.version c.args.settings c.in_ok-test_change.ensures
    (repository_value c.in_ok-repository.repository.now) c.in_ok-repository.ensures (branch_value c.in_ok-found.found.now) c.in_ok-found.ensures counts
    c.args.protects c.in_ok-test_counted.ensures told c.in_err-test_versions.ensures)

pub returns : goal.returns
returns c = λ given counts. (
  guard_none (lake_value c.args.lake.now) given c.args.repo.now c.args.branch.now c.args.version c.args.settings c.in_ok-test_change.ensures
      (repository_value c.in_ok-repository.repository.now) c.in_ok-repository.ensures (branch_value c.in_ok-found.found.now) c.in_ok-found.ensures counts
      c.args.protects c.in_ok-test_counted.ensures c.in_ok-test_versions.ensures,
  c.in_ok-repository.ensures,
  c.in_ok-found.ensures,
)
