use Rattle.std.proofs.Common.{◌≡◌, Some, subst}
use Rattle.lake_values.specs.Commit.{AboutValue}
use Rattle.lake_model.specs.Refusals.{first_cause}
use Rattle.core_state.specs.BranchStates.{branch_value}
use Rattle.core_state.specs.LakeStates.{lake_value, state_of}
use Rattle.core_state.specs.RepositoryStates.{repository_value}
use Rattle.core_causes.specs.Guarding.{guard_causes}
use Rattle.core_commits.specs.HeadOperations.{IsDrafted}
use Rattle.core_commits.proofs.TestingLemmas.{guard_refused, head_found, head_is, head_passed, live_refused, made_from, names_refused, room_found, starved}
use Rattle.core_commits.proofs.TestingLemmas.{trees_found}
use Rattle.core_commits.proofs.testing.test_head.Goals as goal

pub returns-in_err-repository-clause-asks : goal.returns-in_err-repository-clause-asks
returns-in_err-repository-clause-asks c given has =
    let l = lake_value c.args.lake.now in
    guard_refused l c.requires.sound c.requires.index c.args.repo.now c.args.branch.now c.args.kind c.args.about.now given
    c.args.guard.version c.args.guard.settings c.in_err-repository.field-0.0
    (subst (λ protects. first_cause (guard_causes protects (state_of l) given c.args.repo.now c.args.branch.now c.args.guard.version c.args.guard.settings)
    ≡ Some c.in_err-repository.field-0.0) (c.asks_protection.ensures c.args.about.now) (c.in_err-repository.ensures given has))
    c.from_residual.result c.from_residual.ensures.1

pub returns-in_err-copy-clause-asks : goal.returns-in_err-copy-clause-asks
returns-in_err-copy-clause-asks c given has =
    starved (lake_value c.args.lake.now) c.requires.sound c.requires.index c.args.repo.now c.args.branch.now c.args.kind c.args.about.now given
    c.args.guard.version c.args.guard.settings c.from_residual-in_err-copy.result c.from_residual-in_err-copy.ensures.1

pub returns-in_err-new-clause-asks : goal.returns-in_err-new-clause-asks
returns-in_err-new-clause-asks c given has =
    starved (lake_value c.args.lake.now) c.requires.sound c.requires.index c.args.repo.now c.args.branch.now c.args.kind c.args.about.now given
    c.args.guard.version c.args.guard.settings c.from_residual-in_err-new.result c.from_residual-in_err-new.ensures.1

pub returns-in_err-test_live_head-clause-asks : goal.returns-in_err-test_live_head-clause-asks
returns-in_err-test_live_head-clause-asks c given has =
    let l = lake_value c.args.lake.now in
    let r = repository_value c.in_ok-repository.repository.now in
    let b = branch_value c.in_ok-repository.found.now in
    let new = c.in_ok-new.new in
    let drafts = subst (λ (about : AboutValue). IsDrafted l.cut r b c.args.kind about c.args.tree new) c.in_ok-copy.ensures.equal (c.in_ok-new.ensures l.cut) in
    live_refused l c.requires.sound c.requires.index c.args.repo.now c.args.branch.now c.args.kind c.args.about.now c.args.guard.version c.args.guard.settings
    c.args.tree c.requires.tree c.asks_protection.result (c.asks_protection.ensures c.args.about.now) r b c.in_ok-repository.ensures
    (c.law_of_versions.ensures l)
    new drafts c.source_of.result (c.source_of.ensures c.args.about.now) c.in_err-test_live_head.field-0.0 c.in_err-test_live_head.ensures given has
    c.from_residual-in_err-test_live_head.result c.from_residual-in_err-test_live_head.ensures.1

pub returns-in_err-sealed-clause-asks : goal.returns-in_err-sealed-clause-asks
returns-in_err-sealed-clause-asks c given has =
    starved (lake_value c.args.lake.now) c.requires.sound c.requires.index c.args.repo.now c.args.branch.now c.args.kind c.args.about.now given
    c.args.guard.version c.args.guard.settings c.from_residual-in_err-sealed.result c.from_residual-in_err-sealed.ensures.1

pub provenance_of-requires-clause-head : goal.provenance_of-requires-clause-head
provenance_of-requires-clause-head c =
    let l = lake_value c.args.lake.now in
    let r = repository_value c.in_ok-repository.repository.now in
    let b = branch_value c.in_ok-repository.found.now in
    head_is l c.requires.sound c.requires.index c.args.repo.now c.args.branch.now c.args.kind c.args.about.now c.args.guard.version c.args.guard.settings
    c.args.tree c.requires.tree c.asks_protection.result (c.asks_protection.ensures c.args.about.now) r b c.in_ok-repository.ensures
    (c.law_of_versions.ensures l)

pub returns-in_err-provenance-clause-asks : goal.returns-in_err-provenance-clause-asks
returns-in_err-provenance-clause-asks c given has =
    starved (lake_value c.args.lake.now) c.requires.sound c.requires.index c.args.repo.now c.args.branch.now c.args.kind c.args.about.now given
    c.args.guard.version c.args.guard.settings c.from_residual-in_err-provenance.result c.from_residual-in_err-provenance.ensures.1

pub test_new_commit-requires-clause-made : goal.test_new_commit-requires-clause-made
test_new_commit-requires-clause-made c =
    let l = lake_value c.args.lake.now in
    let r = repository_value c.in_ok-repository.repository.now in
    let b = branch_value c.in_ok-repository.found.now in
    let new = c.in_ok-new.new in
    let drafts = subst (λ (about : AboutValue). IsDrafted l.cut r b c.args.kind about c.args.tree new) c.in_ok-copy.ensures.equal (c.in_ok-new.ensures l.cut) in
    made_from l c.requires.sound c.requires.index c.args.repo.now c.args.branch.now c.args.kind c.args.about.now c.args.guard.version c.args.guard.settings
    c.args.tree c.requires.tree c.asks_protection.result (c.asks_protection.ensures c.args.about.now) r b c.in_ok-repository.ensures
    (c.law_of_versions.ensures l)
    new drafts c.deref.result.now c.deref.ensures c.in_ok-provenance.provenance (c.in_ok-provenance.ensures.made c.args.about.now)

pub test_new_commit-requires-clause-found : goal.test_new_commit-requires-clause-found
test_new_commit-requires-clause-found c =
    let l = lake_value c.args.lake.now in
    let r = repository_value c.in_ok-repository.repository.now in
    let b = branch_value c.in_ok-repository.found.now in
    trees_found l c.requires.sound c.requires.index c.args.repo.now c.args.branch.now c.args.kind c.args.about.now c.args.guard.version c.args.guard.settings
    c.args.tree c.requires.tree c.asks_protection.result (c.asks_protection.ensures c.args.about.now) r b c.in_ok-repository.ensures
    (c.law_of_versions.ensures l)
    c.in_ok-provenance.provenance c.in_ok-provenance.ensures.trees

pub returns-in_err-test_new_commit-clause-asks : goal.returns-in_err-test_new_commit-clause-asks
returns-in_err-test_new_commit-clause-asks c given has =
    let l = lake_value c.args.lake.now in
    let r = repository_value c.in_ok-repository.repository.now in
    let b = branch_value c.in_ok-repository.found.now in
    let new = c.in_ok-new.new in
    let drafts = subst (λ (about : AboutValue). IsDrafted l.cut r b c.args.kind about c.args.tree new) c.in_ok-copy.ensures.equal (c.in_ok-new.ensures l.cut) in
    names_refused l c.requires.sound c.requires.index c.args.repo.now c.args.branch.now c.args.kind c.args.about.now c.args.guard.version c.args.guard.settings
    c.args.tree c.requires.tree c.asks_protection.result (c.asks_protection.ensures c.args.about.now) r b c.in_ok-repository.ensures
    (c.law_of_versions.ensures l)
    new drafts c.source_of.result (c.source_of.ensures c.args.about.now) c.in_ok-test_live_head.ensures c.deref.result.now c.deref.ensures
    c.in_err-test_new_commit.field-0.0 c.in_err-test_new_commit.ensures given has
    c.from_residual-in_err-test_new_commit.result c.from_residual-in_err-test_new_commit.ensures.1

pub law_of_standing-requires : goal.law_of_standing-requires
law_of_standing-requires c = (c.in_ok-new.ensures (lake_value c.args.lake.now).cut).limits

pub returns-clause-asks : goal.returns-clause-asks
returns-clause-asks c given has =
    let l = lake_value c.args.lake.now in
    let r = repository_value c.in_ok-repository.repository.now in
    let b = branch_value c.in_ok-repository.found.now in
    let new = c.in_ok-new.new in
    let drafts = subst (λ (about : AboutValue). IsDrafted l.cut r b c.args.kind about c.args.tree new) c.in_ok-copy.ensures.equal (c.in_ok-new.ensures l.cut) in
    head_passed l c.requires.sound c.requires.index c.args.repo.now c.args.branch.now c.args.kind c.args.about.now c.args.guard.version c.args.guard.settings
    c.args.tree c.requires.tree c.asks_protection.result (c.asks_protection.ensures c.args.about.now) r b c.in_ok-repository.ensures
    (c.law_of_versions.ensures l)
    new drafts c.source_of.result (c.source_of.ensures c.args.about.now) c.in_ok-test_live_head.ensures c.deref.result.now c.deref.ensures _
    c.in_ok-test_new_commit.ensures new given has

pub returns-clause-found : goal.returns-clause-found
returns-clause-found c =
    let l = lake_value c.args.lake.now in
    let r = repository_value c.in_ok-repository.repository.now in
    let b = branch_value c.in_ok-repository.found.now in
    let new = c.in_ok-new.new in
    let drafts = subst (λ (about : AboutValue). IsDrafted l.cut r b c.args.kind about c.args.tree new) c.in_ok-copy.ensures.equal (c.in_ok-new.ensures l.cut) in
    head_found l c.requires.sound c.requires.index c.args.repo.now c.args.branch.now c.args.kind c.args.about.now c.args.guard.version c.args.guard.settings
    c.args.tree c.requires.tree c.asks_protection.result (c.asks_protection.ensures c.args.about.now) r b c.in_ok-repository.ensures
    (c.law_of_versions.ensures l)
    new drafts c.source_of.result (c.source_of.ensures c.args.about.now) c.in_ok-test_live_head.ensures c.deref.result.now c.deref.ensures _
    c.in_ok-test_new_commit.ensures c.law_of_standing.ensures

pub returns-clause-room : goal.returns-clause-room
returns-clause-room c =
    let l = lake_value c.args.lake.now in
    let r = repository_value c.in_ok-repository.repository.now in
    let b = branch_value c.in_ok-repository.found.now in
    room_found l c.requires.sound c.requires.index c.args.repo.now c.args.branch.now c.args.kind c.args.about.now c.args.guard.version c.args.guard.settings
    c.args.tree c.requires.tree c.asks_protection.result (c.asks_protection.ensures c.args.about.now) r b c.in_ok-repository.ensures
    (c.law_of_versions.ensures l)

pub returns-clause-limits : goal.returns-clause-limits
returns-clause-limits c = (c.in_ok-new.ensures (lake_value c.args.lake.now).cut).limits
