use Rattle.std.proofs.Common.{ap, sym, subst, ◌∙◌}
use Rattle.std.specs.Prelude.{IfSome, Ok, Err}
use Rattle.lake_values.specs.Commit.{AboutValue}
use Rattle.core_puts.specs.KeeperViews.{KeeperView}
use Rattle.core_readings.specs.Preparations.{HasSides, prepared_value}
use Rattle.lake_core.specs.Lakes.{state}
use Rattle.head_drafts.specs.Drafts.{IsDraft, drafted_map}
use Rattle.head_drafts.specs.HeadDrafts.{strategy_of}
use Rattle.head_steps.specs.NewHeads.{NewHead}
use Rattle.head_steps.proofs.DraftedLemmas.{not_copied, not_drafted, not_handed, was_drafted}
use Rattle.head_steps.proofs.tries.drafted.Goals as goal

pub prepare-requires-clause-sides : goal.prepare-requires-clause-sides
prepare-requires-clause-sides g c found finds =
    subst (λ s. IfSome s (HasSides (state found) c.args.repo.now)) (sym (c.as_ref.ensures.value ∙ c.sides_of-sides.ensures)) (c.requires.sides found finds)

pub returns-in-Err-clause-read : goal.returns-in-Err-clause-read
returns-in-Err-clause-read g c =
    let view : KeeperView _ = record { kept = g.K.Keeper.kept; faults = g.K.Keeper.faults; calls = g.K.Keeper.calls; successes = g.K.Keeper.successes } in
    let head : NewHead = record { repo = c.args.repo.now; branch = c.args.branch.now; kind = c.args.kind; about = c.args.about.now } in
    let sides = c.as_ref.ensures.value ∙ c.sides_of-sides.ensures in
    not_handed view c.args.seat.now c.prepare.new.seat head _ sides c.in-Err.fault c.in-Err.ensures.step

pub returns-in-Err-draft-clause-read : goal.returns-in-Err-draft-clause-read
returns-in-Err-draft-clause-read g c =
    let view : KeeperView _ = record { kept = g.K.Keeper.kept; faults = g.K.Keeper.faults; calls = g.K.Keeper.calls; successes = g.K.Keeper.successes } in
    let head : NewHead = record { repo = c.args.repo.now; branch = c.args.branch.now; kind = c.args.kind; about = c.args.about.now } in
    let sides = c.as_ref.ensures.value ∙ c.sides_of-sides.ensures in
    let p = prepared_value c.in-Ok.prepared in
    let strategy = ap (λ s. drafted_map s p c.args.branch.now c.about.inside.metadata) c.strategy_of.ensures in
    let metadata = ap (λ (a : AboutValue). drafted_map (strategy_of c.args.kind) p c.args.branch.now a.metadata) c.about.view_is in
    let made = subst (λ d. IsDraft p.cut d (Err c.in-Err-draft.fault)) (strategy ∙ metadata) c.in-Err-draft.ensures in
    not_drafted view c.args.seat.now c.prepare.new.seat head _ sides p c.in-Err-draft.fault c.in-Ok.ensures.step made

pub returns-in-Err-copy-clause-read : goal.returns-in-Err-copy-clause-read
returns-in-Err-copy-clause-read g c =
    let view : KeeperView _ = record { kept = g.K.Keeper.kept; faults = g.K.Keeper.faults; calls = g.K.Keeper.calls; successes = g.K.Keeper.successes } in
    let head : NewHead = record { repo = c.args.repo.now; branch = c.args.branch.now; kind = c.args.kind; about = c.args.about.now } in
    let sides = c.as_ref.ensures.value ∙ c.sides_of-sides.ensures in
    not_copied view c.args.seat.now c.prepare.new.seat head _ sides (prepared_value c.in-Ok.prepared) c.in-Ok.ensures.step

pub returns-clause-read : goal.returns-clause-read
returns-clause-read g c =
    let view : KeeperView _ = record { kept = g.K.Keeper.kept; faults = g.K.Keeper.faults; calls = g.K.Keeper.calls; successes = g.K.Keeper.successes } in
    let head : NewHead = record { repo = c.args.repo.now; branch = c.args.branch.now; kind = c.args.kind; about = c.args.about.now } in
    let sides = c.as_ref.ensures.value ∙ c.sides_of-sides.ensures in
    let p = prepared_value c.in-Ok.prepared in
    let strategy = ap (λ s. drafted_map s p c.args.branch.now c.about.inside.metadata) c.strategy_of.ensures in
    let metadata = ap (λ (a : AboutValue). drafted_map (strategy_of c.args.kind) p c.args.branch.now a.metadata) c.about.view_is in
    let made = subst (λ d. IsDraft p.cut d (Ok c.in-Ok-draft.tree)) (strategy ∙ metadata) c.in-Ok-draft.ensures in
    was_drafted view c.args.seat.now c.prepare.new.seat head _ sides p c.in-Ok-draft.tree c.requires.sides c.in-Ok.ensures.step made
