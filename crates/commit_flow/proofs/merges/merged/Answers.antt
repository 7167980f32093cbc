use Rattle.std.proofs.Common.{[], ap, Err, refl, ◌∙◌}
use Rattle.core_puts.specs.KeeperViews.{KeeperView}
use Rattle.shared_lake.specs.SeatSteps.{LakeSeat}
use Rattle.commit_flow.specs.CommitFlows.{Merging, NoSource}
use Rattle.commit_flow.proofs.MergeLemmas.{source_there}
use Rattle.commit_flow.proofs.merges.merged.Goals as goal

pub returns-in-Err : goal.returns-in-Err
returns-in-Err g c = ([], NoSource c.in-Err.fault (c.in-Err.ensures c.args.call) refl refl (ap Err c.of_step.ensures))

pub new_head-requires-clause-own : goal.new_head-requires-clause-own
new_head-requires-clause-own g c = ap (λ (s : LakeSeat). s.turn) (c.in-Ok.ensures c.args.call).goes.seat ∙ c.requires

pub new_head-requires-clause-sides : goal.new_head-requires-clause-sides
new_head-requires-clause-sides g c origin now found goes finds =
    let view : KeeperView _ = record { kept = g.K.Keeper.kept; faults = g.K.Keeper.faults; calls = g.K.Keeper.calls; successes = g.K.Keeper.successes } in
    source_there c.args.call c.args.repo.now c.args.source.now c.in-Ok.point c.args.seat.now c.resolve_for.new.seat (c.in-Ok.ensures c.args.call) view origin
    now found goes finds

pub returns : goal.returns
returns g c = (c.new_head.ensures.0, Merging c.in-Ok.point c.resolve_for.new.seat (c.in-Ok.ensures c.args.call) c.new_head.ensures.1)
