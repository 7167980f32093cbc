use Rattle.std.proofs.Common.{Ok, Err, arith}
use Rattle.core_puts.specs.KeeperViews.{KeeperView}
use Rattle.head_steps.specs.NewHeads.{NewHead}
use Rattle.flow_steps.proofs.PausedLemmas.{paused_once}
use Rattle.head_steps.proofs.HeadPauseLemmas.{changed_few, paused_not}
use Rattle.head_steps.proofs.SwapTryLemmas.{copy_ready, copy_tried, none_changed, not_drafted_tried}
use Rattle.head_steps.proofs.tries.head_once.Goals as goal

pub returns-in-Err-clause-tried : goal.returns-in-Err-clause-tried
returns-in-Err-clause-tried g c =
    let view : KeeperView _ = record { kept = g.K.Keeper.kept; faults = g.K.Keeper.faults; calls = g.K.Keeper.calls; successes = g.K.Keeper.successes } in
    let head : NewHead = record { repo = c.args.repo.now; branch = c.args.branch.now; kind = c.args.kind; about = c.args.about.now } in
    not_drafted_tried view c.args.seat.now c.drafted.new.seat head c.args.call c.in-Err.fault c.in-Err.ensures.read

pub returns-in-Err-clause-paused : goal.returns-in-Err-clause-paused
returns-in-Err-clause-paused g c =
    let view : KeeperView _ = record { kept = g.K.Keeper.kept; faults = g.K.Keeper.faults; calls = g.K.Keeper.calls; successes = g.K.Keeper.successes } in
    let head : NewHead = record { repo = c.args.repo.now; branch = c.args.branch.now; kind = c.args.kind; about = c.args.about.now } in
    paused_not _ _ (none_changed view c.args.seat.now c.drafted.new.seat head c.args.call c.in-Err.fault c.in-Err.ensures.read)

pub swap-requires-clause-ready : goal.swap-requires-clause-ready
swap-requires-clause-ready g c found finds =
    let view : KeeperView _ = record { kept = g.K.Keeper.kept; faults = g.K.Keeper.faults; calls = g.K.Keeper.calls; successes = g.K.Keeper.successes } in
    let head : NewHead = record { repo = c.args.repo.now; branch = c.args.branch.now; kind = c.args.kind; about = c.args.about.now } in
    copy_ready view c.args.seat.now c.drafted.new.seat c.drafted.new.seat head c.args.call c.in-Ok.drafted.0 c.in-Ok.ensures.read c.in-Ok.drafted.1
    c.in-Ok.ensures.about found finds

pub returns-in-Ok-swap-clause-tried : goal.returns-in-Ok-swap-clause-tried
returns-in-Ok-swap-clause-tried g c =
    let view : KeeperView _ = record { kept = g.K.Keeper.kept; faults = g.K.Keeper.faults; calls = g.K.Keeper.calls; successes = g.K.Keeper.successes } in
    let head : NewHead = record { repo = c.args.repo.now; branch = c.args.branch.now; kind = c.args.kind; about = c.args.about.now } in
    copy_tried view c.args.seat.now c.drafted.new.seat c.swap.new.seat head c.args.call c.in-Ok.drafted.0 c.in-Ok.ensures.read c.in-Ok.drafted.1
    c.in-Ok.ensures.about (Ok c.in-Ok-swap.made) c.in-Ok-swap.ensures

pub returns-in-Ok-swap-clause-paused : goal.returns-in-Ok-swap-clause-paused
returns-in-Ok-swap-clause-paused g c = paused_once 0 _ _ (omega arith) c.between.ensures.called

pub returns-in-Err-swap-clause-tried : goal.returns-in-Err-swap-clause-tried
returns-in-Err-swap-clause-tried g c =
    let view : KeeperView _ = record { kept = g.K.Keeper.kept; faults = g.K.Keeper.faults; calls = g.K.Keeper.calls; successes = g.K.Keeper.successes } in
    let head : NewHead = record { repo = c.args.repo.now; branch = c.args.branch.now; kind = c.args.kind; about = c.args.about.now } in
    copy_tried view c.args.seat.now c.drafted.new.seat c.swap.new.seat head c.args.call c.in-Ok.drafted.0 c.in-Ok.ensures.read c.in-Ok.drafted.1
    c.in-Ok.ensures.about (Err c.in-Err-swap.fault) c.in-Err-swap.ensures

pub returns-in-Err-swap-clause-paused : goal.returns-in-Err-swap-clause-paused
returns-in-Err-swap-clause-paused g c = paused_once _ _ _ (changed_few c.in-Err-swap.fault) c.between.ensures.called
