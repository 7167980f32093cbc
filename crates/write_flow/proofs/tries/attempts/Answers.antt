use Rattle.std.proofs.Common.{◌≡◌, ◌+◌, Err, refl, subst, sym, ◌∙◌, arith}
use Rattle.core_puts.specs.KeeperViews.{KeeperView}
use Rattle.flow_steps.specs.FlowTries.{HasTried}
use Rattle.flow_steps.specs.Retries.{HasPaused}
use Rattle.flow_steps.proofs.PausedLemmas.{paused_more, paused_within}
use Rattle.flow_steps.proofs.RetryLemmas.{NoneTried, UnderWay, same_turn}
use Rattle.write_flow.specs.WriteTries.{HaveTried, guarded_of, version_found}
use Rattle.write_flow.proofs.LoopLemmas.{Found, all_changed, refused_behind, ticket_then, told_behind, version_behind, was_changed, was_refused, was_told}
use Rattle.write_flow.proofs.tries.attempts.Goals as goal

pub trying-init : goal.trying-init
trying-init g c = record { way = NoneTried refl refl; paused = record { times = 0; few = omega arith; enough = omega arith; called = refl }; few = omega arith }

pub attempt-result-requires-clause-own : goal.attempt-result-requires-clause-own
attempt-result-requires-clause-own g c = same_turn _ _ _ _ _ _ _ c.trying.invariant.way ∙ c.requires.own

pub attempt-result-requires-clause-ticket : goal.attempt-result-requires-clause-ticket
attempt-result-requires-clause-ticket g c =
    let view : KeeperView _ = record { kept = g.K.Keeper.kept; faults = g.K.Keeper.faults; calls = g.K.Keeper.calls; successes = g.K.Keeper.successes } in
    let guarded = guarded_of c.args.target.now.repo.now c.args.target.now.branch.now c.args.target.now.path.now c.args.what.now in
    ticket_then guarded c.args.call _ _ _ c.args.seat.now c.trying.seat c.trying.invariant.way (g.P.Pause.calls c.trying.pause) view _ c.requires.ticket

pub returns-in-Told : goal.returns-in-Told
returns-in-Told g c =
    told_behind _ c.args.call _ _ _ c.args.seat.now c.trying.seat c.trying.invariant.way _ c.in-Told.copied c.attempt-result.new.seat _
    (omega (arith, c.trying-test.true))
    (paused_within _ _ 10 _ _ _ (omega (arith, c.trying-test.true)) (omega arith)
    (paused_more _ _ 1 0 _ _ _ c.trying.invariant.paused (paused_within 1 _ 1 0 _ _ (omega arith) (omega arith) c.attempt-result.ensures.paused)))
    (subst (HasTried _ c.args.call c.trying.seat c.attempt-result.new.seat) (was_told c.attempt-result.result c.in-Told.copied (sym c.in-Told.ensures))
    c.attempt-result.ensures.tried)

pub trying-preserved : goal.trying-preserved
trying-preserved g c =
    let guarded = guarded_of c.args.target.now.repo.now c.args.target.now.branch.now c.args.target.now.path.now c.args.what.now in
    let was = was_changed c.attempt-result.result c.in-Changed.version (sym c.in-Changed.ensures) in
    let tried = subst (HasTried guarded c.args.call c.trying.seat c.attempt-result.new.seat) was.1 c.attempt-result.ensures.tried in
    let way = version_behind guarded c.args.call _ _ c.trying.last c.args.seat.now c.trying.seat c.trying.invariant.way (g.P.Pause.calls c.trying.pause)
    c.in-Changed.version was.0 c.attempt-result.new.seat tried in
    let paused = subst (λ r. HasPaused 1 (version_found r) (g.P.Pause.calls c.trying.pause) (g.P.Pause.calls c.attempt-result.new.pause)) was.1
    c.attempt-result.ensures.paused in
    record {
      way = subst (λ first. UnderWay (Found guarded) c.args.call (c.trying.changed + 1) first c.in-Changed.version
          c.args.seat.now c.attempt-result.new.seat) (sym c.first_found-first.ensures) way;
      paused = paused_more _ _ 1 1 _ _ _ c.trying.invariant.paused paused;
      few = omega (arith, c.trying-test.true);
    }

pub returns-in-Refused : goal.returns-in-Refused
returns-in-Refused g c =
    let guarded = guarded_of c.args.target.now.repo.now c.args.target.now.branch.now c.args.target.now.path.now c.args.what.now in
    let was = was_refused c.attempt-result.result c.in-Refused.fault (sym c.in-Refused.ensures) in
    let tried = subst (HasTried guarded c.args.call c.trying.seat c.attempt-result.new.seat) was.1 c.attempt-result.ensures.tried in
    subst (λ fault. HaveTried guarded c.args.call c.args.seat.now c.attempt-result.new.seat (g.P.Pause.calls c.args.pause.now)
    (g.P.Pause.calls c.attempt-result.new.pause) (Err fault)) (sym c.of_step.ensures)
    (refused_behind guarded c.args.call _ _ _ c.args.seat.now c.trying.seat c.trying.invariant.way _ c.in-Refused.fault c.attempt-result.new.seat _
    (omega (arith, c.trying-test.true))
    (paused_within _ _ 10 _ _ _ (omega (arith, c.trying-test.true)) (omega arith)
    (paused_more _ _ 1 0 _ _ _ c.trying.invariant.paused (paused_within 1 _ 1 0 _ _ (omega arith) (omega arith) c.attempt-result.ensures.paused)))
    was.0 tried)

pub returns : goal.returns
returns g c =
    let ten : c.trying.changed ≡ 10 = omega (arith, c.trying.invariant.few, c.trying-test.false) in
    all_changed _ c.args.call _ _ _ c.args.seat.now c.trying.seat c.trying.invariant.way _ _ ten
    (paused_within _ _ 10 _ _ _ c.trying.invariant.few (omega arith) c.trying.invariant.paused)
