use Rattle.std.proofs.Common.{◌≡◌, ◌+◌, Err, refl, subst, sym, ◌∙◌, arith}
use Rattle.core_puts.specs.KeeperViews.{KeeperView}
use Rattle.flow_steps.specs.Retries.{HasPaused}
use Rattle.flow_steps.proofs.PausedLemmas.{paused_more, paused_within}
use Rattle.flow_steps.proofs.RetryLemmas.{NoneTried, UnderWay, finds_then, same_turn}
use Rattle.head_steps.specs.HeadPauses.{times_changed}
use Rattle.head_steps.specs.HeadTries.{HasTriedHead}
use Rattle.head_steps.specs.NewHeads.{NewHead}
use Rattle.commit_flow.specs.CommitTries.{HaveTriedHead}
use Rattle.commit_flow.proofs.HeadLoopLemmas.{Found, all_changed, came_by, made_behind, refused_behind, version_behind, was_changed, was_made, was_refused}
use Rattle.commit_flow.proofs.tries.attempts.Goals as goal

pub trying-init : goal.trying-init
trying-init g c = record { way = NoneTried refl refl; paused = record { times = 0; few = omega arith; enough = omega arith; called = refl }; few = omega arith }

pub head_once-result-requires-clause-own : goal.head_once-result-requires-clause-own
head_once-result-requires-clause-own g c = same_turn _ _ _ _ _ _ _ c.trying.invariant.way ∙ c.requires.own

pub head_once-result-requires-clause-sides : goal.head_once-result-requires-clause-sides
head_once-result-requires-clause-sides g c found finds =
    let view : KeeperView _ = record { kept = g.K.Keeper.kept; faults = g.K.Keeper.faults; calls = g.K.Keeper.calls; successes = g.K.Keeper.successes } in
    let head : NewHead = record { repo = c.args.repo.now; branch = c.args.branch.now; kind = c.args.kind; about = c.args.about.now } in
    c.requires.sides found
    (finds_then (Found head) c.args.call _ _ _ c.args.seat.now c.trying.seat view (came_by head) c.trying.invariant.way found finds)

pub returns-in-Made : goal.returns-in-Made
returns-in-Made g c =
    let head : NewHead = record { repo = c.args.repo.now; branch = c.args.branch.now; kind = c.args.kind; about = c.args.about.now } in
    made_behind head c.args.call _ _ _ c.args.seat.now c.trying.seat c.trying.invariant.way _ _ c.head_once-result.new.seat _
    (omega (arith, c.trying-test.true))
    (paused_within _ _ 10 _ _ _ (omega (arith, c.trying-test.true)) (omega arith)
    (paused_more _ _ 1 0 _ _ _ c.trying.invariant.paused (paused_within 1 _ 1 0 _ _ (omega arith) (omega arith) c.head_once-result.ensures.paused)))
    (subst (HasTriedHead head c.args.call c.trying.seat c.head_once-result.new.seat) (was_made c.head_once-result.result _ (sym c.in-Made.ensures))
    c.head_once-result.ensures.tried)

pub trying-preserved : goal.trying-preserved
trying-preserved g c =
    let head : NewHead = record { repo = c.args.repo.now; branch = c.args.branch.now; kind = c.args.kind; about = c.args.about.now } in
    let was = was_changed c.head_once-result.result c.in-Changed.version (sym c.in-Changed.ensures) in
    let tried = subst (HasTriedHead head c.args.call c.trying.seat c.head_once-result.new.seat) was.1 c.head_once-result.ensures.tried in
    let way = version_behind head c.args.call _ _ c.trying.last c.args.seat.now c.trying.seat c.trying.invariant.way (g.P.Pause.calls c.trying.pause)
    c.in-Changed.version was.0 c.head_once-result.new.seat tried in
    let paused = subst (λ r. HasPaused 1 (times_changed r) (g.P.Pause.calls c.trying.pause) (g.P.Pause.calls c.head_once-result.new.pause)) was.1
    c.head_once-result.ensures.paused in
    record {
      way = subst (λ first. UnderWay (Found head) c.args.call (c.trying.changed + 1) first c.in-Changed.version
          c.args.seat.now c.head_once-result.new.seat) (sym c.first_found-first.ensures) way;
      paused = paused_more _ _ 1 1 _ _ _ c.trying.invariant.paused paused;
      few = omega (arith, c.trying-test.true);
    }

pub returns-in-Refused : goal.returns-in-Refused
returns-in-Refused g c =
    let head : NewHead = record { repo = c.args.repo.now; branch = c.args.branch.now; kind = c.args.kind; about = c.args.about.now } in
    let was = was_refused c.head_once-result.result c.in-Refused.fault (sym c.in-Refused.ensures) in
    let tried = subst (HasTriedHead head c.args.call c.trying.seat c.head_once-result.new.seat) was.1 c.head_once-result.ensures.tried in
    subst (λ fault. HaveTriedHead head c.args.call c.args.seat.now c.head_once-result.new.seat (g.P.Pause.calls c.args.pause.now)
    (g.P.Pause.calls c.head_once-result.new.pause) (Err fault)) (sym c.of_try.ensures)
    (refused_behind head c.args.call _ _ _ c.args.seat.now c.trying.seat c.trying.invariant.way _ c.in-Refused.fault c.head_once-result.new.seat _
    (omega (arith, c.trying-test.true))
    (paused_within _ _ 10 _ _ _ (omega (arith, c.trying-test.true)) (omega arith)
    (paused_more _ _ 1 0 _ _ _ c.trying.invariant.paused (paused_within 1 _ 1 0 _ _ (omega arith) (omega arith) c.head_once-result.ensures.paused)))
    was.0 tried)

pub returns : goal.returns
returns g c =
    let ten : c.trying.changed ≡ 10 = omega (arith, c.trying.invariant.few, c.trying-test.false) in
    let head : NewHead = record { repo = c.args.repo.now; branch = c.args.branch.now; kind = c.args.kind; about = c.args.about.now } in
    all_changed head c.args.call _ _ _ c.args.seat.now c.trying.seat c.trying.invariant.way _ _ ten
    (paused_within _ _ 10 _ _ _ c.trying.invariant.few (omega arith) c.trying.invariant.paused)
