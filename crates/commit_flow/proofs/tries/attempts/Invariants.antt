use Rattle.std.proofs.Common.{◌-◌, ◌≤◌}
use Rattle.flow_steps.specs.Retries.{HasPaused}
use Rattle.flow_steps.proofs.RetryLemmas.{UnderWay}
use Rattle.commit_flow.proofs.HeadLoopLemmas.{Found}
use Rattle.commit_flow.proofs.tries.attempts.Given as goal

-- each try so far found other versions, behind a pause of its own
abbrev pub invariant-trying : goal.invariant-trying
invariant-trying g l = record {
  way : UnderWay (Found (record { repo = l.fn.repo; branch = l.fn.branch; kind = l.fn.kind; about = l.fn.about })) l.fn.call
      l.changed l.first l.last l.fn.seat l.seat;
  paused : HasPaused l.changed l.changed (g.P.Pause.calls l.fn.pause) (g.P.Pause.calls l.pause);
  few : l.changed ≤ 10;
}

abbrev pub decreases-trying : goal.decreases-trying
decreases-trying g l = 10 - l.changed
