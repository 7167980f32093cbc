use Rattle.std.proofs.Common.{◌≡◌, ◌≤◌, ℕ, Some, subst, ◌∙◌, arith, below_more}
use Rattle.std.specs.Option.{IsSome}
use Rattle.lake_values.specs.Ancestry.{graph_of, commit_of, first_parent, date}
use Rattle.plain_reference.proofs.RetentionLemmas.{told_apart, refuted}
use Rattle.lake_values.proofs.AncestryWalkLemmas.{there_where_found, none_where_none, starts, no_follower_started, back_next, FollowsAt, follows_here}
use Rattle.lake_values.proofs.AncestryWalkLemmas.{no_follower_ended, no_follower_whole}
use Rattle.plain_reference.proofs.retention.is_follower.Goals as goal
use Rattle.plain_reference.proofs.retention.is_follower.Goals.{else-eq-via-then-eq+else-limit-date, else-eq-via-else-eq}

pub returns-then-is_none : goal.returns-then-is_none
returns-then-is_none c =
    let none = none_where_none c.commit_of.result (commit_of (graph_of c.args.commits.now) c.args.head.now) c.commit_of.ensures c.if-is_none.ensures in
    refuted (no_follower_started (graph_of c.args.commits.now) c.args.head.now c.args.limit c.args.id.now none)

pub loop-init : goal.loop-init
loop-init c =
    let there : IsSome (commit_of (graph_of c.args.commits.now) c.args.head.now) =
    there_where_found c.commit_of.result (commit_of (graph_of c.args.commits.now) c.args.head.now) c.commit_of.ensures c.if-is_none.ensures in
    (starts (graph_of c.args.commits.now) c.args.head.now there, λ steps below. absurd (omega arith))

pub returns-in_default : goal.returns-in_default
returns-in_default c =
    refuted (no_follower_ended (graph_of c.args.commits.now) c.loop.counter c.args.head.now c.loop.at c.args.limit c.args.id.now c.loop.invariant.0
    c.loop.invariant.1 c.in_default.ensures)

-- it isn't a follower here: it differs, or the date is before the limit
not_here : (c : goal.Joined-else-eq) → first_parent (graph_of c.args.commits.now) c.loop.at ≡ Some c.args.id.now
    → c.args.limit ≤ date (graph_of c.args.commits.now) c.loop.at → ⊥
not_here c first dated =
    elim c.else-eq.branch [
      | else-eq-via-then-eq+else-limit-date w ↦ absurd (omega (arith, dated, w.date.ensures, w.if-limit-date.false))
      | else-eq-via-else-eq w ↦
          let same : c.in-Some.parent ≡ c.args.id.now = let e : Some c.in-Some.parent ≡ Some c.args.id.now = c.in-Some.ensures ∙ first in cc in
          told_apart c.in-Some.parent c.args.id.now c.as_slice.result.now c.as_slice-in-loop.result.now c.eq.result c.as_slice.ensures
          c.as_slice-in-loop.ensures c.eq.ensures w.if-eq.false same
    ]

pub loop-preserved : goal.loop-preserved
loop-preserved c =
    let graph = graph_of c.args.commits.now in (
      back_next graph c.loop.counter c.args.head.now c.loop.at c.in-Some.parent c.loop.invariant.0 c.in-Some.ensures,
      below_more (λ k. FollowsAt graph c.args.head.now c.args.limit c.args.id.now k → ⊥) c.loop.counter c.loop.invariant.1
          (λ follows. let here = follows_here graph c.loop.counter c.args.head.now c.loop.at c.args.limit c.args.id.now c.loop.invariant.0 follows in
          not_here c here.0 here.1),
    )

pub returns : goal.returns
returns c =
    let whole = subst (λ (n : ℕ). n ≤ c.loop.counter) c.generation-end.ensures c.loop-test.false in
    refuted (no_follower_whole (graph_of c.args.commits.now) c.loop.counter c.args.head.now c.args.limit c.args.id.now c.requires whole c.loop.invariant.1)
