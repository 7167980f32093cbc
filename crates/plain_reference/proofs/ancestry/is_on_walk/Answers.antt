use Rattle.std.proofs.Common.{◌≤◌, ℕ, Some, subst, ap, ◌∙◌, arith}
use Rattle.std.specs.Option.{IsSome}
use Rattle.lake_values.specs.Ancestry.{graph_of, commit_of}
use Rattle.plain_reference.proofs.RetentionLemmas.{told_ids, told_apart, holds_else, refuted}
use Rattle.lake_values.proofs.AncestryWalkLemmas.{there_where_found, none_where_none, starts, off_no_walk, back_next, stands_more, off_ended_walk}
use Rattle.lake_values.proofs.AncestryWalkLemmas.{off_whole_walk}
use Rattle.lake_base.specs.declared.digest.Digest.{Digest}
use Rattle.plain_reference.proofs.ancestry.is_on_walk.Goals as goal

pub returns-then-is_none : goal.returns-then-is_none
returns-then-is_none c =
    let none = none_where_none c.commit_of.result (commit_of (graph_of c.args.commits.now) c.args.head.now) c.commit_of.ensures c.if-is_none.ensures in
    refuted (off_no_walk (graph_of c.args.commits.now) c.args.head.now c.args.id.now none)

pub loop-init : goal.loop-init
loop-init c =
    let there : IsSome (commit_of (graph_of c.args.commits.now) c.args.head.now) =
    there_where_found c.commit_of.result (commit_of (graph_of c.args.commits.now) c.args.head.now) c.commit_of.ensures c.if-is_none.ensures in
    (starts (graph_of c.args.commits.now) c.args.head.now there, λ steps below. absurd (omega arith))

pub returns-in-None : goal.returns-in-None
returns-in-None c =
    let apart = told_apart c.loop.at c.args.id.now c.as_slice.result.now c.as_slice-in-loop.result.now c.eq.result c.as_slice.ensures c.as_slice-in-loop.ensures
    c.eq.ensures c.if-eq.false in
    refuted (off_ended_walk (graph_of c.args.commits.now) c.loop.counter c.args.head.now c.loop.at c.args.id.now c.loop.invariant.0 c.loop.invariant.1 apart
    c.in-None.ensures)

pub loop-preserved : goal.loop-preserved
loop-preserved c =
    let apart = told_apart c.loop.at c.args.id.now c.as_slice.result.now c.as_slice-in-loop.result.now c.eq.result c.as_slice.ensures c.as_slice-in-loop.ensures
    c.eq.ensures c.if-eq.false in (
      back_next (graph_of c.args.commits.now) c.loop.counter c.args.head.now c.loop.at c.in-Some.parent c.loop.invariant.0 c.in-Some.ensures,
      stands_more (graph_of c.args.commits.now) c.loop.counter c.args.head.now c.loop.at c.args.id.now c.loop.invariant.0 c.loop.invariant.1 apart,
    )

pub returns : goal.returns
returns c =
    let told =
    told_ids c.loop.at c.args.id.now c.as_slice-2.result.now c.as_slice-3.result.now c.eq-2.result c.as_slice-2.ensures c.as_slice-3.ensures c.eq-2.ensures in
    let whole = subst (λ (n : ℕ). n ≤ c.loop.counter) c.generation-end.ensures c.loop-test.false in (
      λ holds. (c.loop.counter, c.loop.invariant.0 ∙ ap (λ (d : Digest). Some d) (told.0 holds)),
      λ on. holds_else c.eq-2.result (λ fails. off_whole_walk (graph_of c.args.commits.now) c.loop.counter c.args.head.now c.loop.at c.args.id.now c.requires
          whole c.loop.invariant.0 c.loop.invariant.1
          (told_apart c.loop.at c.args.id.now c.as_slice-2.result.now c.as_slice-3.result.now c.eq-2.result c.as_slice-2.ensures c.as_slice-3.ensures
          c.eq-2.ensures fails) on),
    )
