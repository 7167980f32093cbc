use Rattle.std.proofs.Common.{sym, ap, ◌∙◌, arith}
use Rattle.std.specs.Option.{IsSome, is_some}
use Rattle.lake_values.specs.Ancestry.{graph_of, commit_of}
use Rattle.lake_values.proofs.AncestryWalkLemmas.{there_where_found, none_where_none, starts, no_walk, back_past, back_next, back_ends}
use Rattle.plain_reference.proofs.ancestry.back.Goals as goal

pub returns-in_err-commit_of : goal.returns-in_err-commit_of
returns-in_err-commit_of c =
    let none =
    none_where_none c.commit_of.result (commit_of (graph_of c.args.commits.now) c.args.id.now) c.commit_of.ensures (ap is_some c.in_err-commit_of.was) in
    c.from_residual.ensures
    ∙ sym (back_past (graph_of c.args.commits.now) 0 c.args.steps c.args.id.now (no_walk (graph_of c.args.commits.now) c.args.id.now none) (omega arith))

pub loop-init : goal.loop-init
loop-init c =
    let there : IsSome (commit_of (graph_of c.args.commits.now) c.args.id.now) =
    there_where_found c.commit_of.result (commit_of (graph_of c.args.commits.now) c.args.id.now) c.commit_of.ensures (ap is_some c.in_ok-commit_of.was) in
    starts (graph_of c.args.commits.now) c.args.id.now there

pub returns-in_err-at : goal.returns-in_err-at
returns-in_err-at c =
    c.from_residual-in_err-at.ensures
    ∙ sym (back_ends (graph_of c.args.commits.now) c.loop.counter c.args.id.now c.loop.at c.loop.invariant c.in_err-at.ensures c.args.steps c.loop-test.true)

pub loop-preserved : goal.loop-preserved
loop-preserved c = back_next (graph_of c.args.commits.now) c.loop.counter c.args.id.now c.loop.at c.in_ok-at.at c.loop.invariant c.in_ok-at.ensures
