use Rattle.std.proofs.Common.{sym}
use Rattle.lake_values.proofs.AncestryOrderLemmas.{base_some, no_base}
use Rattle.commit_graph.proofs.LogLemmas.{both_start, left_passed, right_passed, both_found, left_ended, right_ended}
use Rattle.commit_graph.proofs.graph.Graph.base.Goals as goal

pub loop-x-init : goal.loop-x-init
loop-x-init c =
    both_start c.args.self.now c.in_ok-left.ensures.due c.args.a.now c.args.b.now c.in_ok-left.left c.in_ok-right.right c.in_ok-left.ensures.left
    c.in_ok-right.ensures.left

pub returns-in_default-first-clause-found : goal.returns-in_default-first-clause-found
returns-in_default-first-clause-found c =
    let g = c.args.self.now in
    sym (no_base g c.in_ok-left.ensures.due c.args.a.now c.args.b.now
    (right_ended g c.args.a.now c.args.b.now c.loop-x.left c.loop-x.right c.loop-x.invariant c.in_default-first.ensures))

pub returns-in_default-first-clause-meant : goal.returns-in_default-first-clause-meant
returns-in_default-first-clause-meant c =
    right_ended c.args.self.now c.args.a.now c.args.b.now c.loop-x.left c.loop-x.right c.loop-x.invariant c.in_default-first.ensures

pub returns-in-Equal-clause-found : goal.returns-in-Equal-clause-found
returns-in-Equal-clause-found c =
    let g = c.args.self.now in
    sym (base_some g c.in_ok-left.ensures.due c.args.a.now c.args.b.now c.in-Some.x (both_found g c.args.a.now c.args.b.now c.loop-x.left c.loop-x.right
    c.in-Some.x c.in-Some-first.y c.loop-x.invariant c.in-Some.ensures c.in-Some-first.ensures (sym c.in-Equal.ensures)))

pub returns-in-Equal-clause-meant : goal.returns-in-Equal-clause-meant
returns-in-Equal-clause-meant c =
    both_found c.args.self.now c.args.a.now c.args.b.now c.loop-x.left c.loop-x.right c.in-Some.x c.in-Some-first.y c.loop-x.invariant c.in-Some.ensures
    c.in-Some-first.ensures (sym c.in-Equal.ensures)

pub loop-x-preserved-in-Continue-branch-3 : goal.loop-x-preserved-in-Continue-branch-3
loop-x-preserved-in-Continue-branch-3 c =
    left_passed c.args.self.now c.args.a.now c.args.b.now c.loop-x.left c.loop-x.right c.in-Some.x c.in-Some-first.y c.pass.new.self c.loop-x.invariant
    c.in-Some.ensures c.in-Some-first.ensures (sym c.in-Less.ensures) c.in_ok-pass-in-Less.ensures

pub loop-x-preserved : goal.loop-x-preserved
loop-x-preserved c =
    right_passed c.args.self.now c.args.a.now c.args.b.now c.loop-x.left c.loop-x.right c.in-Some.x c.in-Some-first.y c.pass-in-Greater.new.self
    c.loop-x.invariant c.in-Some.ensures c.in-Some-first.ensures (sym c.in-Greater.ensures) c.in_ok-pass-in-Greater.ensures

pub returns-clause-found : goal.returns-clause-found
returns-clause-found c =
    let g = c.args.self.now in
    sym (no_base g c.in_ok-left.ensures.due c.args.a.now c.args.b.now
    (left_ended g c.args.a.now c.args.b.now c.loop-x.left c.loop-x.right c.loop-x.invariant c.in_default.ensures))

pub returns-clause-meant : goal.returns-clause-meant
returns-clause-meant c = left_ended c.args.self.now c.args.a.now c.args.b.now c.loop-x.left c.loop-x.right c.loop-x.invariant c.in_default.ensures
