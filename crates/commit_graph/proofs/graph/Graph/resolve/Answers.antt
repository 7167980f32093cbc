use Rattle.std.proofs.Common.{sym, subst, ◌∙◌}
use Rattle.commit_graph.specs.Graphs.{IsSound}
use Rattle.commit_graph.proofs.WalkLemmas.{resolved_there, resolved_end}
use Rattle.commit_graph.proofs.graph.Graph.resolve.Goals as goal

pub returns-clause-there : goal.returns-clause-there
returns-clause-there c =
    let g = c.args.self.now in
    let at = c.loop-number.at in
    let end = resolved_end g c.args.moves.now c.loop-number.number at c.loop-number-test.false in
    resolved_there g (subst IsSound c.self.view_is c.self.invariant).due c.args.moves.now 0 c.args.from.now at c.requires.there
    (sym c.loop-number.invariant ∙ end)
