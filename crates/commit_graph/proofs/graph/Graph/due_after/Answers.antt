use Rattle.std.proofs.Common.{arith}
use Rattle.lake_values.proofs.AncestryLemmas.{due_some}
use Rattle.commit_graph.proofs.graph.Graph.due_after.Goals as goal

pub loop-parent-init : goal.loop-parent-init
loop-parent-init c =
    let some = due_some c.args.self.now c.args.parents.now in
    record { some = omega arith; left = omega (arith, some) }
