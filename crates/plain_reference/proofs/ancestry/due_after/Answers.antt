use Rattle.std.proofs.Common.{arith}
use Rattle.lake_values.specs.Ancestry.{graph_of}
use Rattle.lake_values.proofs.AncestryLemmas.{due_some}
use Rattle.plain_reference.proofs.ancestry.due_after.Goals as goal

pub loop-parent-init : goal.loop-parent-init
loop-parent-init c =
    let some = due_some (graph_of c.args.commits.now) c.args.parents.now in
    record { some = omega arith; left = omega (arith, some) }
