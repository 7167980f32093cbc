use Rattle.std.proofs.Common.{take}
use Rattle.commit_graph.specs.Fronts.{PutsIn}
use Rattle.commit_graph.proofs.ancestors.put_in.Given as goal

-- the places of the commits so far are put in
abbrev pub invariant-loop-id : goal.invariant-loop-id
invariant-loop-id l = PutsIn l.graph (take l.id-index l.ids) l.initial.front.keys l.front.keys
