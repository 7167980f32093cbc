use Rattle.lake_values.specs.Ancestry.{graph_of}
use Rattle.plain_reference.proofs.AncestryBaseLemmas.{BestOf}
use Rattle.plain_reference.proofs.ancestry.base.Given as goal

-- the best so far
abbrev pub invariant-loop-id : goal.invariant-loop-id
invariant-loop-id l = BestOf (graph_of l.commits) l.a l.b l.commits l.id-index l.best
