use Rattle.lake_values.specs.Ancestry.{graph_of, IsAncestor, log_order}
use Rattle.plain_reference.proofs.OrderPlaceLemmas.{HasThose}
use Rattle.plain_reference.proofs.ancestry.ancestors.Given as goal

-- of the commits so far, the ancestors in the order of the log
abbrev pub invariant-loop-old : goal.invariant-loop-old
invariant-loop-old l = HasThose (log_order (graph_of l.commits)) (λ old. IsAncestor (graph_of l.commits) old l.id) l.commits l.old-index l.ancestors.items
