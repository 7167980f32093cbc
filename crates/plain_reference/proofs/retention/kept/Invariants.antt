use Rattle.std.specs.Option.{option_copied}
use Rattle.lake_values.specs.Ancestry.{graph_of, id_order}
use Rattle.lake_values.specs.Retention.{IsKept}
use Rattle.plain_reference.proofs.OrderPlaceLemmas.{HasThose}
use Rattle.plain_reference.proofs.retention.kept.Given as goal

-- of the commits so far, the kept ones in order
abbrev pub invariant-loop-id : goal.invariant-loop-id
invariant-loop-id l = HasThose id_order (IsKept (graph_of l.commits) l.heads l.tags (option_copied l.rules) l.now) l.commits l.id-index l.kept.items
