use Rattle.std.specs.List.{AllWithin}
use Rattle.lake_values.specs.Ancestry.{graph_of, IsOnWalk}
use Rattle.plain_reference.proofs.retention.is_young.Given as goal

-- it lies on no walk so far
abbrev pub invariant-loop-head : goal.invariant-loop-head
invariant-loop-head l = AllWithin (λ head. IsOnWalk (graph_of l.commits) head.1 l.id → ⊥) l.heads 0 l.head-index
