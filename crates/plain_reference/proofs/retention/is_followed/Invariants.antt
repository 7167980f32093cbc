use Rattle.std.specs.List.{AllWithin}
use Rattle.lake_values.specs.Ancestry.{graph_of}
use Rattle.lake_values.specs.Retention.{cutoff, days_of, IsFollower}
use Rattle.plain_reference.proofs.retention.is_followed.Given as goal

-- it is a follower on no walk so far
abbrev pub invariant-loop-branch : goal.invariant-loop-branch
invariant-loop-branch l = AllWithin (λ head. IsFollower (graph_of l.commits) head.1 (cutoff l.now (days_of l.rules head.0)) l.id → ⊥) l.heads 0 l.branch-index
