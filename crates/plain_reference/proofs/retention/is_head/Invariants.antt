use Rattle.std.proofs.Common.{◌≡◌}
use Rattle.std.specs.List.{AllWithin}
use Rattle.plain_reference.proofs.retention.is_head.Given as goal

-- no branch so far stands at the commit
abbrev pub invariant-loop-head : goal.invariant-loop-head
invariant-loop-head l = AllWithin (λ branch. branch.1 ≡ l.id → ⊥) l.heads 0 l.head-index
