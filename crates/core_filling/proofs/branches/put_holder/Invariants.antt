use Rattle.std.proofs.Common.{◌≡◌, ℕ, cond, drop, Some}
use Rattle.std.specs.BTreeMap.{get}
use Rattle.std.specs.Ordering.{nat_cmp}
use Rattle.branch_record.specs.Record.{is_among}
use Rattle.core_filling.proofs.branches.put_holder.Given as goal

-- of each token the place is told at last
abbrev pub invariant-loop-token : goal.invariant-loop-token
invariant-loop-token l = (t : ℕ)
    → cond (is_among (drop l.token-index l.tokens) t) (Some (l.repo, l.name)) (get nat_cmp l.holders t)
    ≡ cond (is_among l.tokens t) (Some (l.repo, l.name)) (get nat_cmp l.fn.holders t)
