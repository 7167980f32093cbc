use Rattle.std.proofs.Common.{◌≡◌, ◌++◌, false, length, map}
use Rattle.std.specs.List.{AllByRecursion}
use Rattle.std.specs.Ordering.{is_lt}
use Rattle.lake_base.specs.Maps.{HasAscendingKeys, byte_order}
use Rattle.core_puts.specs.Puts.{removals_at, removals_under}
use Rattle.core_puts.specs.Removing.{reset_start}
use Rattle.core_puts.proofs.removing.push_removals_under.Given as goal

-- the removals so far, and those of the rows to come, are all; these are rows from the start on, in order
abbrev pub invariant-loop-path : goal.invariant-loop-path
invariant-loop-path l = record {
  removals : l.puts.items ++ removals_at l.what l.token (map (λ row. row.0) l.changes)
      ≡ l.initial.puts.items ++ removals_under l.what l.tokens.changes l.token;
  ascend : HasAscendingKeys l.changes;
  from : AllByRecursion (λ row. is_lt (byte_order row.0 (reset_start l.what)) ≡ false) l.changes;
}

abbrev pub decreases-loop-path : goal.decreases-loop-path
decreases-loop-path l = length l.changes
