use Rattle.std.proofs.Common.{◌≡◌, length}
use Rattle.std.specs.FinMap.{from_entries}
use Rattle.lake_base.specs.Maps.{byte_order}
use Rattle.lake_values.specs.Reset.{changes_after_reset}
use Rattle.lake_values.specs.declared.commit.ResetWhat.TheVariants.{Prefix}
use Rattle.branch_record.proofs.ordered.drop_each.Given as goal

-- what the reset leaves is what it leaves of all
abbrev pub invariant-loop-first : goal.invariant-loop-first
invariant-loop-first l =
    changes_after_reset (Prefix l.prefix) (from_entries {R = byte_order} l.rows.entries)
    ≡ changes_after_reset (Prefix l.prefix) (from_entries l.initial.rows.entries)

abbrev pub decreases-loop-first : goal.decreases-loop-first
decreases-loop-first l = length l.rows.entries
