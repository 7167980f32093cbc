use Rattle.std.proofs.Common.{◌≡◌, ◌+◌, ◌++◌, drop}
use Rattle.core_puts.specs.NewFiles.{new_range_puts}
use Rattle.core_puts.proofs.heads.push_new_ranges.Given as goal

-- the puts so far, and those of the ranges to come, are all
abbrev pub invariant-loop-range : goal.invariant-loop-range
invariant-loop-range l =
    l.puts.items ++ new_range_puts l.kept (drop (l.range + 1) l.tree.files)
    ≡ l.initial.puts.items ++ new_range_puts l.kept (drop 1 l.tree.files)
