use Rattle.std.proofs.Common.{◌≡◌, take}
use Rattle.meta_range.proofs.shared_range.SharedRange.copy_of.Given as goal

-- the rows so far are copied
abbrev pub invariant-loop-path : goal.invariant-loop-path
invariant-loop-path l = l.copies.items ≡ take l.path-index l.rows
