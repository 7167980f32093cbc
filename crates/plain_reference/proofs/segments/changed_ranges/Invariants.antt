use Rattle.std.proofs.Common.{◌≡◌, ◌+◌, ◌≤◌, length, option_copied}
use Rattle.lake_format.specs.Cutting.{changed_ranges}
use Rattle.plain_reference.proofs.SegmentRunLemmas.{passed, changed}
use Rattle.plain_reference.proofs.segments.changed_ranges.Given as goal

-- the ranges of changed segments before the rest are counted
abbrev pub invariant-loop-before : goal.invariant-loop-before
invariant-loop-before l = record {
  counted : l.count + passed (changed l.cut l.old) l.cut (option_copied l.before) l.rest ≡ changed_ranges l.cut l.old l.new;
  few : l.count + length l.rest ≤ length l.new;
}

abbrev pub decreases-loop-before : goal.decreases-loop-before
decreases-loop-before l = length l.rest
