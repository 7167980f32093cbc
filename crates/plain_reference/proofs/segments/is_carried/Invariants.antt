use Rattle.std.proofs.Common.{◌≡◌, length, option_copied}
use Rattle.std.specs.List.{list_any}
use Rattle.lake_format.specs.Cutting.{with_paths_before, segments, placed_segments, same_segment}
use Rattle.plain_reference.proofs.segments.is_carried.Given as goal

-- the rest has such a segment just where all the old rows have one
abbrev pub invariant-loop-other_before : goal.invariant-loop-other_before
invariant-loop-other_before l =
    list_any (same_segment (option_copied l.before, l.segment)) (with_paths_before (option_copied l.other_before) (segments l.cut l.rest))
    ≡ list_any (same_segment (option_copied l.before, l.segment)) (placed_segments l.cut l.fn.old)

abbrev pub decreases-loop-other_before : goal.decreases-loop-other_before
decreases-loop-other_before l = length l.rest
