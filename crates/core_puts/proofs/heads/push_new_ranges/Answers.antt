use Rattle.std.proofs.Common.{◌<◌, ◌≤◌, ◌+◌, length, arith}
use Rattle.core_puts.proofs.NewFilesLemmas.{ranges_end, ranges_next}
use Rattle.core_puts.proofs.heads.push_new_ranges.Goals as goal

pub loop-range-preserved : goal.loop-range-preserved
loop-range-preserved c =
    let files = c.args.tree.now.files in
    let within : c.loop-range.range + 1 < length files = omega arith in
    ranges_next c.args.kept.now c.loop-range.puts.items c.push_new_range.new.puts.items _ files
    (c.loop-range.range + 1) within c.in_ok-push_new_range.ensures c.loop-range.invariant

pub returns : goal.returns
returns c =
    let files = c.args.tree.now.files in
    let past : length files ≤ c.loop-range.range + 1 = omega arith in
    ranges_end c.args.kept.now c.loop-range.puts.items _ files (c.loop-range.range + 1) past c.loop-range.invariant
