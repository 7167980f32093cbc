use Rattle.std.proofs.Common.{◌≡◌, length, ap, sym, subst, ◌∙◌, arith}
use Rattle.std.specs.List.{AllByRecursion}
use Rattle.std.specs.FinMap.{entries, entries-from_sorted, len-entries}
use Rattle.lake_base.specs.Maps.{byte_order}
use Rattle.lake_format.specs.Spelling.{IsRow}
use Rattle.meta_range.specs.Ranges.{TreeValue, rows_of}
use Rattle.meta_range.proofs.RangesLemmas.{rows_within}
use Rattle.meta_range.proofs.limits.law_of_limits.Goals as goal

pub returns : goal.returns
returns c =
    let ranges = c.ranges-ranges.result.now in
    let are = c.ranges-ranges.ensures.valid in
    let rows : rows_of ranges ≡ entries c.args.tree.now.map =
    sym (ap (λ (tree : TreeValue). entries tree.map) c.ranges-ranges.ensures.ranges ∙ entries-from_sorted byte_order (rows_of ranges) are.ascend) in
    record {
      each = subst (AllByRecursion IsRow) rows (rows_within ranges are.each);
      few = omega (arith, len-entries c.args.tree.now.map, ap length rows, are.few);
    }
