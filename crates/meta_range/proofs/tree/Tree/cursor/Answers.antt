use Rattle.std.proofs.Common.{ap, sym, ◌∙◌}
use Rattle.std.specs.FinMap.{entries, entries-from_sorted}
use Rattle.lake_base.specs.Maps.{byte_order}
use Rattle.meta_range.specs.Ranges.{TreeValue, rows_of}
use Rattle.meta_range.proofs.tree.Tree.cursor.Goals as goal

pub returns : goal.returns
returns c = sym (ap (λ (tree : TreeValue). entries tree.map) c.ranges-2.ensures.ranges
    ∙ entries-from_sorted byte_order (rows_of c.ranges-2.result.now) c.ranges-2.ensures.valid.ascend)
