use Rattle.std.proofs.Common.{drop, ap, sym, ◌∙◌}
use Rattle.lake_format.specs.Cutting.{files}
use Rattle.meta_range.specs.Ranges.{TreeValue}
use Rattle.core_readings.proofs.TreesLemmas.{no_ranges, same_files}
use Rattle.core_readings.proofs.sides.empty_tree.Goals as goal

pub returns-clause-ranges : goal.returns-clause-ranges
returns-clause-ranges c =
    ap (λ (tree : TreeValue). drop 1 tree.files) c.in_ok-new.ensures.ok ∙ ap (drop 1) c.in_ok-tree.ensures.files ∙ no_ranges _ _ c.new.ensures

pub returns-clause-cut : goal.returns-clause-cut
returns-clause-cut c cut =
    let map = ap (λ (tree : TreeValue). tree.map) c.in_ok-new.ensures.ok ∙ c.in_ok-tree.ensures.map in
    ap (λ (tree : TreeValue). tree.files) c.in_ok-new.ensures.ok
    ∙ c.in_ok-tree.ensures.files ∙ same_files _ cut _ c.new.ensures ∙ ap (files cut) (sym map)
