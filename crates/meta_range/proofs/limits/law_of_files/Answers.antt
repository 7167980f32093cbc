use Rattle.std.proofs.Common.{sym, ap, ◌∙◌}
use Rattle.meta_range.specs.Ranges.{TreeValue}
use Rattle.meta_range.proofs.FileLemmas.{same_tree}
use Rattle.meta_range.proofs.limits.law_of_files.Goals as goal

pub returns : goal.returns
returns c same =
    let ranges = c.ranges-ranges.result.now in
    let others = c.ranges-other_ranges.result.now in
    let files =
    ap (λ (t : TreeValue). t.files) (sym c.ranges-ranges.ensures.ranges) ∙ same ∙ ap (λ (t : TreeValue). t.files) c.ranges-other_ranges.ensures.ranges in
    c.ranges-ranges.ensures.ranges ∙ same_tree ranges others c.ranges-ranges.ensures.valid c.ranges-other_ranges.ensures.valid files
    ∙ sym c.ranges-other_ranges.ensures.ranges
