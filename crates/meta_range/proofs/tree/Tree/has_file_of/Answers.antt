use Rattle.std.proofs.Common.{◌∙◌}
use Rattle.meta_range.proofs.FileLemmas.{same_files_at}
use Rattle.meta_range.proofs.tree.Tree.has_file_of.Goals as goal

pub returns-then-at-gt0 : goal.returns-then-at-gt0
returns-then-at-gt0 c =
    let one = c.ranges-then-at-gt0 in
    let two = c.ranges-then-at-gt0-2 in
    c.has_rows_of.ensures
    ∙ same_files_at c.args.self.now c.args.other.now one.result.now two.result.now one.ensures.ranges two.ensures.ranges one.ensures.valid two.ensures.valid
    c.args.place c.args.at c.index-ranges-place.result c.index-ranges-at.result c.if-place-gt0.true c.if-at-gt0.true
    c.requires.here c.requires.there c.index-ranges-place.is c.index-ranges-at.is
