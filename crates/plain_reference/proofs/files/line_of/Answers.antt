use Rattle.std.proofs.Common.{◌-◌, length, refl, ◌∙◌, arith}
use Rattle.plain_reference.proofs.FilesLemmas.{path_is, line_is}
use Rattle.plain_reference.proofs.files.line_of.Goals as goal

pub returns : goal.returns
returns c =
    let rows = c.args.rows.now in
    line_is rows (record { name = c.args.name; rows = length rows; first = c.in_ok-copy.field-0; last = c.in_ok-copy-2.field-0 }) c.requires.named refl
    (c.in_ok-copy.ensures.equal ∙ path_is rows 0 c.index-rows-0.result (omega arith))
    (c.in_ok-copy-2.ensures.equal ∙ path_is rows (length rows - 1) c.index-rows-rows.result (omega arith))
