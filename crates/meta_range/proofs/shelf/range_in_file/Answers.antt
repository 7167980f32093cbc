use Rattle.std.proofs.Common.{ap, ◌∙◌}
use Rattle.std.proofs.lemmas.Result.{err_from_is_err_and}
use Rattle.lake_format.specs.Spelling.{file_name}
use Rattle.meta_range.proofs.ReadingLemmas.{file_read, range_fails_file, range_fails_rows}
use Rattle.meta_range.proofs.shelf.range_in_file.Goals as goal

pub returns-in_err-bytes-clause-fails : goal.returns-in_err-bytes-clause-fails
returns-in_err-bytes-clause-fails c =
    let p = err_from_is_err_and c.from_residual.result c.from_residual.ensures.1 in
    let fault = c.in_err-bytes.field-0.0 in
    rw (p.1, p.2) (range_fails_file c.args.given.now c.args.at c.args.line.now fault c.in_err-bytes.ensures)

pub returns-in-Err-clause-fails : goal.returns-in-Err-clause-fails
returns-in-Err-clause-fails c =
    rw c.of_range.ensures
    (range_fails_rows c.args.given.now c.args.at c.args.line.now c.in_ok-bytes.bytes.now c.in_ok-bytes.ensures c.in-Err.fault c.in-Err.ensures.exact)

pub named-requires-clause-named : goal.named-requires-clause-named
named-requires-clause-named c =
    (file_read c.args.line.now.name c.args.given.now c.in_ok-bytes.bytes.now c.in_ok-bytes.ensures).1 ∙ ap file_name c.in-Ok.ensures.found.1
