use Rattle.std.proofs.Common.{◌∙◌}
use Rattle.lake_generator.specs.Counting.{is_head, is_upload}
use Rattle.lake_generator.specs.GeneratedLines.{upload_line}
use Rattle.lake_generator.proofs.LineLemmas.{upload_is}
use Rattle.lake_generator.proofs.ServingLemmas.{none_more, served_then, some_more, stopped_then}
use Rattle.lake_generator.proofs.serving.upload.Goals as goal

pub returns-in-Ok-clause-goes : goal.returns-in-Ok-clause-goes
returns-in-Ok-clause-goes g c =
    λ first before s.
    let line = upload_line c.args.number in
    let is = upload_is c.args.number in
    let done = c.in-Ok.done in
    served_then g.L.LineServer.serves first before c.args.counts c.args.lines.now line c.serve.new.lines done _ s
    (c.in-Ok.ensures.serves line c.upload_line.ensures)
    (c.count_with.ensures ∙ some_more c.args.counts.uploads (is_upload line) done is.0)
    (none_more c.args.counts.heads (is_head line) done is.1)

pub returns-in-Err-clause-goes : goal.returns-in-Err-clause-goes
returns-in-Err-clause-goes g c =
    λ first before s.
    let line = upload_line c.args.number in
    stopped_then g.L.LineServer.serves first before c.args.counts c.args.lines.now line c.serve.new.lines c.in-Err.status s
    (c.in-Err.ensures.serves line c.upload_line.ensures)
