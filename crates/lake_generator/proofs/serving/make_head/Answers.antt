use Rattle.std.proofs.Common.{◌∙◌}
use Rattle.lake_generator.specs.Counting.{is_head, is_upload}
use Rattle.lake_generator.proofs.ServingLemmas.{none_more, served_then, some_more, stopped_then}
use Rattle.lake_generator.proofs.serving.make_head.Goals as goal

pub returns-in-Ok-clause-goes : goal.returns-in-Ok-clause-goes
returns-in-Ok-clause-goes g c =
    λ first before line head made s.
    let done = c.in-Ok.done in
    served_then g.L.LineServer.serves first before c.args.counts c.args.lines.now line c.serve.new.lines done _ s
    (c.in-Ok.ensures.serves line made)
    (none_more c.args.counts.uploads (is_upload line) done head.0)
    (c.count_with.ensures ∙ some_more c.args.counts.heads (is_head line) done head.1)

pub returns-in-Err-clause-goes : goal.returns-in-Err-clause-goes
returns-in-Err-clause-goes g c =
    λ first before line head made s.
    stopped_then g.L.LineServer.serves first before c.args.counts c.args.lines.now line c.serve.new.lines c.in-Err.status s
    (c.in-Err.ensures.serves line made)
