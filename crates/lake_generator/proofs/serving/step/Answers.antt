use Rattle.std.proofs.Common.{◌++◌, ◌∷◌, [], append_assoc, subst}
use Rattle.lake_generator.specs.GeneratedLines.{commit_lines, upload_line}
use Rattle.lake_generator.specs.Serving.{Goes, HasStopped}
use Rattle.lake_generator.proofs.ServingLemmas.{stopped_further}
use Rattle.lake_generator.proofs.serving.step.Goals as goal

pub returns-in-Ok-clause-goes : goal.returns-in-Ok-clause-goes
returns-in-Ok-clause-goes g c =
    λ first before s.
    let line = upload_line c.args.number in
    subst (λ lines. Goes g.L.LineServer.serves first lines c.commit_due.result c.commit_due.new.lines)
    (append_assoc before (line ∷ []) (commit_lines c.args.objects c.args.at))
    (c.commit_due.ensures.goes first (before ++ line ∷ []) (c.in-Ok.ensures.goes first before s))

pub returns-in-Err-clause-goes : goal.returns-in-Err-clause-goes
returns-in-Err-clause-goes g c =
    λ first before s.
    let line = upload_line c.args.number in
    let more = commit_lines c.args.objects c.args.at in
    subst (λ lines. HasStopped g.L.LineServer.serves first lines c.in-Err.status c.upload.new.lines) (append_assoc before (line ∷ []) more)
    (stopped_further g.L.LineServer.serves first (before ++ line ∷ []) more c.in-Err.status c.upload.new.lines (c.in-Err.ensures.goes first before s))
