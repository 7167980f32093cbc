use Rattle.std.proofs.Common.{◌++◌, ◌∷◌, [], append_assoc, subst}
use Rattle.std.specs.Prelude.{codes}
use Rattle.lake_generator.specs.GeneratedLines.{commit_line}
use Rattle.lake_generator.specs.Serving.{Goes, HasStopped}
use Rattle.lake_generator.proofs.LineLemmas.{commit_is}
use Rattle.lake_generator.proofs.ServingLemmas.{stopped_further}
use Rattle.lake_generator.proofs.serving.commit_both.Goals as goal

pub returns-in-Ok-clause-goes : goal.returns-in-Ok-clause-goes
returns-in-Ok-clause-goes g c =
    λ first before s.
    let main = commit_line (codes "main") c.args.at in
    let dev = commit_line (codes "dev") c.args.at in
    subst (λ lines. Goes g.L.LineServer.serves first lines c.make_head-in-Ok.result c.make_head-in-Ok.new.lines) (append_assoc before (main ∷ []) (dev ∷ []))
    (c.make_head-in-Ok.ensures.goes first (before ++ main ∷ []) dev (commit_is (codes "dev") c.args.at) c.commit_line-in-Ok.ensures
    (c.in-Ok.ensures.goes first before main (commit_is (codes "main") c.args.at) c.commit_line.ensures s))

pub returns-in-Err-clause-goes : goal.returns-in-Err-clause-goes
returns-in-Err-clause-goes g c =
    λ first before s.
    let main = commit_line (codes "main") c.args.at in
    let dev = commit_line (codes "dev") c.args.at in
    subst (λ lines. HasStopped g.L.LineServer.serves first lines c.in-Err.status c.make_head.new.lines) (append_assoc before (main ∷ []) (dev ∷ []))
    (stopped_further g.L.LineServer.serves first (before ++ main ∷ []) (dev ∷ []) c.in-Err.status c.make_head.new.lines
    (c.in-Err.ensures.goes first before main (commit_is (codes "main") c.args.at) c.commit_line.ensures s))
