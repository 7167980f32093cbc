use Rattle.write_flow.proofs.UploadBodyLemmas.{failed_put}
use Rattle.write_flow.proofs.upload.store_body.Goals as goal

pub returns-in-Err-Failed-clause-held : goal.returns-in-Err-Failed-clause-held
returns-in-Err-Failed-clause-held g c =
    let failing = c.in-Err-Failed in
    failed_put c.args.number c.args.body.now (g.B.Blocks.held c.args.blocks.now) (g.B.Blocks.held c.put.new.self)
    (failing.ensures.failed (cc (failing.field-0-is))) failing.ensures.told
