use Rattle.std.proofs.lemmas.Result.{on_ok_weaker, on_err_weaker}
use Rattle.http_wire.proofs.FrontLemmas.{wrote_as, front_as}
use Rattle.http_wire.proofs.ReplyLemmas.{whole_joined}
use Rattle.http_wire.proofs.reply.write_whole.Goals as goal

pub returns-clause-all : goal.returns-clause-all
returns-clause-all g c =
    on_ok_weaker c.write_parts.result (wrote_as _ _ _ _ (whole_joined c.args.status.now c.args.phrase.now c.args.content_type.now c.args.size.now
    c.args.closing.now c.args.body.now)) c.write_parts.ensures.all

pub returns-clause-front : goal.returns-clause-front
returns-clause-front g c =
    on_err_weaker c.write_parts.result (front_as _ _ _ _ (whole_joined c.args.status.now c.args.phrase.now c.args.content_type.now c.args.size.now
    c.args.closing.now c.args.body.now)) c.write_parts.ensures.front
