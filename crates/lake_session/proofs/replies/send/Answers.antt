use Rattle.lake_session.proofs.SentReplies.{sends}
use Rattle.lake_session.proofs.replies.send.Goals as goal

pub returns-in-Some-clause-sent : goal.returns-in-Some-clause-sent
returns-in-Some-clause-sent g c =
    sends _ _ c.args.close c.args.reply _ c.write_reply.result c.in-Some.is c.write_reply.ensures.all c.write_reply.ensures.front

pub returns-in-None-clause-sent : goal.returns-in-None-clause-sent
returns-in-None-clause-sent g c =
    sends _ _ c.args.close c.args.reply _ c.write_no_memory.result c.in-None.is c.write_no_memory.ensures.all c.write_no_memory.ensures.front
