use Rattle.std.proofs.Common.{rules}
use Rattle.lake_session.proofs.AnsweredRequests.{call_answered, no_call}
use Rattle.lake_session.proofs.requests.answer_request.Goals as goal

pub returns-in-Ok : goal.returns-in-Ok
returns-in-Ok g c =
    call_answered g.B.Blocks.held g.B.Blocks.faults g.B.Blocks.misses g.B.Blocks.missed _ _ _ _ _ _ _ _ _ _ _ (search rules) c.in-Ok.ensures.asked c.answer.ensures.served

pub returns-in-Err : goal.returns-in-Err
returns-in-Err g c =
    no_call _ _ _ _ _ _ _ _ c.in-Err.ensures.asked c.unread.ensures.refused c.unread.ensures.starved c.unread.ensures.edge
