use Rattle.std.proofs.Common.{arith}
use Rattle.http_wire.proofs.ParsingLemmas.{reply_found}
use Rattle.http_wire.proofs.response.find_reply.Goals as goal

pub returns-then-found-head : goal.returns-then-found-head
returns-then-found-head c =
    reply_found c.args.head.now c.parse_response.new.headers c.in-Ok-Complete.found (rw c.in-Ok-Complete.field-0-is at c.in-Ok-Complete.ensures.within)
    (rw c.in-Ok-Complete.field-0-is at c.in-Ok-Complete.ensures.complete)
    c.if-found-head.true (omega (arith, c.parse_response.auto.headers, c.requires))
