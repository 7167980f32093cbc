use Rattle.std.proofs.Common.{arith}
use Rattle.http_wire.proofs.ParsingLemmas.{request_found}
use Rattle.http_wire.proofs.request.find_request.Goals as goal

pub returns-then-found-head : goal.returns-then-found-head
returns-then-found-head c =
    request_found c.args.head.now c.parse_request.new.headers c.in-Ok-Complete.found (rw c.in-Ok-Complete.field-0-is at c.in-Ok-Complete.ensures.within)
    (rw c.in-Ok-Complete.field-0-is at c.in-Ok-Complete.ensures.complete)
    c.if-found-head.true (omega (arith, c.parse_request.auto.headers, c.requires))
