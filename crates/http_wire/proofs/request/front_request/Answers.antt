use Rattle.std.proofs.Common.{arith}
use Rattle.http_wire.proofs.FoundLemmas.{front_found}
use Rattle.http_wire.proofs.request.front_request.Goals as goal

pub returns-then-found-eq0 : goal.returns-then-found-eq0
returns-then-found-eq0 c =
    front_found c.args.held.now c.parse_request.new.headers c.in-Ok-Complete.found (rw c.in-Ok-Complete.field-0-is at c.in-Ok-Complete.ensures.within)
    (rw c.in-Ok-Complete.field-0-is at c.in-Ok-Complete.ensures.complete)
    c.if-found-eq0.true (omega (arith, c.parse_request.auto.headers, c.requires))
