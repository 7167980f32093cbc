use Rattle.std.proofs.Common.{length, ap, arith}
use Rattle.http_wire.proofs.BodyLemmas.{held_no_memory, held_body}
use Rattle.http_wire.proofs.body.read_body.Goals as goal

pub returns-in-Ok-clause-read : goal.returns-in-Ok-clause-read
returns-in-Ok-clause-read g c =
    held_body c.args.buffer.now c.take_held.new.buffer c.in-Ok.body c.args.head c.args.size _
    (omega (arith, c.if-size-held.true, ap length c.held.ensures.same)) c.in-Ok.ensures.taken c.in-Ok.ensures.left

pub returns-in-Err-clause-read : goal.returns-in-Err-clause-read
returns-in-Err-clause-read g c = held_no_memory c.args.buffer.now c.take_held.new.buffer c.args.head c.args.size _

pub returns-in-Err-take_held-clause-read : goal.returns-in-Err-take_held-clause-read
returns-in-Err-take_held-clause-read g c = held_no_memory c.args.buffer.now c.take_held-2.new.buffer c.args.head c.args.size _
