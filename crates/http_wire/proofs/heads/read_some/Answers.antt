use Rattle.http_wire.proofs.ReadingLemmas.{told, some_ended, some_fault, none_held}
use Rattle.http_wire.proofs.heads.read_some.Goals as goal

pub returns-in-Ok-eq0-clause-read : goal.returns-in-Ok-eq0-clause-read
returns-in-Ok-eq0-clause-read g c =
    told _ _ _ (λ left fills. some_ended c.args.buffer.now c.fill.new.self left _ c.in-Ok-eq0.field-0
    (none_held c.args.buffer.now c.held.result.now _ c.held.ensures.same c.is_empty.ensures c.if-not-is_empty.false) c.in-Ok-eq0.field-0-test fills)
    c.in-Ok-eq0.ensures.reads

pub returns-in-Err-clause-read : goal.returns-in-Err-clause-read
returns-in-Err-clause-read g c =
    some_fault c.args.buffer.now c.fill.new.self _ _ c.in-Err.fault
    (none_held c.args.buffer.now c.held.result.now _ c.held.ensures.same c.is_empty.ensures c.if-not-is_empty.false) c.in-Err.ensures.fault
