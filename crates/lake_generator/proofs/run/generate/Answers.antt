use Rattle.std.proofs.Common.{refl, subst}
use Rattle.http_wire.specs.SinkFronts.{Wrote, WroteFront}
use Rattle.lake_generator.specs.Generated.{Cut, Told, Untold}
use Rattle.lake_generator.proofs.run.generate.Goals as goal

pub returns-in-Err-clause-generates : goal.returns-in-Err-clause-generates
returns-in-Err-clause-generates g c = Untold c.in-Err.ensures refl

pub returns-in-Ok-write_all-clause-generates : goal.returns-in-Ok-write_all-clause-generates
returns-in-Ok-write_all-clause-generates g c =
    Told c.in-Ok.text.items c.in-Ok.ensures
    (subst (λ text. Wrote (g.O.Sink.written c.args.sink.now) (g.O.Sink.written c.write_all.new.sink) text) c.as_slice.ensures.value
    c.in-Ok-write_all.ensures.all) refl

pub returns-clause-generates : goal.returns-clause-generates
returns-clause-generates g c =
    Cut c.in-Ok.text.items c.in-Ok.ensures
    (subst (λ text. WroteFront (g.O.Sink.written c.args.sink.now) (g.O.Sink.written c.write_all.new.sink) text) c.as_slice.ensures.value
    c.in-Err-write_all.ensures.front) c.in-Err-write_all.ensures.cause.failed refl
