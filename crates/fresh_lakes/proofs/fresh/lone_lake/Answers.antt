use Rattle.std.proofs.Common.{refl}
use Rattle.fresh_lakes.proofs.FreshLemmas.{lone_seat, popped_only}
use Rattle.fresh_lakes.proofs.fresh.lone_lake.Goals as goal

pub returns-clause-fresh : goal.returns-clause-fresh
returns-clause-fresh c =
    lone_seat c.in-Ok.fresh.1.items c.in-Some.seat
    (popped_only c.in-Ok.fresh.1.items c.pop.new.self.items c.in-Some.seat c.pop.result c.in-Ok.ensures.count c.pop.ensures.items c.in-Some.is)
    c.in-Ok.ensures.fresh (c.in-Ok.ensures.alone refl)
