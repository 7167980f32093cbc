use Rattle.fresh_lakes.specs.FreshLakes.{sure_view}
use Rattle.fresh_lakes.proofs.FreshLemmas.{fresh_seats, lone_seats}
use Rattle.fresh_lakes.proofs.fresh.fresh_lake.Goals as goal

pub returns-in-Ok-new-clause-fresh : goal.returns-in-Ok-new-clause-fresh
returns-in-Ok-new-clause-fresh c =
    fresh_seats sure_view _ c.in-Ok.lake _ c.in-Ok-new.shared.1.items c.laws_of_founding.ensures.state c.in-Ok.ensures
    c.in-Ok-new.ensures.count c.in-Ok-new.ensures.each

pub returns-in-Ok-new-clause-alone : goal.returns-in-Ok-new-clause-alone
returns-in-Ok-new-clause-alone c =
    lone_seats sure_view _ c.in-Ok.lake _ c.in-Ok-new.shared.1.items c.in-Ok-new.ensures.count c.in-Ok-new.ensures.each
