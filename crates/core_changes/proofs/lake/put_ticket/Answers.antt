use Rattle.std.proofs.Common.{Some, ap, sym}
use Rattle.std.specs.Option.{is_some}
use Rattle.core_changes.proofs.TicketsLemmas.{tickets_put}
use Rattle.core_changes.proofs.lake.put_ticket.Goals as goal

pub returns-in-Some : goal.returns-in-Some
returns-in-Some c =
    let seat = Some c.args.seat in
    let written = c.get_mut.follows.holds seat in
    let updates = written.3 (sym (ap is_some c.in-Some.ensures.value)) in
    tickets_put c.args.tickets.now.entries (c.get_mut.follows.lender seat).entries c.args.number c.get_mut.ensures.ordered written.4 c.args.seat updates.0
