use Rattle.core_changes.proofs.TicketsLemmas.{tickets_removed}
use Rattle.core_changes.proofs.lake.remove_ticket.Goals as goal

pub returns : goal.returns
returns c =
    tickets_removed c.args.tickets.now.entries c.remove-seat.new.self.entries c.args.number c.len-count.ensures.ordered c.remove-seat.ensures.ordered
    c.remove-seat.ensures.updates.0
