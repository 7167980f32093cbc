use Rattle.std.proofs.Common.{ap, sym, ◌∙◌}
use Rattle.core_changes.proofs.TicketsLemmas.{get_tickets, seat_of}
use Rattle.lake_core.proofs.tickets.seat_of.Goals as goal

pub returns-in-Some : goal.returns-in-Some
returns-in-Some c =
    sym (get_tickets c.args.tickets.now.entries c.len-count.ensures.ordered c.args.number ∙ ap seat_of (sym c.in-Some.ensures.value))

pub returns-in-None : goal.returns-in-None
returns-in-None c =
    sym (get_tickets c.args.tickets.now.entries c.len-count.ensures.ordered c.args.number ∙ ap seat_of (sym c.in-None.ensures.value))
