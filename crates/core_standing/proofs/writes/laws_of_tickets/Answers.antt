use Rattle.lake_model.specs.declared.history.Operation.TheVariants.{TicketDrop, TicketTake}
use Rattle.core_state.specs.LakeStates.{state_of}
use Rattle.core_changes.specs.LakeChanges.{after_ticket_drop, after_ticket_take}
use Rattle.core_standing.specs.Standing.{versions_since}
use Rattle.core_standing.proofs.MakingLemmas.{may_make}
use Rattle.core_standing.proofs.writes.laws_of_tickets.Goals as goal

pub returns-clause-take : goal.returns-clause-take
returns-clause-take c opened history l by repo branch stands none =
    may_make opened history l by (TicketTake repo branch l.next_number) stands
    (c.law_of_ticket_steps.ensures.take (state_of l) by repo branch none) (after_ticket_take by.seat)
    (c.laws_of_states.ensures.ticket_take l by repo branch)
    (c.laws_of_counts.ensures.ticket_take (versions_since opened history) l by repo branch l.next_number)
    (c.laws_of_tokens.ensures.ticket_take l by.seat)
    (c.laws_of_few.ensures.ticket_take l by.seat) (c.laws_of_few.ensures.fault l)
    (c.laws_of_indexes.ensures.ticket_take l by.seat) (c.laws_of_indexes.ensures.fault l)

pub returns-clause-drop : goal.returns-clause-drop
returns-clause-drop c opened history l by number stands none ticket =
    may_make opened history l by (TicketDrop number) stands
    (c.law_of_ticket_steps.ensures.drop (state_of l) by number none ticket) (after_ticket_drop number)
    (c.laws_of_states.ensures.ticket_drop l by number)
    (c.laws_of_counts.ensures.ticket_drop (versions_since opened history) l by number)
    (c.laws_of_tokens.ensures.ticket_drop l number)
    (c.laws_of_few.ensures.ticket_drop l number) (c.laws_of_few.ensures.fault l)
    (c.laws_of_indexes.ensures.ticket_drop l number) (c.laws_of_indexes.ensures.fault l)
