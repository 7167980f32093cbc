use Rattle.lake_laws.proofs.TicketLemmas.{ticket_kept, ticket_left}
use Rattle.lake_laws.proofs.kept.law_of_kept_tickets.Goals as goal

pub returns-clause-kept : goal.returns-clause-kept
returns-clause-kept c state seen history more seat number = ticket_kept seat number state seen history more

pub returns-clause-others : goal.returns-clause-others
returns-clause-others c state seen history more seat number = ticket_left seat number state seen history more
