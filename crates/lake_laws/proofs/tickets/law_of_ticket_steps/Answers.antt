use Rattle.lake_laws.proofs.AllowanceLemmas.{ticket_drop_allowed, ticket_take_allowed}
use Rattle.lake_laws.proofs.tickets.law_of_ticket_steps.Goals as goal

pub returns : goal.returns
returns c = record { take = ticket_take_allowed; drop = ticket_drop_allowed }
