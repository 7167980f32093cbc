use Rattle.std.proofs.Common.{◌↔◌, IsTrue}
use Rattle.lake_model.specs.Uncommitted.{HasTicket}
use Rattle.core_state.specs.LakeStates.{lake_value}
use Rattle.lake_core.proofs.StepLemmas.{holds_now}
use Rattle.lake_core.proofs.lake.Lake.has_ticket.Goals as goal

pub returns : goal.returns
unfolding lake_value
returns g c =
    holds_now (λ s given. IsTrue c.is_ticket_of.result ↔ HasTicket s c.args.seat c.args.number) c.self.view_is c.self.invariant.stands.replayed
    c.is_ticket_of.ensures
