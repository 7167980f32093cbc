use Rattle.std.proofs.Common.{ℕ, ap, sym, ◌∙◌}
use Rattle.std.specs.FinMap.{FinMap}
use Rattle.std.specs.Ordering.{nat_cmp}
use Rattle.core_state.specs.LakeStates.{lake_value}
use Rattle.core_changes.proofs.TicketsLemmas.{tickets_same}
use Rattle.core_changes.proofs.lake.make_ticket_room.Goals as goal

pub returns-clause-same : goal.returns-clause-same
unfolding lake_value
returns-clause-same c =
    let l = lake_value c.args.lake.now in
    let done = c.in_ok-insert.ensures in
    ap (λ (tickets : FinMap nat_cmp ℕ). record l { tickets = tickets })
    (tickets_same c.args.lake.now.tickets.entries c.insert.new.self.entries c.args.lake.now.next_number
    done.was_ordered done.ordered done.updates.0 (sym c.contains_key.ensures ∙ c.if-contains_key.false))
