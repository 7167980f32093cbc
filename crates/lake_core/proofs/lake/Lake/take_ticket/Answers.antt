use Rattle.std.proofs.Common.{ℕ, ◌+◌, ap, refl, ◌∙◌, subst, sym}
use Rattle.std.specs.Prelude.{Some}
use Rattle.lake_model.specs.Refusals.{GivesOrFails, first_cause}
use Rattle.lake_model.specs.Steps.{take_ticket_reply, write_causes}
use Rattle.core_state.specs.Counts.{AreFew}
use Rattle.core_state.specs.LakeStates.{lake_value, state_of}
use Rattle.core_changes.specs.LakeChanges.{after_ticket_take}
use Rattle.core_puts.specs.KeeperViews.{KeeperView}
use Rattle.lake_core.specs.Lakes.{state}
use Rattle.lake_core.specs.Makings.{take_ticket}
use Rattle.lake_core.proofs.FaultLemmas.{kept_made, kept_refused}
use Rattle.lake_core.proofs.PairLemmas.{kept_by, pairs_made, pairs_refused, same_places, with_places}
use Rattle.lake_core.proofs.StepLemmas.{accepted, at_present, holds_now, made_leaves, made_stands, refused_leaves, refused_reply, refused_stands, starved_reply}
use Rattle.lake_core.proofs.StepLemmas.{unkept_leaves, unkept_reply, unready_leaves}
use Rattle.lake_core.proofs.lake.Lake.take_ticket.Goals as goal

pub returns-in_err-test_write-clause-reply : goal.returns-in_err-test_write-clause-reply
returns-in_err-test_write-clause-reply g c =
    holds_now (λ s given. GivesOrFails c.from_residual.result (take_ticket_reply s c.args.repo.now c.args.branch.now)) c.self.view_is
    c.self.invariant.stands.replayed
    (refused_reply (first_cause (write_causes (state_of (lake_value c.self.inside.present)) c.args.repo.now c.args.branch.now))
    ((lake_value c.self.inside.present).entries + 1, (lake_value c.self.inside.present).next_number)
    (c.laws_of_causes.ensures.write (state_of (lake_value c.self.inside.present)) c.args.repo.now c.args.branch.now) _ _ c.from_residual.ensures.1
    c.in_err-test_write.ensures)

pub keep-requires : goal.keep-requires
keep-requires g c =
    let none = c.in_ok-test_write.ensures in
    let may = c.laws_of_tickets.ensures.take _ _ _ c.args.by c.args.repo.now c.args.branch.now c.self.invariant.stands none in
    record { few = subst AreFew (sym c.in_ok-operation.ensures.same) may.few }

pub invariant_of-self-in_err-keep : goal.invariant_of-self-in_err-keep
invariant_of-self-in_err-keep g c =
    let none = c.in_ok-test_write.ensures in
    let may = c.laws_of_tickets.ensures.take _ _ _ c.args.by c.args.repo.now c.args.branch.now c.self.invariant.stands none in
    record {
      stands = refused_stands may _ _ _ _ _ _ c.self.invariant.stands c.in_ok-operation.ensures.ready.operation refl c.in_ok-operation.ensures.same
          c.in_err-keep.ensures.kept;
      keeper = kept_refused _ _ _ _ _ c.self.invariant.keeper _ _ c.in_err-keep.ensures.kept;
      pairs = pairs_refused c.self.invariant.stands may _ _ _ _ _ _ c.in_ok-operation.ensures.ready.operation c.in_ok-operation.ensures.ready.puts refl
          c.in_ok-operation.ensures.same
          (same_places (c.in_err-keep.ensures.names ∙ c.in_ok-operation.ensures.names))
          (kept_by _ _ (after_ticket_take c.args.by.seat) _
          (c.laws_of_followed_tickets.ensures.take (lake_value c.self.inside.present) c.args.by.seat may.few))
          c.self.invariant.pairs c.in_err-keep.ensures.kept;
    }

pub returns-in_err-keep-clause-reply : goal.returns-in_err-keep-clause-reply
returns-in_err-keep-clause-reply g c =
    holds_now (λ s given. GivesOrFails c.from_residual-in_err-keep.result (take_ticket_reply s c.args.repo.now c.args.branch.now)) c.self.view_is
    c.self.invariant.stands.replayed
    (unkept_reply _ _ _ _ _ _ (first_cause (write_causes (state_of (lake_value c.self.inside.present)) c.args.repo.now c.args.branch.now))
    ((lake_value c.self.inside.present).entries + 1, (lake_value c.self.inside.present).next_number)
    (c.in_ok-test_write.ensures) _ _ c.from_residual-in_err-keep.ensures.1 c.in_err-keep.ensures.kept)

pub returns-in_err-keep-clause-leaves : goal.returns-in_err-keep-clause-leaves
returns-in_err-keep-clause-leaves g c =
    unkept_leaves _ _ (λ p. Some (take_ticket c.args.by.seat c.args.repo.now c.args.branch.now (lake_value p)))
    ((take_ticket c.args.by.seat c.args.repo.now c.args.branch.now (lake_value c.self.inside.present))) _ _ c.in_ok-operation.ensures.ready.operation
    c.in_ok-operation.ensures.ready.puts
    _ _ _ _ _ (record { keeper = c.keep.new.keeper; history = c.keep.new.history.items; present = c.keep.new.present }) c.in_ok-operation.ensures.same (refl) _
    c.self.view_is _ _ c.from_residual-in_err-keep.ensures.1 c.in_err-keep.ensures.kept

pub invariant_of-self-2 : goal.invariant_of-self-2
invariant_of-self-2 g c =
    let none = c.in_ok-test_write.ensures in
    let may = c.laws_of_tickets.ensures.take _ _ _ c.args.by c.args.repo.now c.args.branch.now c.self.invariant.stands none in
    record {
      stands = made_stands may _ _ _ c.in_ok-operation.ensures.ready.operation c.in_ok-keep.ensures.kept.history
          (c.take_ticket.ensures.made ∙ ap (after_ticket_take c.args.by.seat) (c.in_ok-keep.ensures.kept.present ∙ c.in_ok-operation.ensures.same));
      keeper = kept_made _ _ _ _ _ c.self.invariant.keeper _ c.in_ok-keep.ensures.kept;
      pairs = pairs_made c.self.invariant.stands may _ _ _ _ _ c.in_ok-operation.ensures.ready.puts
          (c.take_ticket.ensures.made ∙ ap (after_ticket_take c.args.by.seat) (c.in_ok-keep.ensures.kept.present ∙ c.in_ok-operation.ensures.same))
          (with_places _ _ (after_ticket_take c.args.by.seat) _ _
          (c.laws_of_followed_tickets.ensures.take (lake_value c.self.inside.present) c.args.by.seat may.few)
          (same_places (c.take_ticket.ensures.names ∙ c.in_ok-keep.ensures.names ∙ c.in_ok-operation.ensures.names)))
          c.self.invariant.pairs c.in_ok-keep.ensures.kept;
    }

pub returns-clause-reply : goal.returns-clause-reply
unfolding lake_value
returns-clause-reply g c =
    accepted {X = (ℕ × ℕ)} (c.in_ok-test_write.ensures) (ap (λ at. (at, c.self.inside.present.next_number)) (c.place.ensures
    ∙ ap (λ l. l.entries) (c.take_ticket.ensures.made ∙ ap (after_ticket_take c.args.by.seat) (c.in_ok-keep.ensures.kept.present ∙
    c.in_ok-operation.ensures.same))))
    ∙ at_present (λ s given. take_ticket_reply s c.args.repo.now c.args.branch.now) c.self.view_is c.self.invariant.stands.replayed

pub returns-clause-leaves : goal.returns-clause-leaves
returns-clause-leaves g c =
    made_leaves _ _ (λ p. Some (take_ticket c.args.by.seat c.args.repo.now c.args.branch.now (lake_value p)))
    ((take_ticket c.args.by.seat c.args.repo.now c.args.branch.now (lake_value c.self.inside.present))) _ _ c.in_ok-operation.ensures.ready.operation
    c.in_ok-operation.ensures.ready.puts
    _ _ _ _ _ (record { keeper = c.keep.new.keeper; history = c.keep.new.history.items; present = c.keep.new.present }) c.in_ok-operation.ensures.same (refl) _
    c.self.view_is _ c.in_ok-keep.ensures.kept
    (c.take_ticket.ensures.made ∙ ap (after_ticket_take c.args.by.seat) (c.in_ok-keep.ensures.kept.present ∙ c.in_ok-operation.ensures.same))

pub ready_ticket-requires : goal.ready_ticket-requires
ready_ticket-requires g c =
    let none = c.in_ok-test_write.ensures in
    let may = c.laws_of_tickets.ensures.take _ _ _ c.args.by c.args.repo.now c.args.branch.now c.self.invariant.stands none in
    record { few = may.few }

pub take_ticket-requires-clause-few : goal.take_ticket-requires-clause-few
take_ticket-requires-clause-few g c =
    let none = c.in_ok-test_write.ensures in
    let may = c.laws_of_tickets.ensures.take _ _ _ c.args.by c.args.repo.now c.args.branch.now c.self.invariant.stands none in
    subst AreFew (sym (c.in_ok-keep.ensures.kept.present ∙ c.in_ok-operation.ensures.same)) may.few

pub returns-in_err-test_write-clause-leaves : goal.returns-in_err-test_write-clause-leaves
returns-in_err-test_write-clause-leaves g c =
    refused_leaves _ _ (Some (take_ticket c.args.by.seat c.args.repo.now c.args.branch.now (lake_value c.args.self.now.present))) _ _ refl _ _
    c.from_residual.ensures.1
    (c.laws_of_causes.ensures.write (state_of (lake_value c.self.inside.present)) c.args.repo.now c.args.branch.now _ c.in_err-test_write.ensures)

pub returns-in_err-operation-clause-reply : goal.returns-in_err-operation-clause-reply
returns-in_err-operation-clause-reply g c =
    starved_reply c.from_residual-in_err-operation.result (take_ticket_reply (state c.args.self.now) c.args.repo.now c.args.branch.now)
    c.from_residual-in_err-operation.ensures.1

pub returns-in_err-operation-clause-leaves : goal.returns-in_err-operation-clause-leaves
returns-in_err-operation-clause-leaves g c =
    let view : KeeperView _ = record { kept = g.K.Keeper.kept; faults = g.K.Keeper.faults; calls = g.K.Keeper.calls; successes = g.K.Keeper.successes } in
    let inside = c.self.inside in
    unready_leaves view inside.opened.value inside.present c.ready_ticket.new.lake inside.history.items inside.keeper c.args.self.now c.self.view_is
    c.ready_ticket.ensures.same c.args.by
    (Some (take_ticket c.args.by.seat c.args.repo.now c.args.branch.now (lake_value c.args.self.now.present))) c.from_residual-in_err-operation.result
    c.from_residual-in_err-operation.ensures.1
