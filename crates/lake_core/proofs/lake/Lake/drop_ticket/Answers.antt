use Rattle.std.proofs.Common.{ℕ, ◌+◌, ap, refl, ◌∙◌, subst, sym}
use Rattle.std.specs.Prelude.{Some}
use Rattle.lake_model.specs.Refusals.{GivesOrFails, causes_of_change, first_cause}
use Rattle.lake_model.specs.Steps.{drop_ticket_reply}
use Rattle.core_state.specs.Counts.{AreFew}
use Rattle.core_state.specs.LakeStates.{lake_value, state_of}
use Rattle.core_changes.specs.LakeChanges.{after_ticket_drop}
use Rattle.lake_core.specs.Makings.{drop_ticket}
use Rattle.lake_core.proofs.FaultLemmas.{kept_made, kept_refused}
use Rattle.lake_core.proofs.PairLemmas.{kept_by, pairs_made, pairs_refused, same_places, with_places}
use Rattle.lake_core.proofs.StepLemmas.{accepted, at_present, held_then, holds_now, made_leaves, made_stands, refused_leaves, refused_reply, refused_stands}
use Rattle.lake_core.proofs.StepLemmas.{unkept_leaves, unkept_reply}
use Rattle.lake_model.specs.Uncommitted.{HasTicket}
use Rattle.lake_core.proofs.lake.Lake.drop_ticket.Goals as goal

pub returns-in_err-test_change-clause-reply : goal.returns-in_err-test_change-clause-reply
returns-in_err-test_change-clause-reply g c =
    holds_now (λ s given. GivesOrFails c.from_residual.result (drop_ticket_reply s)) c.self.view_is c.self.invariant.stands.replayed
    (refused_reply (first_cause (causes_of_change (state_of (lake_value c.self.inside.present)))) ((lake_value c.self.inside.present).entries + 1)
    (c.laws_of_causes.ensures.change (state_of (lake_value c.self.inside.present))) _ _ c.from_residual.ensures.1
    c.in_err-test_change.ensures)

pub keep-requires : goal.keep-requires
keep-requires g c =
    let none = c.in_ok-test_change.ensures in
    let ticket = held_then (λ s given. HasTicket s c.args.by.seat c.args.number) c.self.view_is c.self.invariant.stands.replayed c.requires in
    let may = c.laws_of_tickets.ensures.drop _ _ _ c.args.by c.args.number c.self.invariant.stands none ticket in
    record { few = may.few }

pub invariant_of-self : goal.invariant_of-self
invariant_of-self g c =
    let none = c.in_ok-test_change.ensures in
    let ticket = held_then (λ s given. HasTicket s c.args.by.seat c.args.number) c.self.view_is c.self.invariant.stands.replayed c.requires in
    let may = c.laws_of_tickets.ensures.drop _ _ _ c.args.by c.args.number c.self.invariant.stands none ticket in
    record {
      stands = refused_stands may _ _ _ _ _ _ c.self.invariant.stands c.ready_drop-operation.ensures.operation refl refl c.in_err-keep.ensures.kept;
      keeper = kept_refused _ _ _ _ _ c.self.invariant.keeper _ _ c.in_err-keep.ensures.kept;
      pairs = pairs_refused c.self.invariant.stands may _ _ _ _ _ _ c.ready_drop-operation.ensures.operation c.ready_drop-operation.ensures.puts refl refl
          (same_places (c.in_err-keep.ensures.names))
          (kept_by _ _ (after_ticket_drop c.args.number) _
          (c.laws_of_followed_tickets.ensures.drop (lake_value c.self.inside.present) c.args.number))
          c.self.invariant.pairs c.in_err-keep.ensures.kept;
    }

pub returns-in_err-keep-clause-reply : goal.returns-in_err-keep-clause-reply
returns-in_err-keep-clause-reply g c =
    holds_now (λ s given. GivesOrFails c.from_residual-in_err-keep.result (drop_ticket_reply s)) c.self.view_is c.self.invariant.stands.replayed
    (unkept_reply _ _ _ _ _ _ (first_cause (causes_of_change (state_of (lake_value c.self.inside.present)))) ((lake_value c.self.inside.present).entries + 1)
    (c.in_ok-test_change.ensures) _ _ c.from_residual-in_err-keep.ensures.1 c.in_err-keep.ensures.kept)

pub returns-in_err-keep-clause-leaves : goal.returns-in_err-keep-clause-leaves
returns-in_err-keep-clause-leaves g c =
    unkept_leaves _ _ (λ p. Some (drop_ticket c.args.number))
    ((drop_ticket c.args.number)) _ _ c.ready_drop-operation.ensures.operation c.ready_drop-operation.ensures.puts
    _ _ _ _ _ (record { keeper = c.keep.new.keeper; history = c.keep.new.history.items; present = c.keep.new.present }) refl (refl) _ c.self.view_is _ _
    c.from_residual-in_err-keep.ensures.1 c.in_err-keep.ensures.kept

pub invariant_of-self-2 : goal.invariant_of-self-2
invariant_of-self-2 g c =
    let none = c.in_ok-test_change.ensures in
    let ticket = held_then (λ s given. HasTicket s c.args.by.seat c.args.number) c.self.view_is c.self.invariant.stands.replayed c.requires in
    let may = c.laws_of_tickets.ensures.drop _ _ _ c.args.by c.args.number c.self.invariant.stands none ticket in
    record {
      stands = made_stands may _ _ _ c.ready_drop-operation.ensures.operation c.in_ok-keep.ensures.kept.history
          (c.drop_ticket.ensures.made ∙ ap (after_ticket_drop c.args.number) (c.in_ok-keep.ensures.kept.present));
      keeper = kept_made _ _ _ _ _ c.self.invariant.keeper _ c.in_ok-keep.ensures.kept;
      pairs = pairs_made c.self.invariant.stands may _ _ _ _ _ c.ready_drop-operation.ensures.puts
          (c.drop_ticket.ensures.made ∙ ap (after_ticket_drop c.args.number) (c.in_ok-keep.ensures.kept.present))
          (with_places _ _ (after_ticket_drop c.args.number) _ _
          (c.laws_of_followed_tickets.ensures.drop (lake_value c.self.inside.present) c.args.number)
          (same_places (c.drop_ticket.ensures.names ∙ c.in_ok-keep.ensures.names)))
          c.self.invariant.pairs c.in_ok-keep.ensures.kept;
    }

pub returns-clause-reply : goal.returns-clause-reply
returns-clause-reply g c =
    accepted {X = ℕ} (c.in_ok-test_change.ensures)
    (c.place.ensures ∙ ap (λ l. l.entries) (c.drop_ticket.ensures.made ∙ ap (after_ticket_drop c.args.number) (c.in_ok-keep.ensures.kept.present)))
    ∙ at_present (λ s given. drop_ticket_reply s) c.self.view_is c.self.invariant.stands.replayed

pub returns-clause-leaves : goal.returns-clause-leaves
returns-clause-leaves g c =
    made_leaves _ _ (λ p. Some (drop_ticket c.args.number))
    ((drop_ticket c.args.number)) _ _ c.ready_drop-operation.ensures.operation c.ready_drop-operation.ensures.puts
    _ _ _ _ _ (record { keeper = c.keep.new.keeper; history = c.keep.new.history.items; present = c.keep.new.present }) refl (refl) _ c.self.view_is _
    c.in_ok-keep.ensures.kept
    (c.drop_ticket.ensures.made ∙ ap (after_ticket_drop c.args.number) (c.in_ok-keep.ensures.kept.present))

pub drop_ticket-requires : goal.drop_ticket-requires
drop_ticket-requires g c =
    let none = c.in_ok-test_change.ensures in
    let ticket = held_then (λ s given. HasTicket s c.args.by.seat c.args.number) c.self.view_is c.self.invariant.stands.replayed c.requires in
    let may = c.laws_of_tickets.ensures.drop _ _ _ c.args.by c.args.number c.self.invariant.stands none ticket in
    record { few = subst AreFew (sym (c.in_ok-keep.ensures.kept.present)) may.few }

pub returns-in_err-test_change-clause-leaves : goal.returns-in_err-test_change-clause-leaves
returns-in_err-test_change-clause-leaves g c =
    refused_leaves _ _ (Some (drop_ticket c.args.number)) _ _ refl _ _ c.from_residual.ensures.1
    (c.laws_of_causes.ensures.change (state_of (lake_value c.self.inside.present)) _ c.in_err-test_change.ensures)
