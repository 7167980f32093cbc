use Rattle.std.proofs.Common.{inl, inr, ℕ, ◌+◌, ap, refl, ◌∙◌, subst, sym}
use Rattle.std.specs.Prelude.{Some, IfSome}
use Rattle.lake_model.specs.Refusals.{GivesOrFails, first_cause}
use Rattle.lake_model.specs.Steps.{stage_causes, stage_reply}
use Rattle.lake_model.specs.Uncommitted.{HasTicket, put_number}
use Rattle.core_state.specs.Counts.{AreFew}
use Rattle.core_state.specs.LakeStates.{lake_value, state_of}
use Rattle.core_standing.specs.Standing.{versions_since}
use Rattle.core_changes.specs.LakeChanges.{after_stage}
use Rattle.core_puts.specs.KeeperViews.{KeeperView}
use Rattle.lake_core.specs.Makings.{stage}
use Rattle.lake_core.proofs.FaultLemmas.{kept_made, kept_refused}
use Rattle.lake_core.proofs.PairLemmas.{kept_by, pairs_made, pairs_refused, same_places, with_places}
use Rattle.lake_core.proofs.StepLemmas.{accepted, at_present, held_then, holds_now, made_leaves, made_stands, refused_stands, staged_entries, unkept_leaves}
use Rattle.lake_core.proofs.StepLemmas.{unkept_reply, untested_leaves, untested_reply}
use Rattle.lake_core.proofs.lake.Lake.stage.Goals as goal

pub returns-in_err-operation-clause-reply : goal.returns-in_err-operation-clause-reply
returns-in_err-operation-clause-reply g c =
    holds_now (λ s given. GivesOrFails c.from_residual.result (stage_reply s given c.args.repo.now c.args.branch.now c.args.version)) c.self.view_is
    c.self.invariant.stands.replayed
    (untested_reply (first_cause (stage_causes (state_of (lake_value c.self.inside.present))
    (versions_since (lake_value c.self.inside.opened.value) c.self.inside.history.items) c.args.repo.now c.args.branch.now c.args.version))
    ((lake_value c.self.inside.present).entries + 1) (c.laws_of_causes.ensures.stage (state_of (lake_value c.self.inside.present))
    (versions_since (lake_value c.self.inside.opened.value) c.self.inside.history.items) c.args.repo.now c.args.branch.now c.args.version)
    c.from_residual.result _ c.from_residual.ensures.1
    (elim (c.in_err-operation.ensures.tells (versions_since (lake_value c.self.inside.opened.value) c.self.inside.history.items)
    c.self.invariant.stands.versions)
    [ inl memory ↦ inl memory | inr is ↦ inr is.0 ]))

pub returns-in_err-operation-clause-leaves : goal.returns-in_err-operation-clause-leaves
returns-in_err-operation-clause-leaves g c =
    let view : KeeperView _ = record { kept = g.K.Keeper.kept; faults = g.K.Keeper.faults; calls = g.K.Keeper.calls; successes = g.K.Keeper.successes } in
    let inside = c.self.inside in
    untested_leaves view inside.opened.value inside.present c.ready_stage.new.lake inside.history.items inside.keeper c.args.self.now c.self.view_is
    c.in_err-operation.ensures.same c.args.by
    (Some (stage c.args.repo.now c.args.branch.now c.args.path c.args.change (lake_value c.args.self.now.present))) c.from_residual.result _
    c.from_residual.ensures.1
    (elim (c.in_err-operation.ensures.tells (versions_since (lake_value c.self.inside.opened.value) c.self.inside.history.items)
    c.self.invariant.stands.versions) [
      | inl memory ↦ inl memory
      | inr is ↦ inr (
        c.laws_of_causes.ensures.stage (state_of (lake_value c.self.inside.present))
            (versions_since (lake_value c.self.inside.opened.value) c.self.inside.history.items) c.args.repo.now c.args.branch.now c.args.version _ is.0,
        is.1,
      )
    ])

pub keep-requires : goal.keep-requires
keep-requires g c =
    let ticket = held_then (λ s given. IfSome (put_number c.args.change) (HasTicket s c.args.by.seat)) c.self.view_is c.self.invariant.stands.replayed
    c.requires in
    let none =
    (c.in_ok-operation.ensures.tells (versions_since (lake_value c.self.inside.opened.value) c.self.inside.history.items) c.self.invariant.stands.versions).0 in
    let may =
    c.laws_of_writes.ensures.stage _ _ _ c.args.by c.args.repo.now c.args.branch.now c.args.version c.args.path c.args.change c.self.invariant.stands none
    ticket in
    record { few = subst AreFew (sym c.in_ok-operation.ensures.same) may.few }

pub stage-requires-clause-few : goal.stage-requires-clause-few
stage-requires-clause-few g c =
    let ticket = held_then (λ s given. IfSome (put_number c.args.change) (HasTicket s c.args.by.seat)) c.self.view_is c.self.invariant.stands.replayed
    c.requires in
    let none =
    (c.in_ok-operation.ensures.tells (versions_since (lake_value c.self.inside.opened.value) c.self.inside.history.items) c.self.invariant.stands.versions).0 in
    let may =
    c.laws_of_writes.ensures.stage _ _ _ c.args.by c.args.repo.now c.args.branch.now c.args.version c.args.path c.args.change c.self.invariant.stands none
    ticket in
    subst AreFew (sym (c.in_ok-keep.ensures.kept.present ∙ c.in_ok-operation.ensures.same)) may.few

pub invariant_of-self-in_err-keep : goal.invariant_of-self-in_err-keep
invariant_of-self-in_err-keep g c =
    let ticket = held_then (λ s given. IfSome (put_number c.args.change) (HasTicket s c.args.by.seat)) c.self.view_is c.self.invariant.stands.replayed
    c.requires in
    let none =
    (c.in_ok-operation.ensures.tells (versions_since (lake_value c.self.inside.opened.value) c.self.inside.history.items) c.self.invariant.stands.versions).0 in
    let may =
    c.laws_of_writes.ensures.stage _ _ _ c.args.by c.args.repo.now c.args.branch.now c.args.version c.args.path c.args.change c.self.invariant.stands none
    ticket in
    let ready =
    (c.in_ok-operation.ensures.tells (versions_since (lake_value c.self.inside.opened.value) c.self.inside.history.items) c.self.invariant.stands.versions).1 in
    record {
      stands = refused_stands may _ _ _ _ _ _ c.self.invariant.stands ready.operation refl c.in_ok-operation.ensures.same c.in_err-keep.ensures.kept;
      keeper = kept_refused _ _ _ _ _ c.self.invariant.keeper _ _ c.in_err-keep.ensures.kept;
      pairs = pairs_refused c.self.invariant.stands may _ _ _ _ _ _ ready.operation ready.puts refl c.in_ok-operation.ensures.same
          (same_places (c.in_err-keep.ensures.names ∙ c.in_ok-operation.ensures.names))
          (kept_by _ _ (after_stage c.args.repo.now c.args.branch.now c.args.path c.args.change) _
          (c.laws_of_followed_writes.ensures.stage _ _ _ c.args.by c.args.repo.now c.args.branch.now c.args.path c.args.change c.self.invariant.stands may
          c.in_ok-operation.ensures.limits))
          c.self.invariant.pairs c.in_err-keep.ensures.kept;
    }

pub returns-in_err-keep-clause-reply : goal.returns-in_err-keep-clause-reply
returns-in_err-keep-clause-reply g c =
    holds_now (λ s given. GivesOrFails c.from_residual-in_err-keep.result (stage_reply s given c.args.repo.now c.args.branch.now c.args.version)) c.self.view_is
    c.self.invariant.stands.replayed
    (unkept_reply _ _ _ _ _ _ _ _ ((c.in_ok-operation.ensures.tells (versions_since (lake_value c.self.inside.opened.value) c.self.inside.history.items)
    c.self.invariant.stands.versions).0) _ _ c.from_residual-in_err-keep.ensures.1 c.in_err-keep.ensures.kept)

pub returns-in_err-keep-clause-leaves : goal.returns-in_err-keep-clause-leaves
returns-in_err-keep-clause-leaves g c =
    let ready =
    (c.in_ok-operation.ensures.tells (versions_since (lake_value c.self.inside.opened.value) c.self.inside.history.items) c.self.invariant.stands.versions).1 in
    unkept_leaves _ _ (λ p. Some (stage c.args.repo.now c.args.branch.now c.args.path c.args.change (lake_value p)))
    (stage c.args.repo.now c.args.branch.now c.args.path c.args.change (lake_value c.self.inside.present)) _ _ ready.operation ready.puts
    _ _ _ _ _ (record { keeper = c.keep.new.keeper; history = c.keep.new.history.items; present = c.keep.new.present }) c.in_ok-operation.ensures.same refl _
    c.self.view_is _ _ c.from_residual-in_err-keep.ensures.1 c.in_err-keep.ensures.kept

pub invariant_of-self-2 : goal.invariant_of-self-2
invariant_of-self-2 g c =
    let ticket = held_then (λ s given. IfSome (put_number c.args.change) (HasTicket s c.args.by.seat)) c.self.view_is c.self.invariant.stands.replayed
    c.requires in
    let none =
    (c.in_ok-operation.ensures.tells (versions_since (lake_value c.self.inside.opened.value) c.self.inside.history.items) c.self.invariant.stands.versions).0 in
    let may =
    c.laws_of_writes.ensures.stage _ _ _ c.args.by c.args.repo.now c.args.branch.now c.args.version c.args.path c.args.change c.self.invariant.stands none
    ticket in
    let ready =
    (c.in_ok-operation.ensures.tells (versions_since (lake_value c.self.inside.opened.value) c.self.inside.history.items) c.self.invariant.stands.versions).1 in
    record {
      stands = made_stands may _ _ _ ready.operation c.in_ok-keep.ensures.kept.history
          (c.stage.ensures.made
          ∙ ap (after_stage c.args.repo.now c.args.branch.now c.args.path c.args.change) (c.in_ok-keep.ensures.kept.present ∙ c.in_ok-operation.ensures.same));
      keeper = kept_made _ _ _ _ _ c.self.invariant.keeper _ c.in_ok-keep.ensures.kept;
      pairs = pairs_made c.self.invariant.stands may _ _ _ _ _ ready.puts
          (c.stage.ensures.made ∙ ap (after_stage c.args.repo.now c.args.branch.now c.args.path c.args.change) (c.in_ok-keep.ensures.kept.present ∙
          c.in_ok-operation.ensures.same))
          (with_places _ _ (after_stage c.args.repo.now c.args.branch.now c.args.path c.args.change) _ _
          (c.laws_of_followed_writes.ensures.stage _ _ _ c.args.by c.args.repo.now c.args.branch.now c.args.path c.args.change c.self.invariant.stands may
          c.in_ok-operation.ensures.limits)
          (same_places (c.stage.ensures.names ∙ c.in_ok-keep.ensures.names ∙ c.in_ok-operation.ensures.names)))
          c.self.invariant.pairs c.in_ok-keep.ensures.kept;
    }

pub returns-clause-reply : goal.returns-clause-reply
returns-clause-reply g c =
    let made = c.stage.ensures.made
    ∙ ap (after_stage c.args.repo.now c.args.branch.now c.args.path c.args.change) (c.in_ok-keep.ensures.kept.present ∙ c.in_ok-operation.ensures.same) in
    accepted {X = ℕ}
    ((c.in_ok-operation.ensures.tells (versions_since (lake_value c.self.inside.opened.value) c.self.inside.history.items) c.self.invariant.stands.versions).0)
    (c.place.ensures ∙ ap (λ l. l.entries) made ∙ staged_entries c.args.repo.now c.args.branch.now c.args.path c.args.change (lake_value c.self.inside.present))
    ∙ at_present (λ s given. stage_reply s given c.args.repo.now c.args.branch.now c.args.version) c.self.view_is c.self.invariant.stands.replayed

pub returns-clause-leaves : goal.returns-clause-leaves
returns-clause-leaves g c =
    let ready =
    (c.in_ok-operation.ensures.tells (versions_since (lake_value c.self.inside.opened.value) c.self.inside.history.items) c.self.invariant.stands.versions).1 in
    made_leaves _ _ (λ p. Some (stage c.args.repo.now c.args.branch.now c.args.path c.args.change (lake_value p)))
    (stage c.args.repo.now c.args.branch.now c.args.path c.args.change (lake_value c.self.inside.present)) _ _ ready.operation ready.puts
    _ _ _ _ _ (record { keeper = c.keep.new.keeper; history = c.keep.new.history.items; present = c.keep.new.present }) c.in_ok-operation.ensures.same refl _
    c.self.view_is _ c.in_ok-keep.ensures.kept
    (c.stage.ensures.made
    ∙ ap (after_stage c.args.repo.now c.args.branch.now c.args.path c.args.change) (c.in_ok-keep.ensures.kept.present ∙ c.in_ok-operation.ensures.same))
