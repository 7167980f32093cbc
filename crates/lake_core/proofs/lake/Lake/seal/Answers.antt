use Rattle.std.proofs.Common.{◌+◌, ap, refl, ◌∙◌, subst, sym}
use Rattle.std.specs.Prelude.{Some}
use Rattle.lake_model.specs.Refusals.{GivesOrFails, first_cause}
use Rattle.lake_model.specs.Steps.{seal_reply, seal_causes}
use Rattle.core_state.specs.Counts.{AreFew}
use Rattle.core_state.specs.LakeStates.{lake_value, state_of}
use Rattle.core_standing.specs.Standing.{versions_since}
use Rattle.core_changes.specs.LakeChanges.{after_seal}
use Rattle.core_puts.specs.KeeperViews.{KeeperView}
use Rattle.lake_core.specs.Lakes.{state, versions}
use Rattle.lake_core.specs.Makings.{seal}
use Rattle.lake_core.proofs.FaultLemmas.{kept_made, kept_refused}
use Rattle.lake_core.proofs.PairLemmas.{kept_by, pairs_made, pairs_refused, same_places, with_places}
use Rattle.lake_core.proofs.StepLemmas.{accepted, at_present, holds_now, made_leaves, made_stands, refused_leaves, refused_reply, refused_stands, settings_at}
use Rattle.lake_core.proofs.StepLemmas.{starved_reply, unkept_leaves, unkept_reply, unready_leaves}
use Rattle.core_changes.specs.FreshTokens.{AreTokensBelow}
use Rattle.lake_model.specs.declared.reply.Versions.{Versions}
use Rattle.lake_model.specs.Versions.{settings_version}
use Rattle.lake_core.proofs.lake.Lake.seal.Goals as goal

pub returns-in_err-test_seal-clause-reply : goal.returns-in_err-test_seal-clause-reply
returns-in_err-test_seal-clause-reply g c =
    holds_now (λ s given. GivesOrFails c.from_residual.result (seal_reply c.args.why s given c.args.repo.now c.args.branch.now)) c.self.view_is
    c.self.invariant.stands.replayed
    (refused_reply (first_cause (seal_causes c.args.why (state_of (lake_value c.self.inside.present)) c.args.repo.now c.args.branch.now)) (record {
      at =
          (lake_value c.self.inside.present).entries + 1;
      version = (versions_since (lake_value c.self.inside.opened.value) c.self.inside.history.items).next;
      settings = settings_version (versions_since (lake_value c.self.inside.opened.value) c.self.inside.history.items) c.args.repo.now;
    })
    (c.laws_of_causes.ensures.seal c.args.why (state_of (lake_value c.self.inside.present)) c.args.repo.now c.args.branch.now) _ _ c.from_residual.ensures.1
    c.in_err-test_seal.ensures)

pub keep-requires : goal.keep-requires
keep-requires g c =
    let none = c.in_ok-test_seal.ensures in
    let may = c.laws_of_writes.ensures.seal _ _ _ c.args.by c.args.repo.now c.args.branch.now c.args.why c.self.invariant.stands none in
    record { few = subst AreFew (sym c.in_ok-operation.ensures.same) may.few }

pub invariant_of-self-in_err-keep : goal.invariant_of-self-in_err-keep
invariant_of-self-in_err-keep g c =
    let none = c.in_ok-test_seal.ensures in
    let may = c.laws_of_writes.ensures.seal _ _ _ c.args.by c.args.repo.now c.args.branch.now c.args.why c.self.invariant.stands none in
    record {
      stands = refused_stands may _ _ _ _ _ _ c.self.invariant.stands c.in_ok-operation.ensures.ready.operation refl c.in_ok-operation.ensures.same
          c.in_err-keep.ensures.kept;
      keeper = kept_refused _ _ _ _ _ c.self.invariant.keeper _ _ c.in_err-keep.ensures.kept;
      pairs = pairs_refused c.self.invariant.stands may _ _ _ _ _ _ c.in_ok-operation.ensures.ready.operation c.in_ok-operation.ensures.ready.puts refl
          c.in_ok-operation.ensures.same
          (same_places (c.in_err-keep.ensures.names ∙ c.in_ok-operation.ensures.names))
          (kept_by _ _ (after_seal c.args.repo.now c.args.branch.now) _
          (c.laws_of_followed_writes.ensures.seal _ _ _ c.args.by c.args.repo.now c.args.branch.now c.args.why c.self.invariant.stands may
          c.in_ok-operation.ensures.limits))
          c.self.invariant.pairs c.in_err-keep.ensures.kept;
    }

pub returns-in_err-keep-clause-reply : goal.returns-in_err-keep-clause-reply
returns-in_err-keep-clause-reply g c =
    holds_now (λ s given. GivesOrFails c.from_residual-in_err-keep.result (seal_reply c.args.why s given c.args.repo.now c.args.branch.now)) c.self.view_is
    c.self.invariant.stands.replayed
    (unkept_reply _ _ _ _ _ _ (first_cause (seal_causes c.args.why (state_of (lake_value c.self.inside.present)) c.args.repo.now c.args.branch.now))
    (record {
      at = (lake_value c.self.inside.present).entries + 1;
      version = (versions_since (lake_value c.self.inside.opened.value) c.self.inside.history.items).next;
      settings = settings_version (versions_since (lake_value c.self.inside.opened.value) c.self.inside.history.items) c.args.repo.now;
    })
    (c.in_ok-test_seal.ensures) _ _ c.from_residual-in_err-keep.ensures.1 c.in_err-keep.ensures.kept)

pub returns-in_err-keep-clause-leaves : goal.returns-in_err-keep-clause-leaves
returns-in_err-keep-clause-leaves g c =
    unkept_leaves _ _ (λ p. Some (seal c.args.repo.now c.args.branch.now c.args.why (lake_value p)))
    ((seal c.args.repo.now c.args.branch.now c.args.why (lake_value c.self.inside.present))) _ _ c.in_ok-operation.ensures.ready.operation
    c.in_ok-operation.ensures.ready.puts
    _ _ _ _ _ (record { keeper = c.keep.new.keeper; history = c.keep.new.history.items; present = c.keep.new.present }) c.in_ok-operation.ensures.same (refl) _
    c.self.view_is _ _ c.from_residual-in_err-keep.ensures.1 c.in_err-keep.ensures.kept

pub invariant_of-self-2 : goal.invariant_of-self-2
invariant_of-self-2 g c =
    let none = c.in_ok-test_seal.ensures in
    let may = c.laws_of_writes.ensures.seal _ _ _ c.args.by c.args.repo.now c.args.branch.now c.args.why c.self.invariant.stands none in
    record {
      stands = made_stands may _ _ _ c.in_ok-operation.ensures.ready.operation c.in_ok-keep.ensures.kept.history
          (c.seal.ensures.made ∙ ap (after_seal c.args.repo.now c.args.branch.now) (c.in_ok-keep.ensures.kept.present ∙ c.in_ok-operation.ensures.same));
      keeper = kept_made _ _ _ _ _ c.self.invariant.keeper _ c.in_ok-keep.ensures.kept;
      pairs = pairs_made c.self.invariant.stands may _ _ _ _ _ c.in_ok-operation.ensures.ready.puts
          (c.seal.ensures.made ∙ ap (after_seal c.args.repo.now c.args.branch.now) (c.in_ok-keep.ensures.kept.present ∙ c.in_ok-operation.ensures.same))
          (with_places _ _ (after_seal c.args.repo.now c.args.branch.now) _ _
          (c.laws_of_followed_writes.ensures.seal _ _ _ c.args.by c.args.repo.now c.args.branch.now c.args.why c.self.invariant.stands may
          c.in_ok-operation.ensures.limits)
          (same_places (c.seal.ensures.names ∙ c.in_ok-keep.ensures.names ∙ c.in_ok-operation.ensures.names)))
          c.self.invariant.pairs c.in_ok-keep.ensures.kept;
    }

pub returns-clause-reply : goal.returns-clause-reply
unfolding lake_value
returns-clause-reply g c =
    accepted {X = Versions} (c.in_ok-test_seal.ensures)
    (ap (λ at. record { at = at; version = (lake_value c.self.inside.present).next_version; settings = c.settings_of-settings.result }) (c.place-at.ensures ∙ ap
    (λ l. l.entries) (c.seal.ensures.made ∙ ap (after_seal c.args.repo.now c.args.branch.now) (c.in_ok-keep.ensures.kept.present ∙
    c.in_ok-operation.ensures.same)))
    ∙ ap (λ v. record { at = (lake_value c.self.inside.present).entries + 1; version = v; settings = c.settings_of-settings.result })
    (sym c.self.invariant.stands.versions.next)
    ∙ ap (λ w. record {
      at = (lake_value c.self.inside.present).entries + 1;
      version = (versions_since (lake_value c.self.inside.opened.value)
          c.self.inside.history.items).next;
      settings = w;
    }) (c.settings_of-settings.ensures ∙ settings_at _ _ c.self.invariant.stands.versions c.args.repo.now _ refl))
    ∙ at_present (λ s given. seal_reply c.args.why s given c.args.repo.now c.args.branch.now) c.self.view_is c.self.invariant.stands.replayed

pub returns-clause-leaves : goal.returns-clause-leaves
returns-clause-leaves g c =
    made_leaves _ _ (λ p. Some (seal c.args.repo.now c.args.branch.now c.args.why (lake_value p)))
    ((seal c.args.repo.now c.args.branch.now c.args.why (lake_value c.self.inside.present))) _ _ c.in_ok-operation.ensures.ready.operation
    c.in_ok-operation.ensures.ready.puts
    _ _ _ _ _ (record { keeper = c.keep.new.keeper; history = c.keep.new.history.items; present = c.keep.new.present }) c.in_ok-operation.ensures.same (refl) _
    c.self.view_is _ c.in_ok-keep.ensures.kept
    (c.seal.ensures.made ∙ ap (after_seal c.args.repo.now c.args.branch.now) (c.in_ok-keep.ensures.kept.present ∙ c.in_ok-operation.ensures.same))

pub ready_seal-requires : goal.ready_seal-requires
ready_seal-requires g c =
    let none = c.in_ok-test_seal.ensures in
    let may = c.laws_of_writes.ensures.seal _ _ _ c.args.by c.args.repo.now c.args.branch.now c.args.why c.self.invariant.stands none in
    record {
      plain = c.laws_of_plain_names.ensures.seal _ _ _ c.args.by c.args.repo.now c.args.branch.now c.args.why c.self.invariant.stands none;
      few =
          may.few;
    }

pub seal-requires-clause-few : goal.seal-requires-clause-few
seal-requires-clause-few g c =
    let none = c.in_ok-test_seal.ensures in
    let may = c.laws_of_writes.ensures.seal _ _ _ c.args.by c.args.repo.now c.args.branch.now c.args.why c.self.invariant.stands none in
    subst AreFew (sym (c.in_ok-keep.ensures.kept.present ∙ c.in_ok-operation.ensures.same)) may.few

pub seal-requires-clause-tokens : goal.seal-requires-clause-tokens
seal-requires-clause-tokens g c =
    let none = c.in_ok-test_seal.ensures in
    let may = c.laws_of_writes.ensures.seal _ _ _ c.args.by c.args.repo.now c.args.branch.now c.args.why c.self.invariant.stands none in
    subst AreTokensBelow (sym (c.in_ok-keep.ensures.kept.present ∙ c.in_ok-operation.ensures.same)) c.self.invariant.stands.tokens

pub returns-in_err-test_seal-clause-leaves : goal.returns-in_err-test_seal-clause-leaves
returns-in_err-test_seal-clause-leaves g c =
    refused_leaves _ _ (Some (seal c.args.repo.now c.args.branch.now c.args.why (lake_value c.args.self.now.present))) _ _ refl _ _ c.from_residual.ensures.1
    (c.laws_of_causes.ensures.seal c.args.why (state_of (lake_value c.self.inside.present)) c.args.repo.now c.args.branch.now _ c.in_err-test_seal.ensures)

pub returns-in_err-operation-clause-reply : goal.returns-in_err-operation-clause-reply
returns-in_err-operation-clause-reply g c =
    starved_reply c.from_residual-in_err-operation.result
    (seal_reply c.args.why (state c.args.self.now) (versions c.args.self.now) c.args.repo.now c.args.branch.now) c.from_residual-in_err-operation.ensures.1

pub returns-in_err-operation-clause-leaves : goal.returns-in_err-operation-clause-leaves
returns-in_err-operation-clause-leaves g c =
    let view : KeeperView _ = record { kept = g.K.Keeper.kept; faults = g.K.Keeper.faults; calls = g.K.Keeper.calls; successes = g.K.Keeper.successes } in
    let inside = c.self.inside in
    unready_leaves view inside.opened.value inside.present c.ready_seal.new.lake inside.history.items inside.keeper c.args.self.now c.self.view_is
    c.ready_seal.ensures.same c.args.by
    (Some (seal c.args.repo.now c.args.branch.now c.args.why (lake_value c.args.self.now.present))) c.from_residual-in_err-operation.result
    c.from_residual-in_err-operation.ensures.1
