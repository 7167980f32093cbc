use Rattle.std.proofs.Common.{ap, refl, ◌∙◌, subst, sym}
use Rattle.std.specs.Prelude.{Ok, option_map}
use Rattle.lake_model.specs.Steps.{IsCreateTagReply, create_tag_causes, in_it, target_in}
use Rattle.core_state.specs.Counts.{AreFew}
use Rattle.core_state.specs.LakeStates.{lake_value, state_of}
use Rattle.core_changes.specs.LakeChanges.{after_tag_create}
use Rattle.core_puts.specs.KeeperViews.{KeeperView}
use Rattle.lake_core.specs.Lakes.{state}
use Rattle.lake_core.specs.Makings.{tag_making, create_tag}
use Rattle.lake_core.proofs.FaultLemmas.{kept_made, kept_refused}
use Rattle.lake_core.proofs.PairLemmas.{kept_by, pairs_made, pairs_refused, same_places, with_places}
use Rattle.lake_core.proofs.StepLemmas.{holds_now, made_leaves, made_stands, refused_found, refused_leaves, refused_stands, starved_found, unkept_found}
use Rattle.lake_core.proofs.StepLemmas.{unkept_leaves, unready_leaves}
use Rattle.lake_core.proofs.lake.Lake.create_tag.Goals as goal

pub returns-in_err-commit-clause-reply : goal.returns-in_err-commit-clause-reply
returns-in_err-commit-clause-reply g c =
    holds_now (λ s given. IsCreateTagReply s c.args.repo.now c.args.name c.args.e.now c.from_residual.result) c.self.view_is c.self.invariant.stands.replayed
    (refused_found (state_of (lake_value c.self.inside.present)) (create_tag_causes (state_of (lake_value c.self.inside.present)) c.args.repo.now c.args.name
    c.args.e.now) (in_it (state_of (lake_value c.self.inside.present)) c.args.repo.now (λ r. target_in r c.args.e.now)) (c.laws_of_causes.ensures.create_tag
    (state_of (lake_value c.self.inside.present)) c.args.repo.now c.args.name c.args.e.now) _ _ c.from_residual.ensures.1
    c.in_err-commit.ensures)

pub keep-requires : goal.keep-requires
keep-requires g c =
    let none = c.in_ok-commit.ensures.0 in
    let may = c.laws_of_names.ensures.create_tag _ _ _ c.args.by c.args.repo.now c.args.name c.args.e.now c.in_ok-commit.commit c.self.invariant.stands
    c.requires none
    c.in_ok-commit.ensures.1 in
    record { few = subst AreFew (sym c.in_ok-operation.ensures.same) may.few }

pub invariant_of-self-in_err-keep : goal.invariant_of-self-in_err-keep
invariant_of-self-in_err-keep g c =
    let none = c.in_ok-commit.ensures.0 in
    let may = c.laws_of_names.ensures.create_tag _ _ _ c.args.by c.args.repo.now c.args.name c.args.e.now c.in_ok-commit.commit c.self.invariant.stands
    c.requires none
    c.in_ok-commit.ensures.1 in
    record {
      stands = refused_stands may _ _ _ _ _ _ c.self.invariant.stands c.in_ok-operation.ensures.ready.operation refl c.in_ok-operation.ensures.same
          c.in_err-keep.ensures.kept;
      keeper = kept_refused _ _ _ _ _ c.self.invariant.keeper _ _ c.in_err-keep.ensures.kept;
      pairs = pairs_refused c.self.invariant.stands may _ _ _ _ _ _ c.in_ok-operation.ensures.ready.operation c.in_ok-operation.ensures.ready.puts refl
          c.in_ok-operation.ensures.same
          (same_places (c.in_err-keep.ensures.names ∙ c.in_ok-operation.ensures.names))
          (kept_by _ _ (after_tag_create c.args.repo.now c.args.name c.in_ok-commit.commit) _
          (c.laws_of_followed_names.ensures.create_tag _ _ _ c.args.by c.args.repo.now c.args.name c.in_ok-commit.commit c.self.invariant.stands may
          c.in_ok-operation.ensures.limits))
          c.self.invariant.pairs c.in_err-keep.ensures.kept;
    }

pub returns-in_err-keep-clause-reply : goal.returns-in_err-keep-clause-reply
returns-in_err-keep-clause-reply g c =
    holds_now (λ s given. IsCreateTagReply s c.args.repo.now c.args.name c.args.e.now c.from_residual-in_err-keep.result) c.self.view_is
    c.self.invariant.stands.replayed
    (unkept_found _ _ _ _ _ _ (state_of (lake_value c.self.inside.present)) (create_tag_causes (state_of (lake_value c.self.inside.present)) c.args.repo.now
    c.args.name c.args.e.now) (in_it (state_of (lake_value c.self.inside.present)) c.args.repo.now (λ r. target_in r c.args.e.now))
    (c.in_ok-commit.ensures.0) _ _ c.from_residual-in_err-keep.ensures.1 c.in_err-keep.ensures.kept)

pub returns-in_err-keep-clause-leaves : goal.returns-in_err-keep-clause-leaves
returns-in_err-keep-clause-leaves g c =
    unkept_leaves _ _ (λ p. create_tag c.args.repo.now c.args.name c.args.e.now (lake_value p))
    (tag_making c.args.repo.now c.args.name c.in_ok-commit.commit) _ _ c.in_ok-operation.ensures.ready.operation c.in_ok-operation.ensures.ready.puts
    _ _ _ _ _ (record { keeper = c.keep.new.keeper; history = c.keep.new.history.items; present = c.keep.new.present }) c.in_ok-operation.ensures.same
    (ap (option_map (tag_making c.args.repo.now c.args.name)) c.in_ok-commit.ensures.1) _ c.self.view_is _ _ c.from_residual-in_err-keep.ensures.1
    c.in_err-keep.ensures.kept

pub invariant_of-self-2 : goal.invariant_of-self-2
invariant_of-self-2 g c =
    let none = c.in_ok-commit.ensures.0 in
    let may = c.laws_of_names.ensures.create_tag _ _ _ c.args.by c.args.repo.now c.args.name c.args.e.now c.in_ok-commit.commit c.self.invariant.stands
    c.requires none
    c.in_ok-commit.ensures.1 in
    record {
      stands = made_stands may _ _ _ c.in_ok-operation.ensures.ready.operation c.in_ok-keep.ensures.kept.history
          (c.create_tag.ensures.made
          ∙ ap (after_tag_create c.args.repo.now c.args.name c.in_ok-commit.commit) (c.in_ok-keep.ensures.kept.present ∙ c.in_ok-operation.ensures.same));
      keeper = kept_made _ _ _ _ _ c.self.invariant.keeper _ c.in_ok-keep.ensures.kept;
      pairs = pairs_made c.self.invariant.stands may _ _ _ _ _ c.in_ok-operation.ensures.ready.puts
          (c.create_tag.ensures.made ∙ ap (after_tag_create c.args.repo.now c.args.name c.in_ok-commit.commit) (c.in_ok-keep.ensures.kept.present ∙
          c.in_ok-operation.ensures.same))
          (with_places _ _ (after_tag_create c.args.repo.now c.args.name c.in_ok-commit.commit) _ _
          (c.laws_of_followed_names.ensures.create_tag _ _ _ c.args.by c.args.repo.now c.args.name c.in_ok-commit.commit c.self.invariant.stands may
          c.in_ok-operation.ensures.limits)
          (same_places (c.create_tag.ensures.names ∙ c.in_ok-keep.ensures.names ∙ c.in_ok-operation.ensures.names)))
          c.self.invariant.pairs c.in_ok-keep.ensures.kept;
    }

pub returns-clause-reply : goal.returns-clause-reply
returns-clause-reply g c =
    holds_now (λ s given. IsCreateTagReply s c.args.repo.now c.args.name c.args.e.now (Ok (c.place.result, c.in_ok-commit.commit))) c.self.view_is
    c.self.invariant.stands.replayed (
      c.in_ok-commit.ensures.0,
      (
        c.place.ensures ∙ ap (λ l. l.entries) (c.create_tag.ensures.made ∙ ap (after_tag_create c.args.repo.now c.args.name
            c.in_ok-commit.commit) (c.in_ok-keep.ensures.kept.present ∙ c.in_ok-operation.ensures.same)),
        c.in_ok-commit.ensures.1,
      ),
    )

pub returns-clause-leaves : goal.returns-clause-leaves
returns-clause-leaves g c =
    made_leaves _ _ (λ p. create_tag c.args.repo.now c.args.name c.args.e.now (lake_value p))
    (tag_making c.args.repo.now c.args.name c.in_ok-commit.commit) _ _ c.in_ok-operation.ensures.ready.operation c.in_ok-operation.ensures.ready.puts
    _ _ _ _ _ (record { keeper = c.keep.new.keeper; history = c.keep.new.history.items; present = c.keep.new.present }) c.in_ok-operation.ensures.same
    (ap (option_map (tag_making c.args.repo.now c.args.name)) c.in_ok-commit.ensures.1) _ c.self.view_is _ c.in_ok-keep.ensures.kept
    (c.create_tag.ensures.made
    ∙ ap (after_tag_create c.args.repo.now c.args.name c.in_ok-commit.commit) (c.in_ok-keep.ensures.kept.present ∙ c.in_ok-operation.ensures.same))

pub create_tag-requires-clause-few : goal.create_tag-requires-clause-few
create_tag-requires-clause-few g c =
    let none = c.in_ok-commit.ensures.0 in
    let may = c.laws_of_names.ensures.create_tag _ _ _ c.args.by c.args.repo.now c.args.name c.args.e.now c.in_ok-commit.commit c.self.invariant.stands
    c.requires none
    c.in_ok-commit.ensures.1 in
    subst AreFew (sym (c.in_ok-keep.ensures.kept.present ∙ c.in_ok-operation.ensures.same)) may.few

pub returns-in_err-commit-clause-leaves : goal.returns-in_err-commit-clause-leaves
returns-in_err-commit-clause-leaves g c =
    refused_leaves _ _ (create_tag c.args.repo.now c.args.name c.args.e.now (lake_value c.args.self.now.present)) _ _ refl _ _ c.from_residual.ensures.1
    (c.laws_of_causes.ensures.create_tag (state_of (lake_value c.self.inside.present)) c.args.repo.now c.args.name c.args.e.now _ c.in_err-commit.ensures)

pub returns-in_err-operation-clause-reply : goal.returns-in_err-operation-clause-reply
returns-in_err-operation-clause-reply g c =
    starved_found (state c.args.self.now) (create_tag_causes (state c.args.self.now) c.args.repo.now c.args.name c.args.e.now)
    (in_it (state c.args.self.now) c.args.repo.now (λ r. target_in r c.args.e.now))
    c.from_residual-in_err-operation.result c.from_residual-in_err-operation.ensures.1

pub returns-in_err-operation-clause-leaves : goal.returns-in_err-operation-clause-leaves
returns-in_err-operation-clause-leaves g c =
    let view : KeeperView _ = record { kept = g.K.Keeper.kept; faults = g.K.Keeper.faults; calls = g.K.Keeper.calls; successes = g.K.Keeper.successes } in
    let inside = c.self.inside in
    unready_leaves view inside.opened.value inside.present c.ready_create.new.lake inside.history.items inside.keeper c.args.self.now c.self.view_is
    c.ready_create.ensures.same c.args.by
    (create_tag c.args.repo.now c.args.name c.args.e.now (lake_value c.args.self.now.present)) c.from_residual-in_err-operation.result
    c.from_residual-in_err-operation.ensures.1
