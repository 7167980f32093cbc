use Rattle.std.proofs.Common.{ℕ, ◌+◌, ap, refl, ◌∙◌, subst, sym}
use Rattle.std.specs.Prelude.{Some}
use Rattle.lake_model.specs.Refusals.{GivesOrFails, first_cause}
use Rattle.lake_model.specs.Steps.{delete_branch_reply, delete_branch_causes}
use Rattle.core_state.specs.Counts.{AreFew}
use Rattle.core_state.specs.LakeStates.{lake_value, state_of}
use Rattle.core_changes.specs.LakeChanges.{after_branch_delete}
use Rattle.core_puts.specs.KeeperViews.{KeeperView}
use Rattle.lake_core.specs.Lakes.{state}
use Rattle.lake_core.specs.Makings.{delete_branch}
use Rattle.lake_core.proofs.FaultLemmas.{kept_made, kept_refused}
use Rattle.lake_core.proofs.PairLemmas.{kept_by, pairs_made, pairs_refused, same_places, with_places}
use Rattle.lake_core.proofs.StepLemmas.{accepted, as_before, at_present, holds_now, made_leaves, made_stands, refused_leaves, refused_reply, refused_stands}
use Rattle.lake_core.proofs.StepLemmas.{starved_leaves, starved_reply, unkept_leaves, unkept_reply}
use Rattle.lake_core.proofs.lake.Lake.delete_branch.Goals as goal

pub returns-in_err-test_delete_branch-clause-reply : goal.returns-in_err-test_delete_branch-clause-reply
returns-in_err-test_delete_branch-clause-reply g c =
    holds_now (λ s given. GivesOrFails c.from_residual.result (delete_branch_reply s c.args.repo.now c.args.name.now)) c.self.view_is
    c.self.invariant.stands.replayed
    (refused_reply (first_cause (delete_branch_causes (state_of (lake_value c.self.inside.present)) c.args.repo.now c.args.name.now))
    ((lake_value c.self.inside.present).entries + 1)
    (c.laws_of_causes.ensures.delete_branch (state_of (lake_value c.self.inside.present)) c.args.repo.now c.args.name.now) _ _ c.from_residual.ensures.1
    c.in_err-test_delete_branch.ensures)

pub keep-requires : goal.keep-requires
keep-requires g c =
    let none = c.in_ok-test_delete_branch.ensures in
    let may = c.laws_of_names.ensures.delete_branch _ _ _ c.args.by c.args.repo.now c.args.name.now c.self.invariant.stands none in
    record { few = may.few }

pub invariant_of-self : goal.invariant_of-self
invariant_of-self g c =
    let none = c.in_ok-test_delete_branch.ensures in
    let may = c.laws_of_names.ensures.delete_branch _ _ _ c.args.by c.args.repo.now c.args.name.now c.self.invariant.stands none in
    record {
      stands = refused_stands may _ _ _ _ _ _ c.self.invariant.stands c.in_ok-operation.ensures.operation refl refl c.in_err-keep.ensures.kept;
      keeper = kept_refused _ _ _ _ _ c.self.invariant.keeper _ _ c.in_err-keep.ensures.kept;
      pairs = pairs_refused c.self.invariant.stands may _ _ _ _ _ _ c.in_ok-operation.ensures.operation c.in_ok-operation.ensures.puts refl refl
          (same_places (c.in_err-keep.ensures.names))
          (kept_by _ _ (after_branch_delete c.args.repo.now c.args.name.now) _
          (c.laws_of_followed_names.ensures.delete_branch _ _ _ c.args.by c.args.repo.now c.args.name.now c.self.invariant.stands may))
          c.self.invariant.pairs c.in_err-keep.ensures.kept;
    }

pub returns-in_err-keep-clause-reply : goal.returns-in_err-keep-clause-reply
returns-in_err-keep-clause-reply g c =
    holds_now (λ s given. GivesOrFails c.from_residual-in_err-keep.result (delete_branch_reply s c.args.repo.now c.args.name.now)) c.self.view_is
    c.self.invariant.stands.replayed
    (unkept_reply _ _ _ _ _ _ (first_cause (delete_branch_causes (state_of (lake_value c.self.inside.present)) c.args.repo.now c.args.name.now))
    ((lake_value c.self.inside.present).entries + 1)
    (c.in_ok-test_delete_branch.ensures) _ _ c.from_residual-in_err-keep.ensures.1 c.in_err-keep.ensures.kept)

pub returns-in_err-keep-clause-leaves : goal.returns-in_err-keep-clause-leaves
returns-in_err-keep-clause-leaves g c =
    unkept_leaves _ _ (λ p. Some (delete_branch c.args.repo.now c.args.name.now (lake_value p)))
    ((delete_branch c.args.repo.now c.args.name.now (lake_value c.self.inside.present))) _ _ c.in_ok-operation.ensures.operation c.in_ok-operation.ensures.puts
    _ _ _ _ _ (record { keeper = c.keep.new.keeper; history = c.keep.new.history.items; present = c.keep.new.present }) refl (refl) _ c.self.view_is _ _
    c.from_residual-in_err-keep.ensures.1 c.in_err-keep.ensures.kept

pub invariant_of-self-2 : goal.invariant_of-self-2
invariant_of-self-2 g c =
    let none = c.in_ok-test_delete_branch.ensures in
    let may = c.laws_of_names.ensures.delete_branch _ _ _ c.args.by c.args.repo.now c.args.name.now c.self.invariant.stands none in
    record {
      stands = made_stands may _ _ _ c.in_ok-operation.ensures.operation c.in_ok-keep.ensures.kept.history
          (c.delete_branch.ensures.made ∙ ap (after_branch_delete c.args.repo.now c.args.name.now) (c.in_ok-keep.ensures.kept.present));
      keeper = kept_made _ _ _ _ _ c.self.invariant.keeper _ c.in_ok-keep.ensures.kept;
      pairs = pairs_made c.self.invariant.stands may _ _ _ _ _ c.in_ok-operation.ensures.puts
          (c.delete_branch.ensures.made ∙ ap (after_branch_delete c.args.repo.now c.args.name.now) (c.in_ok-keep.ensures.kept.present))
          (with_places _ _ (after_branch_delete c.args.repo.now c.args.name.now) _ _
          (c.laws_of_followed_names.ensures.delete_branch _ _ _ c.args.by c.args.repo.now c.args.name.now c.self.invariant.stands may)
          (same_places (c.delete_branch.ensures.names ∙ c.in_ok-keep.ensures.names)))
          c.self.invariant.pairs c.in_ok-keep.ensures.kept;
    }

pub returns-clause-reply : goal.returns-clause-reply
returns-clause-reply g c =
    accepted {X = ℕ} (c.in_ok-test_delete_branch.ensures) (c.place.ensures
    ∙ ap (λ l. l.entries) (c.delete_branch.ensures.made ∙ ap (after_branch_delete c.args.repo.now c.args.name.now) (c.in_ok-keep.ensures.kept.present)))
    ∙ at_present (λ s given. delete_branch_reply s c.args.repo.now c.args.name.now) c.self.view_is c.self.invariant.stands.replayed

pub returns-clause-leaves : goal.returns-clause-leaves
returns-clause-leaves g c =
    made_leaves _ _ (λ p. Some (delete_branch c.args.repo.now c.args.name.now (lake_value p)))
    ((delete_branch c.args.repo.now c.args.name.now (lake_value c.self.inside.present))) _ _ c.in_ok-operation.ensures.operation c.in_ok-operation.ensures.puts
    _ _ _ _ _ (record { keeper = c.keep.new.keeper; history = c.keep.new.history.items; present = c.keep.new.present }) refl (refl) _ c.self.view_is _
    c.in_ok-keep.ensures.kept
    (c.delete_branch.ensures.made ∙ ap (after_branch_delete c.args.repo.now c.args.name.now) (c.in_ok-keep.ensures.kept.present))

pub ready_delete-requires : goal.ready_delete-requires
ready_delete-requires g c =
    let none = c.in_ok-test_delete_branch.ensures in
    let may = c.laws_of_names.ensures.delete_branch _ _ _ c.args.by c.args.repo.now c.args.name.now c.self.invariant.stands none in
    c.laws_of_plain_names.ensures.delete_branch _ _ _ c.args.by c.args.repo.now c.args.name.now c.self.invariant.stands none

pub delete_branch-requires : goal.delete_branch-requires
delete_branch-requires g c =
    let none = c.in_ok-test_delete_branch.ensures in
    let may = c.laws_of_names.ensures.delete_branch _ _ _ c.args.by c.args.repo.now c.args.name.now c.self.invariant.stands none in
    record { few = subst AreFew (sym (c.in_ok-keep.ensures.kept.present)) may.few }

pub returns-in_err-test_delete_branch-clause-leaves : goal.returns-in_err-test_delete_branch-clause-leaves
returns-in_err-test_delete_branch-clause-leaves g c =
    refused_leaves _ _ (Some (delete_branch c.args.repo.now c.args.name.now (lake_value c.args.self.now.present))) _ _ refl _ _ c.from_residual.ensures.1
    (c.laws_of_causes.ensures.delete_branch (state_of (lake_value c.self.inside.present)) c.args.repo.now c.args.name.now _ c.in_err-test_delete_branch.ensures)

pub returns-in_err-operation-clause-reply : goal.returns-in_err-operation-clause-reply
returns-in_err-operation-clause-reply g c =
    starved_reply c.from_residual-in_err-operation.result (delete_branch_reply (state c.args.self.now) c.args.repo.now c.args.name.now)
    c.from_residual-in_err-operation.ensures.1

pub returns-in_err-operation-clause-leaves : goal.returns-in_err-operation-clause-leaves
returns-in_err-operation-clause-leaves g c =
    let view : KeeperView _ = record { kept = g.K.Keeper.kept; faults = g.K.Keeper.faults; calls = g.K.Keeper.calls; successes = g.K.Keeper.successes } in
    starved_leaves view c.args.self.now c.args.self.now c.args.by (Some (delete_branch c.args.repo.now c.args.name.now (lake_value c.args.self.now.present)))
    c.from_residual-in_err-operation.result c.from_residual-in_err-operation.ensures.1 (as_before view c.args.self.now c.args.self.now refl refl refl refl refl)
