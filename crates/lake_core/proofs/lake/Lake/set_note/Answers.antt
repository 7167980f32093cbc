use Rattle.std.proofs.Common.{ℕ, ◌+◌, ap, refl, ◌∙◌, subst, sym}
use Rattle.std.specs.Prelude.{Some}
use Rattle.lake_model.specs.Refusals.{GivesOrFails, first_cause}
use Rattle.lake_model.specs.Steps.{set_note_reply, set_note_causes}
use Rattle.core_state.specs.Counts.{AreFew}
use Rattle.core_state.specs.LakeStates.{lake_value, state_of}
use Rattle.core_standing.specs.Standing.{versions_since}
use Rattle.core_changes.specs.LakeChanges.{after_note_set}
use Rattle.core_puts.specs.KeeperViews.{KeeperView}
use Rattle.lake_core.specs.Lakes.{state, versions}
use Rattle.lake_core.specs.Makings.{set_note}
use Rattle.lake_core.proofs.FaultLemmas.{kept_made, kept_refused}
use Rattle.lake_core.proofs.PairLemmas.{kept_by, pairs_made, pairs_refused, same_places, with_places}
use Rattle.lake_core.proofs.StepLemmas.{accepted, as_before, at_present, holds_now, made_leaves, made_stands, refused_leaves, refused_reply, refused_stands}
use Rattle.lake_core.proofs.StepLemmas.{starved_leaves, starved_reply, unkept_leaves, unkept_reply}
use Rattle.lake_core.proofs.lake.Lake.set_note.Goals as goal

pub returns-in_err-test_set_note-clause-reply : goal.returns-in_err-test_set_note-clause-reply
returns-in_err-test_set_note-clause-reply g c =
    holds_now (λ s given. GivesOrFails c.from_residual.result (set_note_reply s given c.args.repo.now c.args.expected c.args.name c.args.note)) c.self.view_is
    c.self.invariant.stands.replayed
    (refused_reply (first_cause (set_note_causes (state_of (lake_value c.self.inside.present))
    (versions_since (lake_value c.self.inside.opened.value) c.self.inside.history.items) c.args.repo.now c.args.expected c.args.name c.args.note))
    ((lake_value c.self.inside.present).entries + 1) (c.laws_of_causes.ensures.set_note (state_of (lake_value c.self.inside.present))
    (versions_since (lake_value c.self.inside.opened.value) c.self.inside.history.items) c.args.repo.now c.args.expected c.args.name c.args.note) _ _
    c.from_residual.ensures.1
    (c.in_err-test_set_note.ensures _ c.self.invariant.stands.versions))

pub keep-requires : goal.keep-requires
keep-requires g c =
    let none = c.in_ok-test_set_note.ensures _ c.self.invariant.stands.versions in
    let may = c.law_of_settings.ensures _ _ _ c.args.by c.args.repo.now c.args.expected c.args.name c.args.note c.self.invariant.stands none c.requires.name in
    record { few = may.few }

pub invariant_of-self : goal.invariant_of-self
invariant_of-self g c =
    let none = c.in_ok-test_set_note.ensures _ c.self.invariant.stands.versions in
    let may = c.law_of_settings.ensures _ _ _ c.args.by c.args.repo.now c.args.expected c.args.name c.args.note c.self.invariant.stands none c.requires.name in
    record {
      stands = refused_stands may _ _ _ _ _ _ c.self.invariant.stands c.in_ok-operation.ensures.ready.operation refl refl c.in_err-keep.ensures.kept;
      keeper = kept_refused _ _ _ _ _ c.self.invariant.keeper _ _ c.in_err-keep.ensures.kept;
      pairs = pairs_refused c.self.invariant.stands may _ _ _ _ _ _ c.in_ok-operation.ensures.ready.operation c.in_ok-operation.ensures.ready.puts refl refl
          (same_places (c.in_err-keep.ensures.names))
          (kept_by _ _ (after_note_set c.args.repo.now c.args.name c.args.note) _
          (c.laws_of_followed_names.ensures.set_note _ _ _ c.args.by c.args.repo.now c.args.name c.args.note c.self.invariant.stands may
          c.in_ok-operation.ensures.limits))
          c.self.invariant.pairs c.in_err-keep.ensures.kept;
    }

pub returns-in_err-keep-clause-reply : goal.returns-in_err-keep-clause-reply
returns-in_err-keep-clause-reply g c =
    holds_now (λ s given. GivesOrFails c.from_residual-in_err-keep.result (set_note_reply s given c.args.repo.now c.args.expected c.args.name c.args.note))
    c.self.view_is c.self.invariant.stands.replayed
    (unkept_reply _ _ _ _ _ _ (first_cause (set_note_causes (state_of (lake_value c.self.inside.present))
    (versions_since (lake_value c.self.inside.opened.value) c.self.inside.history.items) c.args.repo.now c.args.expected c.args.name c.args.note))
    ((lake_value c.self.inside.present).entries + 1)
    (c.in_ok-test_set_note.ensures _ c.self.invariant.stands.versions) _ _ c.from_residual-in_err-keep.ensures.1 c.in_err-keep.ensures.kept)

pub returns-in_err-keep-clause-leaves : goal.returns-in_err-keep-clause-leaves
returns-in_err-keep-clause-leaves g c =
    unkept_leaves _ _ (λ p. Some (set_note c.args.repo.now c.args.name c.args.note (lake_value p)))
    ((set_note c.args.repo.now c.args.name c.args.note (lake_value c.self.inside.present))) _ _ c.in_ok-operation.ensures.ready.operation
    c.in_ok-operation.ensures.ready.puts
    _ _ _ _ _ (record { keeper = c.keep.new.keeper; history = c.keep.new.history.items; present = c.keep.new.present }) refl (refl) _ c.self.view_is _ _
    c.from_residual-in_err-keep.ensures.1 c.in_err-keep.ensures.kept

pub invariant_of-self-2 : goal.invariant_of-self-2
invariant_of-self-2 g c =
    let none = c.in_ok-test_set_note.ensures _ c.self.invariant.stands.versions in
    let may = c.law_of_settings.ensures _ _ _ c.args.by c.args.repo.now c.args.expected c.args.name c.args.note c.self.invariant.stands none c.requires.name in
    record {
      stands = made_stands may _ _ _ c.in_ok-operation.ensures.ready.operation c.in_ok-keep.ensures.kept.history
          (c.set_note.ensures.made ∙ ap (after_note_set c.args.repo.now c.args.name c.args.note) (c.in_ok-keep.ensures.kept.present));
      keeper = kept_made _ _ _ _ _ c.self.invariant.keeper _ c.in_ok-keep.ensures.kept;
      pairs = pairs_made c.self.invariant.stands may _ _ _ _ _ c.in_ok-operation.ensures.ready.puts
          (c.set_note.ensures.made ∙ ap (after_note_set c.args.repo.now c.args.name c.args.note) (c.in_ok-keep.ensures.kept.present))
          (with_places _ _ (after_note_set c.args.repo.now c.args.name c.args.note) _ _
          (c.laws_of_followed_names.ensures.set_note _ _ _ c.args.by c.args.repo.now c.args.name c.args.note c.self.invariant.stands may
          c.in_ok-operation.ensures.limits)
          (same_places (c.set_note.ensures.names ∙ c.in_ok-keep.ensures.names)))
          c.self.invariant.pairs c.in_ok-keep.ensures.kept;
    }

pub returns-clause-reply : goal.returns-clause-reply
returns-clause-reply g c =
    accepted {X = ℕ} (c.in_ok-test_set_note.ensures _ c.self.invariant.stands.versions) (c.place.ensures
    ∙ ap (λ l. l.entries) (c.set_note.ensures.made ∙ ap (after_note_set c.args.repo.now c.args.name c.args.note) (c.in_ok-keep.ensures.kept.present)))
    ∙ at_present (λ s given. set_note_reply s given c.args.repo.now c.args.expected c.args.name c.args.note) c.self.view_is c.self.invariant.stands.replayed

pub returns-clause-leaves : goal.returns-clause-leaves
returns-clause-leaves g c =
    made_leaves _ _ (λ p. Some (set_note c.args.repo.now c.args.name c.args.note (lake_value p)))
    ((set_note c.args.repo.now c.args.name c.args.note (lake_value c.self.inside.present))) _ _ c.in_ok-operation.ensures.ready.operation
    c.in_ok-operation.ensures.ready.puts
    _ _ _ _ _ (record { keeper = c.keep.new.keeper; history = c.keep.new.history.items; present = c.keep.new.present }) refl (refl) _ c.self.view_is _
    c.in_ok-keep.ensures.kept
    (c.set_note.ensures.made ∙ ap (after_note_set c.args.repo.now c.args.name c.args.note) (c.in_ok-keep.ensures.kept.present))

pub ready_note-requires : goal.ready_note-requires
ready_note-requires g c =
    let none = c.in_ok-test_set_note.ensures _ c.self.invariant.stands.versions in
    let may = c.law_of_settings.ensures _ _ _ c.args.by c.args.repo.now c.args.expected c.args.name c.args.note c.self.invariant.stands none c.requires.name in
    record {
      name = c.requires.name;
      text = c.requires.text;
      plain = c.laws_of_plain_names.ensures.default_branch _ _ _ c.args.repo.now c.self.invariant.stands;
      few = may.few;
    }

pub set_note-requires : goal.set_note-requires
set_note-requires g c =
    let none = c.in_ok-test_set_note.ensures _ c.self.invariant.stands.versions in
    let may = c.law_of_settings.ensures _ _ _ c.args.by c.args.repo.now c.args.expected c.args.name c.args.note c.self.invariant.stands none c.requires.name in
    record { few = subst AreFew (sym (c.in_ok-keep.ensures.kept.present)) may.few }

pub returns-in_err-test_set_note-clause-leaves : goal.returns-in_err-test_set_note-clause-leaves
returns-in_err-test_set_note-clause-leaves g c =
    refused_leaves _ _ (Some (set_note c.args.repo.now c.args.name c.args.note (lake_value c.args.self.now.present))) _ _ refl _ _ c.from_residual.ensures.1
    (c.laws_of_causes.ensures.set_note (state_of (lake_value c.self.inside.present)) (versions_since (lake_value c.self.inside.opened.value)
    c.self.inside.history.items) c.args.repo.now c.args.expected c.args.name c.args.note _ (c.in_err-test_set_note.ensures _ c.self.invariant.stands.versions))

pub returns-in_err-operation-clause-reply : goal.returns-in_err-operation-clause-reply
returns-in_err-operation-clause-reply g c =
    starved_reply c.from_residual-in_err-operation.result (set_note_reply (state c.args.self.now)
    (versions c.args.self.now) c.args.repo.now c.args.expected c.args.name c.args.note) c.from_residual-in_err-operation.ensures.1

pub returns-in_err-operation-clause-leaves : goal.returns-in_err-operation-clause-leaves
returns-in_err-operation-clause-leaves g c =
    let view : KeeperView _ = record { kept = g.K.Keeper.kept; faults = g.K.Keeper.faults; calls = g.K.Keeper.calls; successes = g.K.Keeper.successes } in
    starved_leaves view c.args.self.now c.args.self.now c.args.by (Some (set_note c.args.repo.now c.args.name c.args.note (lake_value c.args.self.now.present)))
    c.from_residual-in_err-operation.result c.from_residual-in_err-operation.ensures.1 (as_before view c.args.self.now c.args.self.now refl refl refl refl refl)
