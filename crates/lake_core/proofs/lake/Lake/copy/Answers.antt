use Rattle.std.proofs.Common.{ap, inl, inr, refl, ◌∙◌, subst, sym}
use Rattle.std.specs.Prelude.{Some, Ok, option_map, option_and_then}
use Rattle.lake_model.specs.Steps.{IsCopyReply, copied_entry, copy_causes}
use Rattle.core_causes.specs.Finding.{source_of}
use Rattle.core_state.specs.Counts.{AreFew}
use Rattle.core_state.specs.LakeStates.{lake_value, state_of}
use Rattle.core_standing.specs.Standing.{versions_since}
use Rattle.core_changes.specs.LakeChanges.{after_copy}
use Rattle.lake_core.specs.Makings.{copy, copy_making}
use Rattle.core_puts.specs.KeeperViews.{KeeperView}
use Rattle.lake_core.proofs.FaultLemmas.{kept_made, kept_refused}
use Rattle.lake_core.proofs.PairLemmas.{kept_by, pairs_made, pairs_refused, same_places, with_places}
use Rattle.lake_core.proofs.StepLemmas.{holds_now, made_leaves, made_stands, refused_stands, unkept_found, unkept_leaves, untested_leaves, untested_found}
use Rattle.lake_core.proofs.lake.Lake.copy.Goals as goal

pub ready_copy-requires : goal.ready_copy-requires
ready_copy-requires g c = c.law_of_copies.ensures.sound _ _ _ c.self.invariant.stands

pub returns-in_err-ready-clause-reply : goal.returns-in_err-ready-clause-reply
returns-in_err-ready-clause-reply g c =
    holds_now (λ s given. IsCopyReply s given c.args.repo.now c.args.branch.now c.args.version c.args.e.now c.args.from.now c.from_residual.result)
    c.self.view_is c.self.invariant.stands.replayed
    (untested_found (state_of (lake_value c.self.inside.present)) (copy_causes (state_of (lake_value c.self.inside.present))
    (versions_since (lake_value c.self.inside.opened.value) c.self.inside.history.items) c.args.repo.now c.args.branch.now
    c.args.version c.args.e.now c.args.from.now) (copied_entry (state_of (lake_value c.self.inside.present)) c.args.repo.now c.args.e.now c.args.from.now)
    (c.law_of_copies.ensures.refused (state_of (lake_value c.self.inside.present)) (versions_since (lake_value c.self.inside.opened.value)
    c.self.inside.history.items) c.args.repo.now c.args.branch.now c.args.version c.args.e.now c.args.from.now)
    c.from_residual.result _ c.from_residual.ensures.1
    (elim (c.in_err-ready.ensures.tells (versions_since (lake_value c.self.inside.opened.value) c.self.inside.history.items) c.self.invariant.stands.versions)
    [ inl memory ↦ inl memory | inr is ↦ inr is.0 ]))

pub returns-in_err-ready-clause-leaves : goal.returns-in_err-ready-clause-leaves
returns-in_err-ready-clause-leaves g c =
    let view : KeeperView _ = record { kept = g.K.Keeper.kept; faults = g.K.Keeper.faults; calls = g.K.Keeper.calls; successes = g.K.Keeper.successes } in
    let inside = c.self.inside in
    untested_leaves view inside.opened.value inside.present c.ready_copy.new.lake inside.history.items inside.keeper c.args.self.now c.self.view_is
    c.in_err-ready.ensures.same c.args.by
    (copy c.args.repo.now c.args.branch.now c.args.path c.args.e.now c.args.from.now (lake_value c.args.self.now.present)) c.from_residual.result _
    c.from_residual.ensures.1
    (elim (c.in_err-ready.ensures.tells (versions_since (lake_value c.self.inside.opened.value) c.self.inside.history.items) c.self.invariant.stands.versions) [
      | inl memory ↦ inl memory
      | inr is ↦ inr (
        c.law_of_copies.ensures.refused (state_of (lake_value c.self.inside.present)) (versions_since (lake_value c.self.inside.opened.value)
            c.self.inside.history.items) c.args.repo.now c.args.branch.now c.args.version c.args.e.now c.args.from.now _ is.0,
        is.1,
      )
    ])

pub keep-requires : goal.keep-requires
keep-requires g c =
    let found = c.in_ok-ready.ensures.tells (versions_since (lake_value c.self.inside.opened.value) c.self.inside.history.items)
    c.self.invariant.stands.versions in
    let may = c.law_of_copies.ensures.may _ _ _ c.args.by c.args.repo.now c.args.branch.now c.args.version c.args.path c.args.e.now c.args.from.now
    c.in_ok-ready.ready.entry found.1.tested.commit c.self.invariant.stands found.0 found.1.tested.finds in
    record { few = subst AreFew (sym c.in_ok-ready.ensures.same) may.few }

pub invariant_of-self-in_err-keep : goal.invariant_of-self-in_err-keep
invariant_of-self-in_err-keep g c =
    let found = c.in_ok-ready.ensures.tells (versions_since (lake_value c.self.inside.opened.value) c.self.inside.history.items)
    c.self.invariant.stands.versions in
    let may = c.law_of_copies.ensures.may _ _ _ c.args.by c.args.repo.now c.args.branch.now c.args.version c.args.path c.args.e.now c.args.from.now
    c.in_ok-ready.ready.entry found.1.tested.commit c.self.invariant.stands found.0 found.1.tested.finds in
    record {
      stands = refused_stands may _ _ _ _ _ _ c.self.invariant.stands found.1.tested.operation refl c.in_ok-ready.ensures.same c.in_err-keep.ensures.kept;
      keeper = kept_refused _ _ _ _ _ c.self.invariant.keeper _ _ c.in_err-keep.ensures.kept;
      pairs = pairs_refused c.self.invariant.stands may _ _ _ _ _ _ found.1.tested.operation found.1.puts refl c.in_ok-ready.ensures.same
          (same_places (c.in_err-keep.ensures.names ∙ c.in_ok-ready.ensures.names))
          (kept_by _ _ (after_copy c.args.repo.now c.args.branch.now c.args.path c.in_ok-ready.ready.entry) _
          (c.laws_of_followed_writes.ensures.copy _ _ _ c.args.by c.args.repo.now c.args.branch.now c.args.path _ c.args.from.now c.in_ok-ready.ready.entry
          c.self.invariant.stands may c.in_ok-ready.ensures.limits))
          c.self.invariant.pairs c.in_err-keep.ensures.kept;
    }

pub returns-in_err-keep-clause-reply : goal.returns-in_err-keep-clause-reply
returns-in_err-keep-clause-reply g c =
    holds_now (λ s given. IsCopyReply s given c.args.repo.now c.args.branch.now c.args.version c.args.e.now c.args.from.now c.from_residual-in_err-keep.result)
    c.self.view_is c.self.invariant.stands.replayed
    (unkept_found _ _ _ _ _ _ (state_of (lake_value c.self.inside.present)) (copy_causes (state_of (lake_value c.self.inside.present))
    (versions_since (lake_value c.self.inside.opened.value) c.self.inside.history.items) c.args.repo.now c.args.branch.now
    c.args.version c.args.e.now c.args.from.now) (copied_entry (state_of (lake_value c.self.inside.present)) c.args.repo.now c.args.e.now c.args.from.now)
    (c.in_ok-ready.ensures.tells (versions_since (lake_value c.self.inside.opened.value) c.self.inside.history.items) c.self.invariant.stands.versions).0 _ _
    c.from_residual-in_err-keep.ensures.1 c.in_err-keep.ensures.kept)

pub returns-in_err-keep-clause-leaves : goal.returns-in_err-keep-clause-leaves
returns-in_err-keep-clause-leaves g c =
    let found = c.in_ok-ready.ensures.tells (versions_since (lake_value c.self.inside.opened.value) c.self.inside.history.items)
    c.self.invariant.stands.versions in
    unkept_leaves _ _ (λ p. copy c.args.repo.now c.args.branch.now c.args.path c.args.e.now c.args.from.now (lake_value p))
    (copy_making c.args.repo.now c.args.branch.now c.args.path (source_of c.args.e.now.name found.1.tested.commit) c.args.from.now c.in_ok-ready.ready.entry
    (lake_value c.self.inside.present)) _ _ found.1.tested.operation found.1.puts
    _ _ _ _ _ (record { keeper = c.keep.new.keeper; history = c.keep.new.history.items; present = c.keep.new.present })
    c.in_ok-ready.ensures.same (ap (option_and_then
    (λ source. option_map (λ x. copy_making c.args.repo.now c.args.branch.now c.args.path source c.args.from.now x (lake_value c.self.inside.present))
    (copied_entry (state_of (lake_value c.self.inside.present)) c.args.repo.now c.args.e.now c.args.from.now))) found.1.tested.finds.source
    ∙ ap (option_map (λ x. copy_making c.args.repo.now c.args.branch.now c.args.path (source_of c.args.e.now.name found.1.tested.commit) c.args.from.now x
    (lake_value c.self.inside.present))) found.1.tested.finds.found) _ c.self.view_is _ _ c.from_residual-in_err-keep.ensures.1 c.in_err-keep.ensures.kept

pub copy-requires-clause-few : goal.copy-requires-clause-few
copy-requires-clause-few g c =
    let found = c.in_ok-ready.ensures.tells (versions_since (lake_value c.self.inside.opened.value) c.self.inside.history.items)
    c.self.invariant.stands.versions in
    let may = c.law_of_copies.ensures.may _ _ _ c.args.by c.args.repo.now c.args.branch.now c.args.version c.args.path c.args.e.now c.args.from.now
    c.in_ok-ready.ready.entry found.1.tested.commit c.self.invariant.stands found.0 found.1.tested.finds in
    subst AreFew (sym (c.in_ok-keep.ensures.kept.present ∙ c.in_ok-ready.ensures.same)) may.few

pub invariant_of-self-2 : goal.invariant_of-self-2
invariant_of-self-2 g c =
    let found = c.in_ok-ready.ensures.tells (versions_since (lake_value c.self.inside.opened.value) c.self.inside.history.items)
    c.self.invariant.stands.versions in
    let may = c.law_of_copies.ensures.may _ _ _ c.args.by c.args.repo.now c.args.branch.now c.args.version c.args.path c.args.e.now c.args.from.now
    c.in_ok-ready.ready.entry found.1.tested.commit c.self.invariant.stands found.0 found.1.tested.finds in
    record {
      stands = made_stands may _ _ _ found.1.tested.operation c.in_ok-keep.ensures.kept.history
          (c.copy.ensures.made ∙ ap (after_copy c.args.repo.now c.args.branch.now c.args.path c.in_ok-ready.ready.entry)
          (c.in_ok-keep.ensures.kept.present ∙ c.in_ok-ready.ensures.same));
      keeper = kept_made _ _ _ _ _ c.self.invariant.keeper _ c.in_ok-keep.ensures.kept;
      pairs = pairs_made c.self.invariant.stands may _ _ _ _ _ found.1.puts
          (c.copy.ensures.made ∙ ap (after_copy c.args.repo.now c.args.branch.now c.args.path c.in_ok-ready.ready.entry) (c.in_ok-keep.ensures.kept.present
          ∙ c.in_ok-ready.ensures.same))
          (with_places _ _ (after_copy c.args.repo.now c.args.branch.now c.args.path c.in_ok-ready.ready.entry) _ _
          (c.laws_of_followed_writes.ensures.copy _ _ _ c.args.by c.args.repo.now c.args.branch.now c.args.path _ c.args.from.now c.in_ok-ready.ready.entry
          c.self.invariant.stands may c.in_ok-ready.ensures.limits)
          (same_places (c.copy.ensures.names ∙ c.in_ok-keep.ensures.names ∙ c.in_ok-ready.ensures.names)))
          c.self.invariant.pairs c.in_ok-keep.ensures.kept;
    }

pub returns-clause-reply : goal.returns-clause-reply
returns-clause-reply g c =
    let found = c.in_ok-ready.ensures.tells (versions_since (lake_value c.self.inside.opened.value) c.self.inside.history.items)
    c.self.invariant.stands.versions in
    holds_now (λ s given. IsCopyReply s given c.args.repo.now c.args.branch.now c.args.version c.args.e.now c.args.from.now
    (Ok (c.place.result, c.in_ok-ready.ready.answer))) c.self.view_is c.self.invariant.stands.replayed (
      found.0,
      (
        c.place.ensures ∙ ap (λ l. l.entries) (c.copy.ensures.made ∙ ap (after_copy c.args.repo.now c.args.branch.now c.args.path c.in_ok-ready.ready.entry)
            (c.in_ok-keep.ensures.kept.present ∙ c.in_ok-ready.ensures.same)),
        found.1.tested.finds.found ∙ ap Some (sym found.1.tested.answer),
      ),
    )

pub returns-clause-leaves : goal.returns-clause-leaves
returns-clause-leaves g c =
    let found = c.in_ok-ready.ensures.tells (versions_since (lake_value c.self.inside.opened.value) c.self.inside.history.items)
    c.self.invariant.stands.versions in
    made_leaves _ _ (λ p. copy c.args.repo.now c.args.branch.now c.args.path c.args.e.now c.args.from.now (lake_value p))
    (copy_making c.args.repo.now c.args.branch.now c.args.path (source_of c.args.e.now.name found.1.tested.commit) c.args.from.now c.in_ok-ready.ready.entry
    (lake_value c.self.inside.present)) _ _ found.1.tested.operation found.1.puts
    _ _ _ _ _ (record { keeper = c.keep.new.keeper; history = c.keep.new.history.items; present = c.keep.new.present })
    c.in_ok-ready.ensures.same (ap (option_and_then
    (λ source. option_map (λ x. copy_making c.args.repo.now c.args.branch.now c.args.path source c.args.from.now x (lake_value c.self.inside.present))
    (copied_entry (state_of (lake_value c.self.inside.present)) c.args.repo.now c.args.e.now c.args.from.now))) found.1.tested.finds.source
    ∙ ap (option_map (λ x. copy_making c.args.repo.now c.args.branch.now c.args.path (source_of c.args.e.now.name found.1.tested.commit) c.args.from.now x
    (lake_value c.self.inside.present))) found.1.tested.finds.found) _ c.self.view_is _ c.in_ok-keep.ensures.kept
    (c.copy.ensures.made ∙ ap (after_copy c.args.repo.now c.args.branch.now c.args.path c.in_ok-ready.ready.entry)
    (c.in_ok-keep.ensures.kept.present ∙ c.in_ok-ready.ensures.same))
