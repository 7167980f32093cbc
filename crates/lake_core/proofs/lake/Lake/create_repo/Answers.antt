use Rattle.std.proofs.Common.{ap, inl, inr, refl, ◌∙◌, subst, sym}
use Rattle.std.specs.Prelude.{Ok, Some}
use Rattle.lake_model.specs.Steps.{IsCreateRepositoryReply}
use Rattle.core_changes.specs.NewPlaces.{HaveSamePlaces}
use Rattle.core_commits.proofs.PlacesLeftLemmas.{index_named}
use Rattle.core_state.specs.Counts.{AreFew}
use Rattle.core_state.specs.Index.{HasIndex}
use Rattle.core_standing.specs.Standing.{Stands}
use Rattle.core_state.specs.LakeStates.{LakeStateValue, lake_value, state_of}
use Rattle.core_state.specs.declared.names.NameIndex.{NameIndex}
use Rattle.core_puts.specs.KeeperViews.{KeeperView}
use Rattle.lake_core.specs.Makings.{create_repo}
use Rattle.lake_core.proofs.FaultLemmas.{kept_made, kept_refused}
use Rattle.lake_core.proofs.PairLemmas.{pairs_made, pairs_ready, pairs_refused}
use Rattle.lake_core.proofs.RepositoryLemmas.{creation_fault, made_creation, new_places, refused_creation, repository_made, unkept_creation}
use Rattle.lake_core.proofs.StepLemmas.{holds_now, made_leaves, made_stands, refused_stands, unkept_leaves, untested_leaves}
use Rattle.lake_core.proofs.lake.Lake.create_repo.Goals as goal

pub ready_repository-requires : goal.ready_repository-requires
ready_repository-requires g c = record {
  plain = c.requires;
  sound = c.law_of_present.ensures _ _ _ c.self.invariant.stands;
  index = c.self.invariant.stands.index;
  few =
      λ clash there none. (c.law_of_repository.ensures _ _ _ c.args.by c.args.repo c.args.branch c.args.date clash c.self.invariant.stands none there
      c.requires).few;
}

pub invariant_of-self : goal.invariant_of-self
invariant_of-self g c =
    let same = c.ready_repository.ensures.same in
    record {
      stands = subst (λ (l : LakeStateValue). Stands (lake_value c.self.inside.opened.value) c.self.inside.history.items l) (sym same) c.self.invariant.stands;
      keeper = c.self.invariant.keeper;
      pairs = pairs_ready _ _ _ _ _ _ _ same c.ready_repository.ensures.places c.self.invariant.pairs;
    }

pub returns-in_err-ready-clause-reply : goal.returns-in_err-ready-clause-reply
returns-in_err-ready-clause-reply g c =
    let l = lake_value c.self.inside.present in
    holds_now (λ s given. IsCreateRepositoryReply s c.args.repo c.args.branch c.args.date c.from_residual.result) c.self.view_is
    c.self.invariant.stands.replayed
    (refused_creation (state_of l) c.args.repo c.args.branch c.args.date _ c.in_err-ready.ensures.asks
    (λ clash. c.laws_of_causes.ensures.create_repository (state_of l) c.args.repo clash) c.from_residual.result c.from_residual.ensures.1)

pub returns-in_err-ready-clause-leaves : goal.returns-in_err-ready-clause-leaves
returns-in_err-ready-clause-leaves g c =
    let view : KeeperView _ = record { kept = g.K.Keeper.kept; faults = g.K.Keeper.faults; calls = g.K.Keeper.calls; successes = g.K.Keeper.successes } in
    let inside = c.self.inside in
    let l = lake_value inside.present in
    untested_leaves view inside.opened.value inside.present c.ready_repository.new.lake inside.history.items inside.keeper c.args.self.now c.self.view_is
    c.in_err-ready.ensures.same c.args.by
    (Some (create_repo c.args.repo c.args.branch c.args.date (lake_value c.args.self.now.present))) c.from_residual.result _ c.from_residual.ensures.1
    (elim c.in_err-ready.ensures.refused [
      | inl memory ↦ inl memory
      | inr same ↦ elim (creation_fault (state_of l) c.args.repo c.args.branch c.args.date _ c.in_err-ready.ensures.asks
          (λ clash. c.laws_of_causes.ensures.create_repository (state_of l) c.args.repo clash)) [
            | inl memory ↦ inl memory
            | inr refusal ↦ inr (refusal, same)
          ]
    ])

pub keep-requires : goal.keep-requires
keep-requires g c =
    let asks = c.in_ok-ready.ensures.asks in
    let may = c.law_of_repository.ensures _ _ _ c.args.by c.args.repo c.args.branch c.args.date asks.clash c.self.invariant.stands asks.tells asks.there
    c.requires in
    record { few = subst AreFew (sym c.in_ok-ready.ensures.same) may.few }

pub invariant_of-self-in_err-keep : goal.invariant_of-self-in_err-keep
invariant_of-self-in_err-keep g c =
    let l = lake_value c.self.inside.present in
    let asks = c.in_ok-ready.ensures.asks in
    let may = c.law_of_repository.ensures _ _ _ c.args.by c.args.repo c.args.branch c.args.date asks.clash c.self.invariant.stands asks.tells asks.there
    c.requires in
    let ready = c.in_ok-ready.ensures.ready in
    record {
      stands = refused_stands may _ _ _ _ _ _ c.self.invariant.stands ready.operation refl c.in_ok-ready.ensures.same c.in_err-keep.ensures.kept;
      keeper = kept_refused _ _ _ _ _ c.self.invariant.keeper _ _ c.in_err-keep.ensures.kept;
      pairs = pairs_refused c.self.invariant.stands may _ _ _ _ _ _ ready.operation ready.puts refl c.in_ok-ready.ensures.same
          (subst (λ (i : NameIndex). HaveSamePlaces c.self.inside.present.names.files i.files) (sym c.in_err-keep.ensures.names) c.in_ok-ready.ensures.places)
          (λ pairs follow. c.laws_of_followed_repositories.ensures.kept _ _ l c.args.by c.args.repo c.args.branch c.args.date c.self.invariant.stands may
          c.in_ok-ready.ensures.limits pairs follow.kept)
          c.self.invariant.pairs c.in_err-keep.ensures.kept;
    }

pub returns-in_err-keep-clause-reply : goal.returns-in_err-keep-clause-reply
returns-in_err-keep-clause-reply g c =
    let l = lake_value c.self.inside.present in
    let asks = c.in_ok-ready.ensures.asks in
    holds_now (λ s given. IsCreateRepositoryReply s c.args.repo c.args.branch c.args.date c.from_residual-in_err-keep.result) c.self.view_is
    c.self.invariant.stands.replayed
    (unkept_creation (state_of l) c.args.repo c.args.branch c.args.date _ _ _ _ _ _ c.in_ok-ready.ready asks c.from_residual-in_err-keep.result _
    c.from_residual-in_err-keep.ensures.1 c.in_err-keep.ensures.kept)

pub returns-in_err-keep-clause-leaves : goal.returns-in_err-keep-clause-leaves
returns-in_err-keep-clause-leaves g c =
    let l = lake_value c.self.inside.present in
    let ready = c.in_ok-ready.ensures.ready in
    unkept_leaves _ _ (λ p. Some (create_repo c.args.repo c.args.branch c.args.date (lake_value p)))
    (create_repo c.args.repo c.args.branch c.args.date l) _ _ ready.operation ready.puts
    _ _ _ _ _ (record { keeper = c.keep.new.keeper; history = c.keep.new.history.items; present = c.keep.new.present }) c.in_ok-ready.ensures.same refl _
    c.self.view_is _ _
    c.from_residual-in_err-keep.ensures.1 c.in_err-keep.ensures.kept

pub create_repository-requires-clause-few : goal.create_repository-requires-clause-few
create_repository-requires-clause-few g c =
    let asks = c.in_ok-ready.ensures.asks in
    let may = c.law_of_repository.ensures _ _ _ c.args.by c.args.repo c.args.branch c.args.date asks.clash c.self.invariant.stands asks.tells asks.there
    c.requires in
    let now = c.in_ok-keep.ensures.kept.present ∙ c.in_ok-ready.ensures.same in
    subst AreFew (sym now) may.few

pub invariant_of-self-2 : goal.invariant_of-self-2
invariant_of-self-2 g c =
    let l = lake_value c.self.inside.present in
    let asks = c.in_ok-ready.ensures.asks in
    let may = c.law_of_repository.ensures _ _ _ c.args.by c.args.repo c.args.branch c.args.date asks.clash c.self.invariant.stands asks.tells asks.there
    c.requires in
    let ready = c.in_ok-ready.ensures.ready in
    let now = c.in_ok-keep.ensures.kept.present ∙ c.in_ok-ready.ensures.same in
    let changed = repository_made c.args.repo c.args.branch c.args.date l _ _ c.in_ok-ready.ready now c.in_ok-ready.ensures.ready
    c.create_repository.ensures.made in
    let room = subst (λ (i : NameIndex). HaveSamePlaces c.self.inside.present.names.files i.files) (sym c.in_ok-keep.ensures.names)
    c.in_ok-ready.ensures.places in
    let named = index_named c.keep.new.present (subst HasIndex (sym now) c.self.invariant.stands.index) in
    let places = new_places c.args.repo c.args.branch c.args.date l _ c.in_ok-ready.ready _ _ _ now c.in_ok-ready.ensures.ready c.in_ok-ready.ensures.kind
    named room c.create_repository.ensures.places in
    record {
      stands = made_stands may _ _ _ ready.operation c.in_ok-keep.ensures.kept.history changed;
      keeper = kept_made _ _ _ _ _ c.self.invariant.keeper _ c.in_ok-keep.ensures.kept;
      pairs = pairs_made c.self.invariant.stands may _ _ _ _ _ ready.puts changed
          (λ pairs follow. c.laws_of_followed_repositories.ensures.followed _ _ l c.args.by c.args.repo c.args.branch c.args.date c.self.invariant.stands may
          c.in_ok-ready.ensures.limits pairs _ _ follow places)
          c.self.invariant.pairs c.in_ok-keep.ensures.kept;
    }

pub returns-clause-reply : goal.returns-clause-reply
returns-clause-reply g c =
    let l = lake_value c.self.inside.present in
    let asks = c.in_ok-ready.ensures.asks in
    let now = c.in_ok-keep.ensures.kept.present ∙ c.in_ok-ready.ensures.same in
    let changed = repository_made c.args.repo c.args.branch c.args.date l _ _ c.in_ok-ready.ready now c.in_ok-ready.ensures.ready
    c.create_repository.ensures.made in
    holds_now (λ s given. IsCreateRepositoryReply s c.args.repo c.args.branch c.args.date (Ok c.place.result)) c.self.view_is c.self.invariant.stands.replayed
    (made_creation (state_of l) c.args.repo c.args.branch c.args.date c.in_ok-ready.ready asks c.place.result (c.place.ensures ∙ ap (λ m. m.entries) changed))

pub returns-clause-leaves : goal.returns-clause-leaves
returns-clause-leaves g c =
    let l = lake_value c.self.inside.present in
    let ready = c.in_ok-ready.ensures.ready in
    let now = c.in_ok-keep.ensures.kept.present ∙ c.in_ok-ready.ensures.same in
    let changed = repository_made c.args.repo c.args.branch c.args.date l _ _ c.in_ok-ready.ready now c.in_ok-ready.ensures.ready
    c.create_repository.ensures.made in
    made_leaves _ _ (λ p. Some (create_repo c.args.repo c.args.branch c.args.date (lake_value p)))
    (create_repo c.args.repo c.args.branch c.args.date l) _ _ ready.operation ready.puts
    _ _ _ _ _ (record { keeper = c.keep.new.keeper; history = c.keep.new.history.items; present = c.keep.new.present }) c.in_ok-ready.ensures.same refl _
    c.self.view_is _ c.in_ok-keep.ensures.kept
    changed
