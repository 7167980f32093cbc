use Rattle.std.proofs.Common.{refl, ap, subst, sym, ◌∙◌}
use Rattle.std.specs.Prelude.{IsSomeAnd}
use Rattle.meta_range.specs.Files.{FitsTree}
use Rattle.meta_range.specs.Ranges.{TreeValue}
use Rattle.lake_model.specs.Steps.{swap_rule}
use Rattle.core_state.specs.Counts.{versions_of}
use Rattle.core_state.specs.LakeStates.{LakeStateValue, lake_value, state_of}
use Rattle.core_state.specs.NewCommits.{with_commit}
use Rattle.core_changes.specs.LakeChanges.{in_repository}
use Rattle.core_commits.specs.KeptHeads.{commit_added}
use Rattle.core_changes.specs.NewPlaces.{HasNewPlaces, HaveSamePlaces}
use Rattle.core_state.specs.declared.names.NameIndex.{NameIndex}
use Rattle.core_commits.specs.Making.{IsWithinLimits, head_making}
use Rattle.core_commits.specs.HeadOperations.{new_commit}
use Rattle.core_commits.specs.Testing.{drafted_in}
use Rattle.core_commits.proofs.SwappingLemmas.{made_reply, plain_there, refusal_of, refused_leaves, refused_may, refused_reply, starved_reply, unkept_leaves}
use Rattle.core_commits.proofs.SwappingLemmas.{unkept_reply}
use Rattle.core_commits.proofs.PlacesLeftLemmas.{held_of_tried, index_named, no_places, places_since, refused_tried, still_named_places}
use Rattle.core_commits.proofs.swapping.swap.Goals as goal

pub returns-in_err-new-clause-reply : goal.returns-in_err-new-clause-reply
returns-in_err-new-clause-reply g c given has =
    let l = lake_value c.args.present.now in
    refused_reply l given c.args.repo.now c.args.branch.now c.args.guard.version c.args.guard.settings c.args.kind c.args.about c.in_err-new.field-0.0
    (c.in_err-new.ensures.asks given has)
    (λ clash. c.laws_of_causes.ensures.swap (state_of l) given c.args.repo.now c.args.branch.now c.args.guard.version c.args.guard.settings
    (swap_rule c.args.kind c.args.about) clash)
    c.from_residual.result c.from_residual.ensures.1

pub returns-in_err-new-clause-leaves : goal.returns-in_err-new-clause-leaves
returns-in_err-new-clause-leaves g c =
    let l = lake_value c.args.present.now in
    let given = versions_of l in
    refused_leaves (record { kept = g.K.Keeper.kept; faults = g.K.Keeper.faults; calls = g.K.Keeper.calls; successes = g.K.Keeper.successes }) c.args.by
    (head_making c.args.repo.now c.args.branch.now c.args.kind c.args.about c.args.present.now)
    (record { keeper = c.args.keeper.now; history = c.args.history.now.items; present = c.args.present.now })
    c.from_residual.result c.in_err-new.field-0.0 c.from_residual.ensures.1
    (refusal_of l given c.args.repo.now c.args.branch.now c.args.guard.version c.args.guard.settings c.args.kind c.args.about c.in_err-new.field-0.0
    (c.in_err-new.ensures.asks given (c.law_of_versions.ensures l))
    (λ clash. c.laws_of_causes.ensures.swap (state_of l) given c.args.repo.now c.args.branch.now c.args.guard.version c.args.guard.settings
    (swap_rule c.args.kind c.args.about) clash))

pub returns-in_err-new-clause-may : goal.returns-in_err-new-clause-may
returns-in_err-new-clause-may g c =
    let l = lake_value c.args.present.now in
    let given = versions_of l in
    refused_may c.args.repo.now (drafted_in c.args.repo.now c.args.branch.now c.args.kind c.args.about l) l
    c.from_residual.result c.in_err-new.field-0.0 c.from_residual.ensures.1
    (refusal_of l given c.args.repo.now c.args.branch.now c.args.guard.version c.args.guard.settings c.args.kind c.args.about c.in_err-new.field-0.0
    (c.in_err-new.ensures.asks given (c.law_of_versions.ensures l))
    (λ clash. c.laws_of_causes.ensures.swap (state_of l) given c.args.repo.now c.args.branch.now c.args.guard.version c.args.guard.settings
    (swap_rule c.args.kind c.args.about) clash))

pub ready_head-requires-clause-plain : goal.ready_head-requires-clause-plain
ready_head-requires-clause-plain g c =
    plain_there (lake_value c.args.present.now) c.requires.sound c.args.repo.now c.args.branch.now c.args.kind c.args.about (new_commit c.in_ok-new.new)
    c.in_ok-new.ensures.found.drafted

pub returns-in_err-ready-clause-reply : goal.returns-in_err-ready-clause-reply
returns-in_err-ready-clause-reply g c given has =
    starved_reply (lake_value c.args.present.now) given c.args.repo.now c.args.branch.now c.args.guard.version c.args.guard.settings c.args.kind c.args.about
    _ (c.in_ok-new.ensures.asks given has) c.from_residual-in_err-ready.result c.from_residual-in_err-ready.ensures.1

pub returns-in_err-keep_commit-clause-reply : goal.returns-in_err-keep_commit-clause-reply
returns-in_err-keep_commit-clause-reply g c given has =
    unkept_reply (lake_value c.args.present.now) given c.args.repo.now c.args.branch.now c.args.guard.version c.args.guard.settings c.args.kind c.args.about
    _ (c.in_ok-new.ensures.asks given has) _ _
    (commit_added c.args.repo.now (new_commit c.in_ok-new.new) c.in_ok-ready.ready.operation c.in_ok-ready.ready.puts.items) _ _
    c.in_err-keep_commit.field-0.0 c.in_err-keep_commit.ensures.kept
    c.from_residual-in_err-keep_commit.result c.from_residual-in_err-keep_commit.ensures.1

pub returns-in_err-keep_commit-clause-leaves : goal.returns-in_err-keep_commit-clause-leaves
returns-in_err-keep_commit-clause-leaves g c =
    unkept_leaves (record { kept = g.K.Keeper.kept; faults = g.K.Keeper.faults; calls = g.K.Keeper.calls; successes = g.K.Keeper.successes }) c.args.by
    c.args.repo.now c.args.branch.now c.args.kind c.args.about (new_commit c.in_ok-new.new)
    (record { keeper = c.args.keeper.now; history = c.args.history.now.items; present = c.args.present.now })
    (record { keeper = c.keep_commit.new.keeper; history = c.keep_commit.new.history.items; present = c.keep_commit.new.present })
    c.ready_head.new.lake c.in_ok-new.ensures.found.drafted c.in_ok-ready.ensures.same
    c.in_ok-ready.ready.operation c.in_ok-ready.ready.puts.items c.in_ok-ready.ensures.ready.operation c.in_ok-ready.ensures.ready.puts
    c.in_err-keep_commit.field-0.0 c.in_err-keep_commit.ensures.kept
    c.from_residual-in_err-keep_commit.result c.from_residual-in_err-keep_commit.ensures.1

pub returns-clause-reply : goal.returns-clause-reply
returns-clause-reply g c given has =
    let l = lake_value c.args.present.now in
    let new = new_commit c.in_ok-new.new in
    let added = c.in_ok-keep_commit.ensures.kept.present ∙ ap (in_repository c.args.repo.now (with_commit new)) c.in_ok-ready.ensures.same in
    let made = c.make_head.ensures.made l new added refl c.in_ok-ready.ensures.ready.names in
    made_reply l given c.args.repo.now c.args.branch.now c.args.guard.version c.args.guard.settings c.args.kind c.args.about
    _ (c.in_ok-new.ensures.asks given has) new c.in_ok-new.ensures.found.drafted c.place.result (c.place.ensures ∙ ap (λ (m : LakeStateValue). m.entries) made)
    c.in_ok-new.new.content.name refl c.in_ok-ready.ready.answer c.in_ok-ready.ensures.ready.answer

pub returns-in_err-new-clause-limits : goal.returns-in_err-new-clause-limits
returns-in_err-new-clause-limits g c =
    let l = lake_value c.args.present.now in
    let given = versions_of l in
    refused_tried IsWithinLimits (drafted_in c.args.repo.now c.args.branch.now c.args.kind c.args.about l)
    c.from_residual.result c.in_err-new.field-0.0 c.from_residual.ensures.1
    (refusal_of l given c.args.repo.now c.args.branch.now c.args.guard.version c.args.guard.settings c.args.kind c.args.about c.in_err-new.field-0.0
    (c.in_err-new.ensures.asks given (c.law_of_versions.ensures l))
    (λ clash. c.laws_of_causes.ensures.swap (state_of l) given c.args.repo.now c.args.branch.now c.args.guard.version c.args.guard.settings
    (swap_rule c.args.kind c.args.about) clash))

pub returns-in_err-new-clause-places : goal.returns-in_err-new-clause-places
returns-in_err-new-clause-places g c =
    no_places (drafted_in c.args.repo.now c.args.branch.now c.args.kind c.args.about (lake_value c.args.present.now)) _ _ refl
    c.from_residual.result c.in_err-new.field-0.0 c.from_residual.ensures.1

pub returns-in_err-ready-clause-limits : goal.returns-in_err-ready-clause-limits
returns-in_err-ready-clause-limits g c =
    held_of_tried IsWithinLimits (drafted_in c.args.repo.now c.args.branch.now c.args.kind c.args.about (lake_value c.args.present.now))
    (new_commit c.in_ok-new.new) c.in_ok-new.ensures.found.drafted
    (record { content = c.in_ok-new.ensures.limits; objects = subst (λ (t : TreeValue). FitsTree t.map) c.deref.ensures c.law_of_limits.ensures })
    c.from_residual-in_err-ready.result

pub returns-in_err-ready-clause-places : goal.returns-in_err-ready-clause-places
returns-in_err-ready-clause-places g c =
    no_places (drafted_in c.args.repo.now c.args.branch.now c.args.kind c.args.about (lake_value c.args.present.now)) _ _ c.ready_head.ensures.places
    c.from_residual-in_err-ready.result _ c.from_residual-in_err-ready.ensures.1

pub returns-in_err-keep_commit-clause-limits : goal.returns-in_err-keep_commit-clause-limits
returns-in_err-keep_commit-clause-limits g c =
    held_of_tried IsWithinLimits (drafted_in c.args.repo.now c.args.branch.now c.args.kind c.args.about (lake_value c.args.present.now))
    (new_commit c.in_ok-new.new) c.in_ok-new.ensures.found.drafted
    (record { content = c.in_ok-new.ensures.limits; objects = subst (λ (t : TreeValue). FitsTree t.map) c.deref.ensures c.law_of_limits.ensures })
    c.from_residual-in_err-keep_commit.result

pub returns-in_err-keep_commit-clause-places : goal.returns-in_err-keep_commit-clause-places
returns-in_err-keep_commit-clause-places g c =
    no_places (drafted_in c.args.repo.now c.args.branch.now c.args.kind c.args.about (lake_value c.args.present.now)) _ _
    (subst (λ (i : NameIndex). HaveSamePlaces c.args.present.now.names.files i.files) (sym c.in_err-keep_commit.ensures.names) c.in_ok-ready.ensures.places)
    c.from_residual-in_err-keep_commit.result _ c.from_residual-in_err-keep_commit.ensures.1

pub returns-clause-limits : goal.returns-clause-limits
returns-clause-limits g c =
    subst (λ o. IsSomeAnd o IsWithinLimits) (sym c.in_ok-new.ensures.found.drafted)
    (record { content = c.in_ok-new.ensures.limits; objects = subst (λ (t : TreeValue). FitsTree t.map) c.deref.ensures c.law_of_limits.ensures })

pub returns-clause-places : goal.returns-clause-places
returns-clause-places g c =
    let new = new_commit c.in_ok-new.new in
    let before = c.args.present.now.names.files in
    let room = subst (λ (i : NameIndex). HaveSamePlaces before i.files) (sym c.in_ok-keep_commit.ensures.names) c.in_ok-ready.ensures.places in
    let named = still_named_places before c.keep_commit.new.present.names.files room (index_named c.args.present.now c.requires.index) in
    subst (λ o. IsSomeAnd o (λ n. HasNewPlaces before c.make_head.new.lake.names.files n.tree)) (sym c.in_ok-new.ensures.found.drafted)
    (places_since before c.keep_commit.new.present.names.files c.make_head.new.lake.names.files new.tree room
    (c.make_head.ensures.places new.tree c.in_ok-ready.ensures.kinds named))
