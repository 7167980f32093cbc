use Rattle.std.proofs.Common.{ap, refl, sym, subst, ◌∙◌}
use Rattle.std.specs.Prelude.{Ok, Err}
use Rattle.lake_values.specs.Commit.{AboutValue}
use Rattle.lake_model.specs.Preparing.{PreparedValue, prepare_reply}
use Rattle.lake_model.specs.Refusals.{Gives}
use Rattle.core_readings.specs.Preparations.{HasSides, prepared_value}
use Rattle.lake_core.specs.Lakes.{state, versions}
use Rattle.lake_laws.proofs.SoundnessLemmas.{IsSound-replay}
use Rattle.core_state.specs.Counts.{versions_of}
use Rattle.core_state.specs.LakeStates.{lake_value, state_of}
use Rattle.head_drafts.specs.Drafts.{IsDraft, drafted_map}
use Rattle.head_drafts.specs.HeadDrafts.{IsHeadReply, sides_of, strategy_of}
use Rattle.head_drafts.specs.declared.fault.HeadFault.TheVariants.{Step}
use Rattle.head_drafts.proofs.ReadingLemmas.{reading_reply}
use Rattle.head_drafts.proofs.WaitingLemmas.{below_after}
use Rattle.head_drafts.proofs.ReadyLemmas.{drafted, passed_on, ready, refused_draft, refused_step, some_sides}
use Rattle.head_drafts.proofs.heads.draft_head.Goals as goal

pub returns-in_err-prepared-clause-reply : goal.returns-in_err-prepared-clause-reply
returns-in_err-prepared-clause-reply g c =
    let sides = c.as_ref.ensures.value ∙ c.sides_of-sides.ensures in
    let fault = c.in_err-prepared.field-0.0 in
    let reply = prepare_reply (state c.args.lake.now) (versions c.args.lake.now) c.args.repo.now c.args.branch.now in
    let draft = λ (p : PreparedValue). drafted_map (strategy_of c.args.kind) p c.args.branch.now c.args.about.now.metadata in
    let gives = subst (λ s. Gives {X = PreparedValue} (Err fault) (reply s)) sides c.in_err-prepared.ensures.reply in
    subst (IsHeadReply (reply (sides_of c.args.kind)) draft) (passed_on c.from_residual.result (Step fault) c.from_residual.ensures.1)
    (refused_step (reply (sides_of c.args.kind)) draft fault gives)

pub returns-in_err-tree-clause-reply : goal.returns-in_err-tree-clause-reply
returns-in_err-tree-clause-reply g c =
    let p = prepared_value c.in_ok-prepared.prepared in
    let sides = c.as_ref.ensures.value ∙ c.sides_of-sides.ensures in
    let reply =
    ap (prepare_reply (state c.args.lake.now) (versions c.args.lake.now) c.args.repo.now c.args.branch.now) (sym sides) ∙ sym c.in_ok-prepared.ensures.reply in
    let strategy = ap (λ s. drafted_map s p c.args.branch.now c.about.inside.metadata) c.strategy_of.ensures in
    let metadata = ap (λ (a : AboutValue). drafted_map (strategy_of c.args.kind) p c.args.branch.now a.metadata) c.about.view_is in
    let made = subst (λ d. IsDraft p.cut d (Err c.in_err-tree.field-0.0)) (strategy ∙ metadata) c.in_err-tree.ensures in
    subst (IsHeadReply _ _) (passed_on c.from_residual-in_err-tree.result _ c.from_residual-in_err-tree.ensures.1) (refused_draft _ _ p _ reply made)

pub returns-clause-reply : goal.returns-clause-reply
returns-clause-reply g c =
    let p = prepared_value c.in_ok-prepared.prepared in
    let sides = c.as_ref.ensures.value ∙ c.sides_of-sides.ensures in
    let reply =
    ap (prepare_reply (state c.args.lake.now) (versions c.args.lake.now) c.args.repo.now c.args.branch.now) (sym sides) ∙ sym c.in_ok-prepared.ensures.reply in
    let strategy = ap (λ s. drafted_map s p c.args.branch.now c.about.inside.metadata) c.strategy_of.ensures in
    let metadata = ap (λ (a : AboutValue). drafted_map (strategy_of c.args.kind) p c.args.branch.now a.metadata) c.about.view_is in
    let made = subst (λ d. IsDraft p.cut d (Ok c.in_ok-tree.tree)) (strategy ∙ metadata) c.in_ok-tree.ensures in
    drafted _ _ p _ reply (record { version = refl; settings = refl; draft = made })

pub returns-clause-ready : goal.returns-clause-ready
returns-clause-ready g c =
    let p = prepared_value c.in_ok-prepared.prepared in
    let sides = c.as_ref.ensures.value ∙ c.sides_of-sides.ensures in
    let reply =
    ap (prepare_reply (state c.args.lake.now) (versions c.args.lake.now) c.args.repo.now c.args.branch.now) (sym sides) ∙ sym c.in_ok-prepared.ensures.reply in
    let strategy = ap (λ s. drafted_map s p c.args.branch.now c.about.inside.metadata) c.strategy_of.ensures in
    let metadata = ap (λ (a : AboutValue). drafted_map (strategy_of c.args.kind) p c.args.branch.now a.metadata) c.about.view_is in
    let made = subst (λ d. IsDraft p.cut d (Ok c.in_ok-tree.tree)) (strategy ∙ metadata) c.in_ok-tree.ensures in
    ready (state c.args.lake.now) (versions c.args.lake.now) c.args.repo.now c.args.branch.now c.args.about.now c.args.kind p c.in_ok-tree.tree reply
    (some_sides (HasSides (state c.args.lake.now) c.args.repo.now) (sides_of c.args.kind) c.requires) c.in_ok-prepared.prepared.version
    c.in_ok-prepared.prepared.settings made

pub returns-clause-waits : goal.returns-clause-waits
returns-clause-waits g c =
    let p = prepared_value c.in_ok-prepared.prepared in
    let sides = c.as_ref.ensures.value ∙ c.sides_of-sides.ensures in
    let reply =
    ap (prepare_reply (state c.args.lake.now) (versions c.args.lake.now) c.args.repo.now c.args.branch.now) (sym sides) ∙ sym c.in_ok-prepared.ensures.reply in
    let strategy = ap (λ s. drafted_map s p c.args.branch.now c.about.inside.metadata) c.strategy_of.ensures in
    let metadata = ap (λ (a : AboutValue). drafted_map (strategy_of c.args.kind) p c.args.branch.now a.metadata) c.about.view_is in
    let made = subst (λ d. IsDraft p.cut d (Ok c.in_ok-tree.tree)) (strategy ∙ metadata) c.in_ok-tree.ensures in
    let stands = c.entries.ensures.stands.stands in
    c.law_of_waiting.ensures (state c.args.lake.now) (versions c.args.lake.now) c.args.repo.now c.args.branch.now c.args.kind c.args.about.now p
    c.in_ok-tree.tree (IsSound-replay (state_of (lake_value c.args.lake.now.opened)) c.args.lake.now.history stands.sound stands.legal)
    (below_after (versions_of (lake_value c.args.lake.now.opened)) c.args.lake.now.history stands.versions_below) reply c.requires made

pub returns-in_err-prepared-clause-refusal : goal.returns-in_err-prepared-clause-refusal
returns-in_err-prepared-clause-refusal g c =
    reading_reply _ _ _ _
    (c.law_of_readings.ensures (state c.args.lake.now) (versions c.args.lake.now) c.args.repo.now c.args.branch.now c.args.kind c.args.about.now)
    (returns-in_err-prepared-clause-reply g c)

pub returns-in_err-tree-clause-refusal : goal.returns-in_err-tree-clause-refusal
returns-in_err-tree-clause-refusal g c =
    reading_reply _ _ _ _
    (c.law_of_readings.ensures (state c.args.lake.now) (versions c.args.lake.now) c.args.repo.now c.args.branch.now c.args.kind c.args.about.now)
    (returns-in_err-tree-clause-reply g c)

pub returns-clause-refusal : goal.returns-clause-refusal
returns-clause-refusal g c =
    let prepared = c.in_ok-prepared.prepared in
    reading_reply _ _ _ (Ok (record { version = prepared.version; settings = prepared.settings; tree = c.in_ok-tree.tree }))
    (c.law_of_readings.ensures (state c.args.lake.now) (versions c.args.lake.now) c.args.repo.now c.args.branch.now c.args.kind c.args.about.now)
    (returns-clause-reply g c)
