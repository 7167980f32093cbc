use Rattle.std.proofs.Common.{◌≡◌, ℕ, List, inl, inr, [], ap, Err, refl, sym, subst, ◌∙◌}
use Rattle.std.specs.Prelude.{IfSome}
use Rattle.lake_base.specs.declared.digest.Digest.{Digest}
use Rattle.core_puts.specs.KeeperViews.{KeeperView}
use Rattle.core_readings.specs.Preparations.{HasSides}
use Rattle.lake_model.specs.declared.history.SealFor.TheVariants as seal
use Rattle.lake_model.specs.declared.reply.Point.{Point}
use Rattle.lake_model.specs.declared.reply.Sides.TheVariants.{Pick}
use Rattle.lake_core.specs.Lakes.{state}
use Rattle.lake_model.specs.State.{State}
use Rattle.shared_lake.specs.SeatSteps.{LakeSeat}
use Rattle.head_drafts.specs.HeadDrafts.{sides_of}
use Rattle.head_steps.specs.NewHeads.{NewHead}
use Rattle.commit_flow.specs.declared.picks.Picking.{Picking as How}
use Rattle.commit_flow.specs.declared.picks.Picking.TheVariants.{Undo, Take}
use Rattle.commit_flow.specs.CommitFlows.{HasMadeHead, NoCommit, NotChosen, NotSaid, Picking}
use Rattle.commit_flow.specs.PickedHeads.{picking_head, picking_kind}
use Rattle.commit_flow.proofs.MergeLemmas.{both_there}
use Rattle.commit_flow.proofs.picks.picked.Goals as goal

pub returns-in-Err : goal.returns-in-Err
returns-in-Err g c = ([], NoCommit c.in-Err.fault (c.in-Err.ensures c.args.call) refl refl (ap Err c.of_step.ensures))

pub returns-in-Err-chosen : goal.returns-in-Err-chosen
returns-in-Err-chosen g c = elim c.in-Err-chosen.ensures [
  | inl refused ↦ ([], NotChosen c.in-Ok.point refused.0 (c.in-Ok.ensures c.args.call) refused.1 refl refl (ap Err refused.2))
  | inr starved ↦ ([], NotSaid c.in-Ok.point (c.in-Ok.ensures c.args.call) refl refl (ap Err starved))
]

pub new_head-requires-clause-own : goal.new_head-requires-clause-own
new_head-requires-clause-own g c = ap (λ (s : LakeSeat). s.turn) (c.in-Ok.ensures c.args.call).goes.seat ∙ c.requires

-- the commits of a pick, by what it does
sides_by : (state : State) (repo : List ℕ) (point : Point) (parent : Digest) (how : How)
    → HasSides state repo (Pick parent point.commit) × HasSides state repo (Pick point.commit parent)
    → IfSome (sides_of (picking_kind how point parent)) (HasSides state repo)
sides_by state repo point parent Undo both = both.1
sides_by state repo point parent Take both = both.0

pub new_head-requires-clause-sides : goal.new_head-requires-clause-sides
new_head-requires-clause-sides g c origin now found goes finds =
    let view : KeeperView _ = record { kept = g.K.Keeper.kept; faults = g.K.Keeper.faults; calls = g.K.Keeper.calls; successes = g.K.Keeper.successes } in
    let is = c.in-Ok-chosen.ensures in
    subst (λ kind. IfSome (sides_of kind) (HasSides (state found) c.args.repo.now)) (sym is.2)
    (sides_by (state found) c.args.repo.now c.in-Ok.point is.0 c.args.picking
    (both_there c.args.call c.args.repo.now c.args.e.now c.in-Ok.point c.args.seat.now c.resolve_for.new.seat (c.in-Ok.ensures c.args.call) view origin
    now found goes finds c.args.number is.0 is.1))

pub returns : goal.returns
returns g c =
    let is = c.in-Ok-chosen.ensures in
    let head : NewHead = picking_head c.args.picking c.args.repo.now c.args.branch.now c.args.about.now c.in-Ok.point is.0 in
    let same : record { repo = c.args.repo.now; branch = c.args.branch.now; kind = c.in-Ok-chosen.chosen.0; about = c.in-Ok-chosen.chosen.1 } ≡ head =
    λ i. record { repo = c.args.repo.now; branch = c.args.branch.now; kind = is.2 i; about = is.3 i } in (
      c.new_head.ensures.0,
      Picking c.in-Ok.point is.0 c.resolve_for.new.seat (c.in-Ok.ensures c.args.call) is.1
          (subst (λ (h : NewHead). HasMadeHead h seal.Other c.args.call c.resolve_for.new.seat c.new_head.new.seat (g.P.Pause.calls c.args.pause.now)
          (g.P.Pause.calls c.new_head.new.pause) c.new_head.ensures.0 c.new_head.result) same c.new_head.ensures.1),
    )
