-- What became of a batch, from what became of its lines.
use Rattle.std.proofs.Common.{◌≡◌, ◌<◌, ◌^◌, ℕ, true, List, length, Option, Some, None, IfSome, refl, sym, ◌∙◌, ap, subst}
use Rattle.std.specs.FinMap.{empty, get}
use Rattle.block_store.specs.Blocks.{HeldObjects}
use Rattle.lake_base.specs.Clocks.{FixedClockValue, fixed_readings}
use Rattle.lake_model.specs.History.{replay}
use Rattle.lake_calls.specs.HeldBodies.{FitsState}
use Rattle.flow_steps.specs.FlowSeats.{state_at}
use Rattle.shared_lake.specs.SeatSteps.{LakeSeat}
use Rattle.lakectl_session.specs.Exchanges.{StoreView}
use Rattle.lakectl_session.specs.ServedCommands.{CommandView, LineEnds}
use Rattle.batch_lines.proofs.SeenOutcomes.{outcome_seen}
use Rattle.batch_lines.specs.Outcome.{Outcome}
use Rattle.batch_lines.specs.ServedLines.{LineReply}
use Rattle.batch_lines.specs.declared.status.ExitStatus.{ExitStatus}
use Rattle.program_words.specs.declared.batch.Timing.{Timing}
use Rattle.program_words.specs.declared.batch.Timing.TheVariants.{Clock, At}
use Rattle.lake_batch.specs.Batches.{AreAtMoment, HoldsBodies, IsBegun, IsServedBatch, IsTimed}
use Rattle.lake_batch.specs.BatchViews.{BatchView, trace_of}
use Rattle.fresh_lakes.proofs.FreshBodies.{fresh_fits}
use Rattle.fresh_lakes.specs.FreshLakes.{HasFault, usual_cut}
use Rattle.lake_batch.proofs.LineCounts.{few_served}
use Rattle.lake_batch.proofs.MomentLemmas.{at_its_moment}
use Rattle.lake_batch.proofs.SeatLemmas.{Passes, pass_lines}

-- what follows of a value where it is told
pub told_then : (found : Option (List ℕ)) (P Q : List ℕ → Type 0) → ((value : List ℕ) → found ≡ Some value → P value → Q value) → IfSome found P
    → IfSome found Q
told_then None P Q f p = tt
told_then (Some value) P Q f p = f value refl p

-- ---- what is held

module _ {most : ℕ} (before : BatchView) (begin end : CommandView) (is : IsBegun before begin) (passes : Passes most begin.lake end.lake) where
  none : HeldObjects
  none = empty

  fits_first : FitsState (state_at is.seat.fresh.origin begin.lake.seat.seen) (get none)
  fits_first =
      subst (λ seen. FitsState (state_at is.seat.fresh.origin seen) (get none)) (sym is.seat.fresh.seen)
      (subst (λ state. FitsState state (get none)) (sym is.seat.fresh.fresh) (fresh_fits usual_cut (get none)))

  pub holds_bodies : HoldsBodies end
  unfolding none
  holds_bodies =
      let kept = passes.fits is.seat.fresh.origin none is.seat.alone is.seat.fresh.from (ap (λ (s : StoreView). s.held) is.store) fits_first in
      (kept.0, kept.1, subst (λ state. FitsState (replay state end.lake.seat.seen) (get kept.0)) is.seat.fresh.fresh kept.2)

-- ---- a batch

pub batch_of : (timing : Timing) (limit most : ℕ) (before after : BatchView) (input : List ℕ) (status : ExitStatus) (begin end : CommandView)
    → IsBegun before begin → after.files ≡ end.files → IsTimed timing before after begin end
    → Outcome LineEnds limit most (trace_of begin before) (trace_of end after) input after.left status → end.lake.store.faults ≡ 0
    → (end.lake.seat.alone ≡ true → HasFault end.lake.seat.seen → ⊥) → IsServedBatch timing limit most before after input status
batch_of timing limit most before after input status begin end fresh files timed outcome calm unnoted =
    let passes = pass_lines outcome.extent.served begin end outcome.extent.effects outcome.each in
    record {
      begin = begin;
      end = end;
      fresh = fresh;
      files = files;
      timed = timed;
      outcome = outcome;
      goes = passes.goes;
      bodies = holds_bodies before begin end fresh passes;
      calm = calm;
      pairs = unnoted (ap (λ (s : LakeSeat). s.alone) passes.goes.seat ∙ fresh.seat.alone);
    }

-- of what served its lines only what commands work on is told
pub by_clock : {L : Type 0} (now old : L) (serves : List ℕ → L → L → LineReply → Type 0) (view : L → CommandView)
    → ((line : List ℕ) (old now : L) (reply : LineReply) → serves line old now reply → LineEnds line (view old) (view now) reply)
    → (limit most : ℕ) (before after : BatchView) (input : List ℕ) (status : ExitStatus)
    → Outcome serves limit most (record { server = old; written = before.written; faults = before.sink_faults })
    (record { server = now; written = after.written; faults = after.sink_faults }) input after.left status
    → IsBegun before (view old) → after.files ≡ (view now).files → IsTimed Clock before after (view old) (view now)
    → (view now).lake.store.faults ≡ 0 → ((view now).lake.seat.alone ≡ true → HasFault (view now).lake.seat.seen → ⊥)
    → IsServedBatch Clock limit most before after input status
by_clock now old serves view agree limit most before after input status outcome begun files timed calm unnoted =
    batch_of Clock limit most before after input status (view old) (view now) begun files timed
    (outcome_seen serves LineEnds view agree limit most (record { server = old; written = before.written; faults = before.sink_faults })
    (record { server = now; written = after.written; faults = after.sink_faults }) input after.left status outcome) calm unnoted

-- ---- a batch at one moment

module _ (moment limit most : ℕ) (before after : BatchView) (input : List ℕ) (status : ExitStatus) (start stop : FixedClockValue)
    (begins : start ≡ record { at = moment; given = 1 }) (small : limit < 2 ^ 63)
    (o : IsServedBatch Clock limit most (record before { readings = fixed_readings start })
    (record after { readings = fixed_readings stop }) input status) where
  its_moment : AreAtMoment moment o.begin o.end
  its_moment =
      at_its_moment moment (length o.outcome.extent.served) stop o.begin o.end (o.timed.0 ∙ ap fixed_readings begins) o.timed.1
      (pass_lines o.outcome.extent.served o.begin o.end o.outcome.extent.effects o.outcome.each)
      (few_served limit input o.outcome.extent.served o.outcome.extent.unserved o.outcome.lines small)

  -- over a still clock that was read once
  pub at_moment : after.readings ≡ before.readings → IsServedBatch (At moment) limit most before after input status
  at_moment unread = record {
    begin = o.begin;
    end = o.end;
    fresh = record { seat = o.fresh.seat; store = o.fresh.store; files = o.fresh.files };
    files = o.files;
    timed = (unread, its_moment);
    outcome = o.outcome;
    goes = o.goes;
    bodies = o.bodies;
    calm = o.calm;
    pairs = o.pairs;
  }
