-- Two runs of the same lines, each begun on a fresh lake, came to the same.
use Rattle.std.proofs.Common.{◌≡◌, ℕ, false, List, codes, is_some, sym, ap, subst, ◌∙◌}
use Rattle.std.proofs.lemmas.List.Elements.{All-nil}
use Rattle.std.specs.FinMap.{empty, get, get-empty}
use Rattle.block_store.specs.Blocks.{HeldObjects}
use Rattle.fresh_lakes.proofs.FreshBodies.{fresh_fits, only_there}
use Rattle.fresh_lakes.specs.FreshLakes.{usual_cut}
use Rattle.lake_base.specs.Maps.{byte_order}
use Rattle.lake_calls.specs.HeldBodies.{FitsState}
use Rattle.lake_format.specs.declared.cut.Cut.{Cut}
use Rattle.lake_model.specs.Commits.{new_repository}
use Rattle.lake_model.specs.History.{replay}
use Rattle.lake_model.specs.Soundness.{fresh}
use Rattle.lake_model.specs.State.{Repository, is_expired}
use Rattle.lake_model.specs.declared.history.HistoryEntry.{HistoryEntry}
use Rattle.lake_batch.specs.CommandWords.{StoreView}
use Rattle.lake_batch.specs.CommandWords.{CommandView, LineEnds}
use Rattle.batch_lines.specs.ServedLines.{AreServed, LineEffect}
use Rattle.lake_batch.specs.BatchViews.{BatchView}
use Rattle.lake_batch.specs.Batches.{IsBegun, IsTimed}
use Rattle.program_words.specs.declared.batch.Timing.{Timing}
use Rattle.seat_laws.specs.Expiries.{HasNoneExpired, NoneExpires, is_expiry}
use Rattle.batch_laws.specs.LikeRuns.{IsOnlyRun, Takes, TookAlike}
use Rattle.batch_laws.proofs.CalmRuns.{IsReady, calm_run}
use Rattle.batch_laws.proofs.LoneSeats.{IsLone}
use Rattle.batch_laws.proofs.MomentPairs.{one_clock}
use Rattle.batch_laws.proofs.RunPairs.{like_runs}

-- no commit of a fresh lake is expired
none_fresh : (cut : Cut) → HasNoneExpired (fresh cut)
none_fresh cut repo r id there =
    let same : r ≡ new_repository cut 0 (codes "main") = only_there (codes "quickstart") (new_repository cut 0 (codes "main")) repo r there in
    ap (λ (q : Repository). is_expired q id) same ∙ ap is_some (get-empty byte_order id.0)

module _ (before : BatchView) (begin : CommandView) (begun : IsBegun before begin) where
  lone : IsLone (fresh usual_cut) begin.lake.seat
  lone = record {
    origin = begun.seat.fresh.origin;
    from = begun.seat.fresh.from;
    opened_as = begun.seat.fresh.fresh;
    number = begun.seat.fresh.number;
    alone = begun.seat.alone;
  }

  abbrev none : HeldObjects
  none = empty

  sound : IsReady (fresh usual_cut) begin
  sound = record {
    lone = lone;
    none = subst NoneExpires (sym begun.seat.fresh.seen) (All-nil (λ (e : HistoryEntry). is_expiry e.kind ≡ false));
    objects = none;
    held = ap (λ (s : StoreView). s.held) begun.store;
    fits = subst (λ (l : List HistoryEntry). FitsState (replay (fresh usual_cut) l) (get none)) (sym begun.seat.fresh.seen)
        (fresh_fits usual_cut (get none));
  }

pub only_run : (timing : Timing) (lines : List (List ℕ)) (before after : BatchView) (begin : CommandView) (effects : List LineEffect) (end : CommandView)
    (run : AreServed LineEnds lines begin effects end) → IsBegun before begin → IsTimed timing before after begin end
    → IsOnlyRun timing lines before begin effects end run
only_run timing lines before after begin effects end run begun timed other_timing other_before other_after other_begin other_end others other_run files
    other_begun other_timed told tells clock well other_well apart =
    let took : TookAlike begin end other_begin other_end =
    one_clock timing other_timing before after other_before other_after begin end other_begin other_end timed other_timed clock in
    let like =
    like_runs (fresh usual_cut) lines begin end other_begin other_end effects others run other_run (lone before begin begun)
    (lone other_before other_begin other_begun) (begun.seat.fresh.seen ∙ sym other_begun.seat.fresh.seen) files (begun.files ∙ told)
    (other_begun.files ∙ tells) took.takes.before took.taken took.other_takes.before took.other_taken took.takes.begins took.takes.ends
    took.other_takes.begins took.other_takes.ends took.agree well.memory well.files other_well.memory other_well.files
    (calm_run (fresh usual_cut) (none_fresh usual_cut) lines begin end effects run (sound before begin begun) well.memory well.files well.objects well.pairs)
    (calm_run (fresh usual_cut) (none_fresh usual_cut) lines other_begin other_end others other_run (sound other_before other_begin other_begun)
    other_well.memory other_well.files other_well.objects other_well.pairs) apart in
    record {
      lines = like.lines;
      files = like.files;
      history = like.history;
      taken = took.taken;
      takes = took.takes;
      other_takes = subst (Takes other_begin other_end) (sym like.readings) took.other_takes;
    }
