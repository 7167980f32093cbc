-- What came of the lines of the generator, from what became of them where they were served.
use Rattle.std.proofs.Common.{◌≡◌, ◌<◌, ◌+◌, ◌^◌, ◌++◌, ◌∷◌, [], ⊎_elim, ℕ, List, length, Some, None, Result, Ok, Err, refl, sym, ap, ◌∙◌, subst}
use Rattle.std.proofs.Common.{arith, length-append}
use Rattle.std.specs.Prelude.{MatchResult}
use Rattle.std.specs.FinMap.{empty}
use Rattle.lake_base.specs.Clocks.{FixedClockValue, fixed_readings}
use Rattle.lake_base.specs.Outside.{last_count}
use Rattle.lake_base.specs.declared.digest.Digest.{Digest}
use Rattle.lake_base.specs.declared.outside.Trouble.TheVariants.{NoMemory}
use Rattle.lake_model.specs.History.{IsLegal, replay}
use Rattle.lake_model.specs.Soundness.{fresh}
use Rattle.lake_core.specs.Faults.{HasFault}
use Rattle.shared_lake.specs.SeatSteps.{LakeSeat}
use Rattle.fresh_lakes.specs.FreshLakes.{IsLoneSeat, usual_cut}
use Rattle.lake_batch.specs.CommandWords.{GoesThrough}
use Rattle.lakectl_verbs.specs.LineForms.{line_of}
use Rattle.lakectl_verbs.specs.declared.line.LineWords.{LineWords}
use Rattle.lakectl_verbs.specs.declared.line.LineWords.TheVariants as line
use Rattle.lake_batch.specs.CommandWords.{CommandView, LineEnds, LineStops, Unsent}
use Rattle.batch_lines.specs.ServedLines.{AreServed, LineEffect, LineReply}
use Rattle.batch_lines.specs.declared.status.ExitStatus.{ExitStatus}
use Rattle.batch_lines.specs.declared.status.ExitStatus.TheVariants.{OutOfMemory}
use Rattle.batch_lines.proofs.SeenOutcomes.{lines_seen}
use Rattle.lake_batch.specs.BatchViews.{BatchView}
use Rattle.lake_batch.specs.Batches.{IsBegun as IsBegunBatch}
use Rattle.lake_batch.proofs.BatchLemmas.{holds_bodies}
use Rattle.lake_batch.proofs.MomentLemmas.{at_its_moment}
use Rattle.lake_batch.proofs.SeatLemmas.{pass_lines}
use Rattle.program_words.specs.declared.generator.Generator.{Generator}
use Rattle.lake_generator.specs.Generated.{AreRun, AtLine, Behind, HasRun, IsBegun, IsTold, IsUntold}
use Rattle.lake_generator.specs.GeneratedLines.{generated_lines}
use Rattle.lake_generator.specs.MainHead.{IsMainMap, StandsAtMain}
use Rattle.lake_generator.specs.Report.{told_text}
use Rattle.lake_generator.specs.RunLines.{HasRunTo, RunsTo}
use Rattle.lake_generator.specs.Serving.{Goes, HasServed, HasStopped}
use Rattle.lake_generator.specs.declared.serving.Counts.{Counts}
use Rattle.lake_generator.proofs.DefaultLemmas.{main_there}
use Rattle.lake_generator.proofs.LineCountLemmas.{few_generated}

-- ---- a seat that went on

-- a lone seat of the fresh lake that went on in sessions stands at main
stands_on : (old now : LakeSeat) → IsLoneSeat old → GoesThrough old now → StandsAtMain now
stands_on old now lone goes =
    let origin = lone.fresh.origin in
    let from = lone.fresh.from in
    record {
      alone = ap (λ (s : LakeSeat). s.alone) goes.seat ∙ lone.alone;
      origin = origin;
      from = ap (λ (s : LakeSeat). s.origin) goes.seat ∙ from;
      opened = lone.fresh.fresh;
      main = main_there usual_cut now.seen (⊎_elim
          (λ none. subst (IsLegal (fresh usual_cut)) (sym (goes.seen ∙ (λ i. lone.fresh.seen i ++ none.0 i))) tt)
          (λ some. subst (λ s. IsLegal s now.seen) lone.fresh.fresh some.1)
          (goes.legal origin from));
    }

-- ---- lines

-- a line may find no memory before it does anything
pub line_starves : (text : List ℕ) (view : CommandView) → LineEnds text view view (Err NoMemory)
line_starves text view = by (line_of text)
  where
    by : (words : LineWords) → LineStops words view view NoMemory
    by line.Skipped = (refl, refl)
    by line.Bad = (refl, refl)
    by (line.Words words) = Unsent refl (λ is. absurd cc)

-- What may be answered to a line, and what is seen of what serves it.
module _ {L : Type 0} (serves : List ℕ → L → L → LineReply → Type 0) (view : L → CommandView)
    (agree : (line : List ℕ) (old now : L) (reply : LineReply) → serves line old now reply → LineEnds line (view old) (view now) reply)
    (asked : Generator) (small : asked.objects < 2 ^ 32) (first last : L) (begun : IsBegun (view first)) (clock : FixedClockValue)
    (reads : (view last).lake.readings ≡ fixed_readings clock) (calm : (view last).lake.store.faults ≡ 0) where
  -- the same, as a batch without files begins
  no_files : BatchView
  no_files = record { left = None; written = None; sink_faults = 0; readings = None; files = Some empty }

  begun_batch : IsBegunBatch no_files (view first)
  unfolding no_files
  begun_batch = record { seat = begun.seat; store = begun.store; files = begun.files }

  run_of : (HasFault (view last).lake.seat.seen → ⊥) → (lines : List (List ℕ)) (effects : List LineEffect) → length lines + 1 < last_count
      → AreServed serves lines first effects last → AreRun lines effects
  run_of unnoted lines effects few served =
      let each = lines_seen serves LineEnds view agree lines first last effects served in
      let passes = pass_lines lines (view first) (view last) effects each in
      record {
        begin = view first;
        end = view last;
        fresh = begun;
        each = each;
        still = at_its_moment 0 (length lines) clock (view first) (view last) begun.moment reads passes few;
        goes = passes.goes;
        bodies = holds_bodies no_files (view first) (view last) begun_batch passes;
        calm = calm;
        pairs = unnoted;
      }

  -- the clock can count them
  few_lines : length (generated_lines asked.number asked.objects) + 1 < last_count
  few_lines = few_generated asked.number asked.objects small

  stopped : (HasFault (view last).lake.seat.seen → ⊥) → (status : ExitStatus)
      → HasStopped serves first (generated_lines asked.number asked.objects) status last → IsUntold asked status
  stopped unnoted status s = AtLine (record {
    served = s.served;
    unserved = s.unserved;
    whole = s.whole;
    effects = s.effects;
    last = s.last;
    run = run_of unnoted s.served (s.effects ++ s.last ∷ [])
        (omega (arith, few_lines, length-append s.served s.unserved, ap length s.whole)) s.each;
    fine = s.fine;
    failed = s.failed;
  }) s.tells

  ran : (HasFault (view last).lake.seat.seen → ⊥) → (counts : Counts)
      → HasServed serves first (generated_lines asked.number asked.objects) counts last → HasRunTo asked counts (view last).lake.seat
  unfolding run_of
  ran unnoted counts s = record {
    lines = record {
      effects = s.effects;
      run = run_of unnoted (generated_lines asked.number asked.objects) s.effects few_lines s.each;
      fine = s.fine;
    };
    at = refl;
    uploads = s.uploads;
    heads = s.heads;
  }

  -- how far the lines came, where the store of pairs never failed
  pub runs_to : (HasFault (view last).lake.seat.seen → ⊥) → (result : Result Counts ExitStatus)
      → Goes serves first (generated_lines asked.number asked.objects) result last → RunsTo asked (view last).lake.seat result
  runs_to unnoted (Ok counts) s = ran unnoted counts s
  runs_to unnoted (Err status) s = stopped unnoted status s

  served_on : (lines : List (List ℕ)) (effects : List LineEffect) → AreServed serves lines first effects last → StandsAtMain (view last).lake.seat
  served_on lines effects served =
      stands_on (view first).lake.seat (view last).lake.seat begun.seat
      (pass_lines lines (view first) (view last) effects (lines_seen serves LineEnds view agree lines first last effects served)).goes

  -- the seat stands at main then
  pub stands_behind : (result : Result Counts ExitStatus) → Goes serves first (generated_lines asked.number asked.objects) result last
      → StandsAtMain (view last).lake.seat
  stands_behind (Ok counts) s = served_on (generated_lines asked.number asked.objects) s.effects s.each
  stands_behind (Err status) s = served_on s.served (s.effects ++ s.last ∷ []) s.each

-- what is told of them
pub told_so : (asked : Generator) (counts : Counts) (seat : LakeSeat) (paths : ℕ) (id : Digest) (text : List ℕ) → HasRunTo asked counts seat
    → IsMainMap (replay (fresh usual_cut) seat.seen) paths id → text ≡ told_text counts.uploads counts.heads paths id → IsTold asked text
told_so asked counts seat paths id text r head is = record {
  lines = r.lines;
  paths = paths;
  id = id;
  head = subst (λ (s : LakeSeat). IsMainMap (replay (fresh usual_cut) s.seen) paths id) (sym r.at) head;
  is = is ∙ (λ i. told_text (r.uploads i) (r.heads i) paths id);
}

-- or no memory was left for the text
pub told_by : {V : Type 0} (asked : Generator) (items : V → List ℕ) (result : Result V ExitStatus) (expected : List ℕ) → HasRun asked
    → ((text : List ℕ) → text ≡ expected → IsTold asked text)
    → MatchResult result (λ text. items text ≡ expected) (λ status. status ≡ OutOfMemory)
    → MatchResult result (λ text. IsTold asked (items text)) (λ status. IsUntold asked status)
told_by asked items (Ok text) expected run told is = told (items text) is
told_by asked items (Err status) expected run told is = Behind run is
