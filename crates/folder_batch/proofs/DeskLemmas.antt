-- What became of lines and of commands at a desk.
use Rattle.std.proofs.Common.{◌≡◌, ◌<◌, ◌^◌, ℕ, List, length, Result, Ok, Err, refl, ◌∙◌, ap, arith}
use Rattle.std.specs.Prelude.{codes}
use Rattle.lake_base.specs.Clocks.{FixedClockValue, fixed_readings}
use Rattle.lake_base.specs.declared.outside.Trouble.{Trouble}
use Rattle.lake_batch.specs.CommandWords.{CommandEnds}
use Rattle.lakectl_shown.specs.declared.showing.Shown.{Shown}
use Rattle.batch_lines.proofs.SeenOutcomes.{outcome_seen}
use Rattle.batch_lines.specs.Outcome.{Outcome}
use Rattle.batch_lines.specs.ServedLines.{LineReply}
use Rattle.batch_lines.specs.declared.status.ExitStatus.{ExitStatus}
use Rattle.program_words.specs.declared.batch.Timing.TheVariants.{Clock, At}
use Rattle.lake_batch.specs.BatchViews.{BatchView, trace_of}
use Rattle.lake_batch.specs.CommandWords.{CommandView, LineEnds}
use Rattle.lake_batch.proofs.LineCounts.{few_served}
use Rattle.lake_batch.proofs.MomentLemmas.{at_its_moment}
use Rattle.lake_batch.proofs.SeatLemmas.{Passes, pass_lines, pass_shown, pass_stopped}
use Rattle.folder_batch.specs.Desks.{CommandAround, Desk, IsCommandAt, IsServedAt}

-- the desk of what a command works on
abbrev pub desk_of : CommandView → Desk
desk_of view = record { store = view.lake.store; seat = view.lake.seat }

-- ---- at the clock's readings

-- of what served the lines only what commands work on is told
pub by_clock : {L : Type 0} (now old : L) (serves : List ℕ → L → L → LineReply → Type 0) (view : L → CommandView)
    → ((line : List ℕ) (old now : L) (reply : LineReply) → serves line old now reply → LineEnds line (view old) (view now) reply)
    → (limit most : ℕ) (before after : BatchView) (input : List ℕ) (status : ExitStatus)
    → Outcome serves limit most (record { server = old; written = before.written; faults = before.sink_faults })
    (record { server = now; written = after.written; faults = after.sink_faults }) input after.left status
    → (view old).files ≡ before.files → after.files ≡ (view now).files
    → (view old).lake.readings ≡ before.readings → (view now).lake.readings ≡ after.readings
    → IsServedAt Clock limit most before after (desk_of (view old)) (desk_of (view now)) input status
by_clock now old serves view agree limit most before after input status outcome files_before files first last =
    let seen : Outcome LineEnds limit most (trace_of (view old) before) (trace_of (view now) after) input after.left status =
    outcome_seen serves LineEnds view agree limit most (record { server = old; written = before.written; faults = before.sink_faults })
    (record { server = now; written = after.written; faults = after.sink_faults }) input after.left status outcome in
    record {
      begin = view old;
      end = view now;
      begins = record { store = refl; seat = refl };
      ends = record { store = refl; seat = refl };
      files_before = files_before;
      files = files;
      timed = (first, last);
      outcome = seen;
      goes = (pass_lines seen.extent.served (view old) (view now) seen.extent.effects seen.each).goes;
    }

-- what a command did
pub passes : (words : List (List ℕ)) (old now : CommandView) (result : Result Shown Trouble) → CommandEnds (codes "localhost") words old now result
    → Passes 1 old.lake now.lake
passes words old now (Ok shown) ends = pass_shown old now (codes "localhost") words shown ends
passes words old now (Err trouble) ends = pass_stopped old now (codes "localhost") words trouble ends

pub command_by_clock : (words : List (List ℕ)) (old now : CommandView) (result : Result Shown Trouble)
    → CommandEnds (codes "localhost") words old now result
    → IsCommandAt Clock words (record { readings = old.lake.readings; files = old.files }) (record { readings = now.lake.readings; files = now.files })
    (desk_of old) (desk_of now) result
command_by_clock words old now result ends = record {
  begin = old;
  end = now;
  begins = record { store = refl; seat = refl };
  ends = record { store = refl; seat = refl };
  files_before = refl;
  files = refl;
  timed = (refl, refl);
  command = ends;
  goes = (passes words old now result ends).goes;
}

-- ---- all at one moment

module _ (moment : ℕ) (start stop : FixedClockValue) (begins : start ≡ record { at = moment; given = 1 }) where
  -- over a still clock that was read once
  pub at_moment : (limit most : ℕ) (before after : BatchView) (old new : Desk) (input : List ℕ) (status : ExitStatus) → limit < 2 ^ 63
      → IsServedAt Clock limit most (record before { readings = fixed_readings start }) (record after { readings = fixed_readings stop }) old new input status
      → after.readings ≡ before.readings → IsServedAt (At moment) limit most before after old new input status
  at_moment limit most before after old new input status small o unread = record {
    begin = o.begin;
    end = o.end;
    begins = o.begins;
    ends = o.ends;
    files_before = o.files_before;
    files = o.files;
    timed = (
      unread,
      at_its_moment moment (length o.outcome.extent.served) stop o.begin o.end (o.timed.0 ∙ ap fixed_readings begins) o.timed.1
          (pass_lines o.outcome.extent.served o.begin o.end o.outcome.extent.effects o.outcome.each)
          (few_served limit input o.outcome.extent.served o.outcome.extent.unserved o.outcome.lines small),
    );
    outcome = o.outcome;
    goes = o.goes;
  }

  pub command_at_moment : (words : List (List ℕ)) (before after : CommandAround) (old new : Desk) (result : Result Shown Trouble)
      → IsCommandAt Clock words (record before { readings = fixed_readings start }) (record after { readings = fixed_readings stop }) old new result
      → after.readings ≡ before.readings → IsCommandAt (At moment) words before after old new result
  command_at_moment words before after old new result o unread = record {
    begin = o.begin;
    end = o.end;
    begins = o.begins;
    ends = o.ends;
    files_before = o.files_before;
    files = o.files;
    timed = (
      unread,
      at_its_moment moment 1 stop o.begin o.end (o.timed.0 ∙ ap fixed_readings begins) o.timed.1 (passes words o.begin o.end result o.command)
          (omega arith),
    );
    command = o.command;
    goes = o.goes;
  }
