-- What a flow answers whose tries ended so.
use Rattle.std.proofs.Common.{◌≡◌, ◌≤◌, inl, inr, ℕ, Bool, List, [], ◌++◌, length, drop, Option, Result, Ok, Err, refl, sym}
use Rattle.std.proofs.Common.{ap, arith, subst}
use Rattle.std.specs.Option.{option_or}
use Rattle.lake_values.specs.Entry.{EntryValue}
use Rattle.lake_model.specs.declared.fault.StepFault.TheVariants as step
use Rattle.lake_core.specs.declared.standing.LakeOrigin.{LakeOrigin}
use Rattle.shared_lake.specs.SeatSteps.{LakeSeat}
use Rattle.std.proofs.lemmas.List.{append-nil}
use Rattle.lake_model.specs.declared.history.HistoryEntry.{HistoryEntry}
use Rattle.lake_laws.specs.VersionGivers.{count_of, gives_branch, of_other_seat}
use Rattle.call_placement.specs.Rules.{Caller}
use Rattle.call_placement.specs.Served.{IsServed, OwesNothing}
use Rattle.call_placement.specs.Sessions.{caller}
use Rattle.lake_calls.specs.CallExceptions.{CallMet}
use Rattle.lake_calls.specs.CallRefusals.{names_of}
use Rattle.lake_calls.specs.Courses.{CallPoint}
use Rattle.lake_calls.specs.DoneReplies.{owed_behind}
use Rattle.lake_calls.specs.LakeRules.{lake_rules}
use Rattle.lake_calls.specs.declared.call.Call.{Call}
use Rattle.lake_calls.specs.declared.reply.CallReply.{CallReply}
use Rattle.lake_calls.specs.declared.reply.CallReply.TheVariants as reply
use Rattle.lake_calls.specs.declared.reply.Done.{Done as DoneReply}
use Rattle.lake_calls.specs.declared.reply.Refusal.TheVariants as refusal
use Rattle.flow_steps.specs.declared.answer.FlowAnswer.{FlowAnswer}
use Rattle.flow_steps.specs.FlowAnswers.{BlockCounts, asked_at}
use Rattle.flow_steps.specs.FlowSeats.{opened_state}
use Rattle.flow_steps.specs.FlowTries.{Guarded}
use Rattle.flow_steps.proofs.RetryLemmas.{counted_since, fault_counted, met_by, no_store, one_fault, told_some}
use Rattle.flow_steps.proofs.FlowEndLemmas.{HasReached, reached_nothing, served_stopped}
use Rattle.write_flow.specs.declared.answer.Done.{Done}
use Rattle.write_flow.specs.declared.answer.FlowFault.{FlowFault}
use Rattle.write_flow.specs.declared.answer.FlowFault.TheVariants.{Step, TooManyTries, NoPath, NoMemory}
use Rattle.write_flow.specs.FlowFaults.{IsFlowTold}
use Rattle.write_flow.specs.WriteFlows.{IsAnswer, IsTriedAnswer, NeverFall, outcome_of}
use Rattle.write_flow.specs.WriteTries.{HaveTried}
use Rattle.write_flow.proofs.LoopLemmas.{AllEnd, HaveChanged, ends_of}
use Rattle.write_flow.proofs.ServingLemmas.{Serves, Stops, stops_memory, stops_refused, stops_tries, tries_done, tries_faulted}

-- a refusal that isn't the store's
abbrev pub IsStopping : FlowFault → Type 0
IsStopping (Step step.StoreFault) = ⊥
IsStopping fault = Unit {0}

-- counts of a store that isn't touched don't fall
pub still_later : (faults misses : ℕ) → (faults ≤ faults) × (misses ≤ misses)
still_later faults misses = (omega arith, omega arith)

-- so many tries found another version: ten, where that is the refusal
abbrev pub IsCountOf : FlowFault → (changed : ℕ) → Type 0
IsCountOf (TooManyTries first last) changed = changed ≡ 10
IsCountOf fault changed = Unit {0}

module _ (origin : LakeOrigin) (by : Caller) (call : Call) (moment : ℕ) (front : List CallPoint) (repo branch : List ℕ) (guarded : Guarded)
    (Tells : Option EntryValue → DoneReply → Type 0) (serves : Serves call moment front repo branch guarded Tells) (before from : List HistoryEntry)
    (reached : HasReached (opened_state origin) by (asked_at call moment) front before from) (blocks : BlockCounts) (changed : ℕ) (found : List HistoryEntry)
    (added : List HistoryEntry) (began : from ≡ before ++ added) where
  -- a call stops with this refusal, and its client is told so
  abbrev StopsSo : FlowFault → Type 0
  StopsSo fault = (told_reply : CallReply) × IsFlowTold (names_of call) fault told_reply
      × Stops origin by call moment front repo branch guarded Tells serves before from reached (met_by no_store blocks changed) told_reply found

  abbrev counted : HistoryEntry → Bool
  counted = of_other_seat by.seat (gives_branch repo branch)

  -- as many of others' entries since the call began as since its tries did
  enough : HaveChanged origin by guarded repo branch serves.guards from found → 10 ≤ count_of counted (drop (length before) found)
  enough have = counted_since counted 10 before from found added have.came.0 began have.came.2 have.given

  pub stops_so : (fault : FlowFault) → IsStopping fault → IsCountOf fault changed → AllEnd origin by guarded repo branch serves.guards (Err fault) from found
      → StopsSo fault
  stops_so (TooManyTries first last) stopping ten ends = (
    reply.Refused refusal.TooManyTries,
    refl,
    stops_tries origin by call moment front repo branch guarded Tells serves before from reached found (met_by no_store blocks changed) ten ends.came
        (enough ends),
  )
  stops_so NoPath stopping count ends = (
    reply.Refused (refusal.NoPath (names_of call).path),
    refl,
    stops_refused origin by call moment front repo branch guarded Tells serves before from reached step.NoPath found (met_by no_store blocks changed)
        (reply.Refused (refusal.NoPath (names_of call).path)) ends (_, refl, refl),
  )
  stops_so NoMemory stopping count ends = (
    reply.NoMemory,
    refl,
    stops_memory origin by call moment front repo branch guarded Tells serves before from reached found (met_by no_store blocks changed) ends,
  )
  stops_so (Step step.StoreFault) stopping count ends = absurd stopping
  stops_so (Step (step.Changed version settings)) stopping count ends = absurd ends
  stops_so (Step step.NoPath) stopping count ends = absurd ends
  stops_so (Step step.NoMemory) stopping count ends = absurd ends
  stops_so (Step fault) stopping count ends =
      let says = told_some (names_of call) fault tt tt in (
        reply.Refused says.0,
        (says.0, says.1, refl),
        stops_refused origin by call moment front repo branch guarded Tells serves before from reached fault found (met_by no_store blocks changed)
            (reply.Refused says.0) ends (says.0, says.1, refl),
      )
  stops_so fault stopping count ends = absurd ends

-- so many of a call's tries found another version
pub counts_tries : (guarded : Guarded) (call : ℕ) (old new : LakeSeat) (paused pauses : Option ℕ) (fault : FlowFault)
    (tried : HaveTried guarded call old new paused pauses (Err fault)) → IsCountOf fault (length tried.versions)
counts_tries guarded call old new paused pauses (TooManyTries first last) tried = tried.ends.0
counts_tries guarded call old new paused pauses fault tried = tt

module _ (call : Call) (moment : ℕ) (repo branch : List ℕ) (guarded : Guarded) (Tells : Option EntryValue → DoneReply → Type 0)
    (serves : Serves call moment [] repo branch guarded Tells) (put : Option EntryValue) (Told : Option EntryValue → DoneReply → Type 0)
    (told_so : (copied : Option EntryValue) (what : DoneReply) → Tells copied what → Told (option_or copied put) what)
    (old new : LakeSeat) (number : ℕ) (blocks : BlockCounts) (later : NeverFall blocks) (paused pauses : Option ℕ) where
  abbrev Tried : Result (Option EntryValue) FlowFault → Type 0
  Tried result = HaveTried guarded number old new paused pauses result

  abbrev Answer : (changed : ℕ) → Result (Option EntryValue) FlowFault → Type 0
  Answer changed result = IsAnswer old new number call moment Told blocks changed
      (record { outcome = outcome_of (length new.seen) put result; position = length new.seen; edge = length new.seen })

  module _ (result : Result (Option EntryValue) FlowFault) (tried : Tried result) where
    abbrev start : HasReached (opened_state tried.origin) (caller old.number number) (asked_at call moment) [] old.seen old.seen
    start = reached_nothing (opened_state tried.origin) (caller old.number number) (asked_at call moment) old.seen

    -- so they ended, from where the call began
    ended : AllEnd tried.origin (caller old.number number) guarded repo branch serves.guards result old.seen new.seen
    ended = ends_of tried.origin (caller old.number number) guarded repo branch serves.guards tried.versions result old.seen tried.between new.seen
        tried.found tried.ends

    abbrev StopsHere : CallMet → CallReply → Type 0
    StopsHere met told_reply =
        Stops tried.origin (caller old.number number) call moment [] repo branch guarded Tells serves old.seen old.seen start met told_reply new.seen

    -- a call that stops without a ticket is refused
    served_by : (met : CallMet) (told_reply : CallReply) → StopsHere met told_reply
        → IsServed lake_rules (opened_state tried.origin) (caller old.number number) old.seen new.seen (asked_at call moment) met told_reply
        (length new.seen) (length new.seen)
    served_by met told_reply stops =
        served_stopped (opened_state tried.origin) (caller old.number number) (asked_at call moment) met told_reply serves.some_fixed old.seen stops.passed
        stops.left new.seen new.seen (length new.seen) stops.course stops.reaches stops.hinders
        (OwesNothing (elim stops.at [ inl none ↦ ap owed_behind none | inr look ↦ ap owed_behind look ]) refl refl)

  refused : (fault : FlowFault) → IsStopping fault → (tried : Tried (Err fault)) → Answer (length tried.versions) (Err fault)
  refused fault stopping tried =
      let stops = stops_so tried.origin (caller old.number number) call moment [] repo branch guarded Tells serves old.seen old.seen
      (start (Err fault) tried) blocks (length tried.versions) new.seen [] (sym (append-nil old.seen)) fault stopping
      (counts_tries guarded number old new paused pauses fault tried) (ended (Err fault) tried) in
      record {
        met = met_by no_store blocks (length tried.versions);
        told = stops.0;
        tells = stops.1;
        flow = record {
          origin = tried.origin;
          goes = tried.goes;
          served = served_by (Err fault) tried (met_by no_store blocks (length tried.versions)) stops.0 stops.2;
        };
        faults = refl;
        misses = refl;
        missed_last = refl;
        counts = later;
        tries = refl;
      }

  pub answered : (result : Result (Option EntryValue) FlowFault) (tried : Tried result) → Answer (length tried.versions) result
  answered (Ok copied) tried =
      let met = met_by no_store blocks (length tried.versions) in
      let done = tries_done tried.origin (caller old.number number) call moment [] repo branch guarded Tells serves old.seen old.seen
      (start (Ok copied) tried) copied new.seen met (ended (Ok copied) tried) in
      record {
        met = met;
        told = reply.Done done.0;
        tells = (refl, done.0, told_so copied done.0 done.1, refl);
        flow = record { origin = tried.origin; goes = tried.goes; served = done.2 };
        faults = refl;
        misses = refl;
        missed_last = refl;
        counts = later;
        tries = refl;
      }
  answered (Err (Step step.StoreFault)) tried =
      let met = met_by one_fault blocks (length tried.versions) in
      record {
        met = met;
        told = reply.Refused refusal.StoreFault;
        tells = refl;
        flow = record {
          origin = tried.origin;
          goes = tried.goes;
          served = tries_faulted tried.origin (caller old.number number) call moment [] repo branch guarded Tells serves old.seen old.seen
              (start (Err (Step step.StoreFault)) tried) new.seen met (ended (Err (Step step.StoreFault)) tried) (fault_counted, refl);
        };
        faults = refl;
        misses = refl;
        missed_last = refl;
        counts = later;
        tries = refl;
      }
  answered (Err fault) tried = refused fault tt tried

  -- so an answer of this outcome, at the place that the seat has seen, answers the call
  pub answered_so : (answer : FlowAnswer Done FlowFault) (result : Result (Option EntryValue) FlowFault)
      → answer.outcome ≡ outcome_of (length new.seen) put result → answer.position ≡ length new.seen → answer.edge ≡ length new.seen
      → Tried result → IsTriedAnswer guarded put old new number call moment Told blocks paused pauses answer
  answered_so answer result outcome position edge tried = record {
    result = result;
    tried = tried;
    outcome = outcome;
    position = position;
    edge = edge;
    answers = subst (IsAnswer old new number call moment Told blocks (length tried.versions))
        (sym (λ i. record { outcome = outcome i; position = position i; edge = edge i })) (answered result tried);
  }
