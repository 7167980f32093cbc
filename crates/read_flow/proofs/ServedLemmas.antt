-- A reading serves its call.
use Rattle.std.proofs.Common.{◌≡◌, ◌≤◌, ◌+◌, inl, inr, arith, ℕ, zero, suc, Bool, true, false, List, [], ◌∷◌, ◌++◌, length, take, Option, Some, None}
use Rattle.std.proofs.Common.{Result, Ok, Err, refl, sym, ap, subst, ◌∙◌}
use Rattle.std.specs.Prelude.{if◌then◌else◌}
use Rattle.std.proofs.lemmas.List.{append-nil}
use Rattle.std.specs.Option.{option_map_or}
use Rattle.lake_values.specs.Entry.{EntryValue}
use Rattle.lake_values.specs.declared.entry.Place.{Place}
use Rattle.lake_values.specs.declared.entry.Place.TheVariants.{Own, External}
use Rattle.lake_model.specs.declared.fault.Reference.TheVariants as reference
use Rattle.lake_model.specs.declared.fault.StepFault.{StepFault}
use Rattle.lake_model.specs.declared.fault.StepFault.TheVariants as step
use Rattle.lake_model.specs.declared.history.HistoryEntry.{HistoryEntry}
use Rattle.lake_model.specs.declared.reply.Seen.{Seen}
use Rattle.lake_model.specs.State.{State}
use Rattle.lake_model.specs.History.{replay}
use Rattle.lake_model.specs.Readings.{look_reply}
use Rattle.lake_core.specs.declared.standing.LakeOrigin.{LakeOrigin}
use Rattle.block_store.specs.Blocks.{HeldObjects}
use Rattle.shared_lake.specs.SeatSteps.{LakeSeat}
use Rattle.call_placement.specs.Rules.{Caller}
use Rattle.call_placement.specs.Served.{ByCause, ByMemory, ByState, Hinders, IsServed, OwesNothing}
use Rattle.call_placement.specs.Sessions.{caller}
use Rattle.call_placement.proofs.WalkLemmas.{further, length_front, take_front}
use Rattle.lake_calls.specs.CallExceptions.{CallMet, FindOthers, FindsOwn, IsReadException, no_counts}
use Rattle.lake_calls.specs.CallRefusals.{PointPasses, PointRefused, found_object, names_of, object_found, object_seen}
use Rattle.lake_calls.specs.Courses.{Finds, nothing_fixed}
use Rattle.lake_calls.specs.LakeRules.{lake_rules}
use Rattle.lake_calls.specs.Requests.{CallRequest}
use Rattle.lake_calls.specs.declared.objects.ReadCall.{ReadCall}
use Rattle.lake_calls.specs.declared.reply.CallReply.{CallReply}
use Rattle.lake_calls.specs.declared.reply.CallReply.TheVariants as reply
use Rattle.lake_calls.specs.declared.reply.Done.TheVariants as done
use Rattle.lake_calls.specs.declared.reply.MissingParent.TheVariants.{OfExpression}
use Rattle.lake_calls.specs.declared.reply.Refusal.{Refusal}
use Rattle.lake_calls.specs.declared.reply.Refusal.TheVariants as refusal
use Rattle.flow_steps.specs.FlowSeats.{opened_state, state_at}
use Rattle.flow_steps.proofs.FlowEndLemmas.{HasReached, moved, reached_nothing, reached_on, served_done, served_stopped}
use Rattle.write_flow.specs.declared.answer.Done.{Done}
use Rattle.flow_steps.specs.declared.answer.FlowAnswer.{FlowAnswer}
use Rattle.write_flow.specs.declared.answer.FlowFault.{FlowFault}
use Rattle.write_flow.specs.declared.answer.FlowFault.TheVariants.{Step, TooManyTries, NoPath, Gone, NotHeld, Lost, Damaged, BlockFault, NoMemory}
use Rattle.write_flow.specs.FlowFaults.{fault_of_step}
use Rattle.flow_steps.specs.FlowAnswers.{BlockCounts, asked_at}
use Rattle.read_flow.specs.ObjectLooks.{HaveFound, IsLookRefusal, gettable, look_up, object_of}
use Rattle.read_flow.specs.ObjectReads.{HasRead, MissedOf, ObjectRead}
use Rattle.read_flow.specs.ReadAnswers.{AreBytesOf, IsReadAnswer, IsReadTold, answer_read, reading}
use Rattle.read_flow.proofs.RoundLemmas.{came_before, last_found}

-- ---- what a look finds is what the call finds

abbrev no_object : FlowFault → Result EntryValue FlowFault
no_object fault = Err fault

abbrev an_object : EntryValue → Result EntryValue FlowFault
an_object entry = Ok entry

module _ (c : ReadCall) where
  -- what the call finds, by what the look was refused for
  abbrev Refuses : Result (Result EntryValue Refusal) StepFault → FlowFault → Type 0
  Refuses found (Step fault) = found ≡ Err fault
  Refuses found NoPath = found ≡ Err step.NoPath
  Refuses found (Gone number) = found ≡ Ok (Err (refusal.Gone c.path))
  Refuses found (NotHeld address) = found ≡ Ok (Err (refusal.NotHeld c.path))
  Refuses found fault = ⊥

  -- and what it finds, by what the look told
  abbrev Same : Result (Result EntryValue Refusal) StepFault → Result EntryValue FlowFault → Type 0
  Same found (Ok entry) = found ≡ Ok (Ok entry)
  Same found (Err fault) = IsLookRefusal fault → Refuses found fault

  same_gone : (number : ℕ) (entry : EntryValue) (gone : Bool)
      → Same (Ok (if gone then Err (refusal.Gone c.path) else Ok entry)) (if gone then no_object (Gone number) else an_object entry)
  same_gone number entry true = λ is. refl
  same_gone number entry false = refl

  same_place : (seen : Seen) (entry : EntryValue) (place : Place) → Same (Ok (object_found c seen entry place)) (gettable place entry seen.gone)
  same_place seen entry (Own number digest) = same_gone number entry seen.gone
  same_place seen entry (External at checksum) = λ is. refl

  same_entry : (seen : Seen) (found : Option EntryValue)
      → Same (option_map_or (λ (entry : EntryValue). Ok (object_found c seen entry entry.place)) found (Err step.NoPath))
      (option_map_or (λ (entry : EntryValue). gettable entry.place entry seen.gone) found (no_object NoPath))
  same_entry seen None = λ is. refl
  same_entry seen (Some entry) = same_place seen entry entry.place

  same_step : (fault : StepFault) → Same (Err fault) (no_object (fault_of_step fault))
  same_step step.NoPath = λ is. refl
  same_step step.NoMemory = λ is. absurd is
  same_step fault = λ is. refl

  same_seen : (told : Result Seen StepFault) → Same (object_seen c told) (object_of told)
  same_seen (Ok seen) = same_entry seen seen.found
  same_seen (Err fault) = same_step fault

  abbrev looked : State → Result EntryValue FlowFault
  looked state = look_up state c.repo c.at.e c.path

  pub finds_own : (state : State) (entry : EntryValue) → looked state ≡ Ok entry → FindsOwn c state entry
  finds_own state entry is = subst (Same (found_object c state)) is (same_seen (look_reply state c.repo c.at.e c.path))

  finds_none : (state : State) (fault : FlowFault) → IsLookRefusal fault → looked state ≡ Err fault → Refuses (found_object c state) fault
  finds_none state fault kind is = (subst (Same (found_object c state)) is (same_seen (look_reply state c.repo c.at.e c.path))) kind

-- ---- ten gets missed

module _ (c : ReadCall) (origin : LakeOrigin) (seat : ℕ) (from whole : List HistoryEntry) where
  abbrev opened : State
  opened = opened_state origin

  abbrev Found : ℕ → ℕ → EntryValue → List HistoryEntry → Type 0
  Found = HaveFound origin seat c.repo c.path c.at.e from

  abbrev Others : ℕ → EntryValue → List ℕ → Type 0
  Others at one later = FindOthers c opened whole at one later

  -- so many looks found others, from the first of them on
  record Neighbours (first count : ℕ) : Type 0 where
    begins : length from ≤ first
    ends : first ≤ length whole
    entry : EntryValue
    found : FindsOwn c (replay opened (take first whole)) entry
    later : List ℕ
    many : length later ≡ count
    others : Others first entry later

  -- what a look found where so much was seen it finds at that position of the whole
  found_there : (entry : EntryValue) (now rest : List HistoryEntry) → whole ≡ now ++ rest → look_up (state_at origin now) c.repo c.at.e c.path ≡ Ok entry
      → FindsOwn c (replay opened (take (length now) whole)) entry
  found_there entry now rest is finds =
      subst (λ es. FindsOwn c (replay opened es) entry) (sym (take_front now rest whole is)) (finds_own c (state_at origin now) entry finds)

  neighbours : (again first : ℕ) (entry : EntryValue) (now rest : List HistoryEntry) (later : List ℕ) (count : ℕ) → Found again first entry now
      → whole ≡ now ++ rest → Others (length now) entry later → again + length later ≡ count → Neighbours first count
  neighbours zero first entry now rest later count found is others many = record {
    begins = let front = length_front from found.0.0 now found.0.2 in let at = found.2 in omega (arith, front, at);
    ends = let front = length_front now rest whole is in let at = found.2 in omega (arith, front, at);
    entry = entry;
    found = subst (λ n. FindsOwn c (replay opened (take n whole)) entry) (sym found.2) (found_there entry now rest is found.1);
    later = later;
    many = omega (arith, many);
    others = subst (λ n. Others n entry later) (sym found.2) others;
  }
  neighbours (suc again) first entry now rest later count found is others many =
      let came = found.3 in
      let front = length_front found.1 came.0 now came.2 in
      let past = length_front now rest whole is in
      neighbours again first found.0 found.1 (came.0 ++ rest) (length now ∷ later) count found.2 (further found.1 now came.0 rest whole is came.2)
      (front, past, entry, found_there entry now rest is found.4, found.5, others)
      (more again (length later) count many)
    where
      more : (m n k : ℕ) → suc m + n ≡ k → m + suc n ≡ k
      more m n k is = omega (arith, is)

-- ---- the call

module _ (old new : LakeSeat) (number : ℕ) (c : ReadCall) (moment : ℕ) (blocks : BlockCounts) (held held_now : Option HeldObjects)
    (paused paused_now : Option ℕ) where
  abbrev by : Caller
  by = caller old.number number

  abbrev request : CallRequest
  request = asked_at (reading c) moment

  abbrev met_with : (missed : ℕ) (bytes : Option (List ℕ)) → CallMet
  met_with missed bytes = record {
    store_faults = no_counts;
    block_faults = blocks.faults;
    misses = blocks.misses;
    missed_last = blocks.missed_last;
    bytes = bytes;
    changed = 0;
    missed = missed;
  }

  abbrev Reads : Result ObjectRead FlowFault → Type 0
  Reads outcome = HasRead c.repo c.path c.at.e old new blocks held held_now paused paused_now outcome

  abbrev Answers : Result ObjectRead FlowFault → Type 0
  Answers outcome = IsReadAnswer old new number c moment blocks held held_now paused paused_now (answer_read (length new.seen) outcome)

  abbrev AreGiven : LakeOrigin → Result ObjectRead FlowFault → Option (List ℕ) → Type 0
  AreGiven from outcome bytes = AreBytesOf held (λ entry. looked c (state_at from new.seen) ≡ Ok entry) outcome bytes

  module _ (outcome : Result ObjectRead FlowFault) (read : Reads outcome) where
    abbrev origin : LakeOrigin
    origin = read.origin

    abbrev start : State
    start = opened_state origin

    reached : HasReached start by request [] old.seen new.seen
    reached = reached_on start by request [] old.seen old.seen new.seen (reached_nothing start by request old.seen) read.only.came

    answered : (told : CallReply) (bytes : Option (List ℕ)) → IsReadTold (names_of (reading c)) outcome told → AreGiven origin outcome bytes
        → IsServed lake_rules start by old.seen new.seen request (met_with read.missed bytes) told (length new.seen) (length new.seen) → Answers outcome
    answered told bytes tells are served = record {
      read = read;
      met = met_with read.missed bytes;
      told = told;
      tells = tells;
      flow = record { origin = origin; goes = read.only.goes number; served = served };
      place = refl;
      faults = refl;
      misses = refl;
      missed_last = refl;
      missed = refl;
      bytes = are;
    }

    stopped : (told : CallReply) (bytes : Option (List ℕ)) → IsReadTold (names_of (reading c)) outcome told → AreGiven origin outcome bytes
        → Hinders lake_rules start by request (met_with read.missed bytes) (length old.seen) (Finds c ∷ []) new.seen told → Answers outcome
    stopped told bytes tells are hinders =
        answered told bytes tells are
        (served_stopped start by request (met_with read.missed bytes) told nothing_fixed old.seen [] (Finds c ∷ []) new.seen new.seen (length new.seen) refl
        reached hinders (OwesNothing refl refl refl))

    -- an exception has its cause
    excepted : (refused : Refusal) (bytes : Option (List ℕ)) → IsReadTold (names_of (reading c)) outcome (reply.Refused refused)
        → AreGiven origin outcome bytes
        → IsReadException c (met_with read.missed bytes) start (length old.seen) new.seen (reply.Refused refused) → Answers outcome
    excepted refused bytes tells are cause =
        stopped (reply.Refused refused) bytes tells are (ByCause (λ none. absurd (cc (none))) cause)

    -- a refusal holds in the state
    refused_in : (refused : Refusal) → IsReadTold (names_of (reading c)) outcome (reply.Refused refused) → AreGiven origin outcome None
        → PointRefused (reading c) (Finds c) (state_at origin new.seen) (reply.Refused refused) → Answers outcome
    refused_in refused tells are why =
        stopped (reply.Refused refused) None tells are
        (ByState (Finds c) [] refl (moved (λ s. PointRefused (reading c) (Finds c) s (reply.Refused refused)) start new.seen why))

  -- the entry that was looked for again was found before
  found_before : (fault : FlowFault) (read : Reads (Err fault)) (entry : EntryValue)
      → MissedOf read.origin old.number c.repo c.path c.at.e blocks held read.missed read.gets old.seen entry new.seen
      → (before : ℕ) × (length old.seen ≤ before) × (before ≤ length new.seen)
      × FindsOwn c (replay (opened_state read.origin) (take before new.seen)) entry
  found_before fault read entry missed =
      let found = last_found read.origin old.number c.repo c.path c.at.e old.seen missed.again missed.first entry missed.before missed.found in
      let past = length_front missed.before missed.came.0 new.seen missed.came.2 in
      let began = came_before read.origin old.number c.repo c.path c.at.e old.seen missed.again missed.first entry missed.before missed.found in
      let front = length_front old.seen began.0 missed.before began.2 in (
        length missed.before,
        front,
        past,
        found_there c read.origin old.number old.seen new.seen entry missed.before missed.came.0 missed.came.2 found,
      )

  refused_served : (fault : FlowFault) → IsLookRefusal fault → (read : Reads (Err fault))
      → look_up (state_at read.origin new.seen) c.repo c.at.e c.path ≡ Err fault → Answers (Err fault)
  refused_served (Step step.NoRepo) kind read is =
      refused_in (Err (Step step.NoRepo)) read (refusal.NoRepo c.repo) (_, refl, refl) refl
      (inl (step.NoRepo, finds_none c (state_at read.origin new.seen) (Step step.NoRepo) kind is, (_, refl, refl)))
  refused_served (Step (step.NoRef reference.Expression)) kind read is =
      refused_in (Err (Step (step.NoRef reference.Expression))) read (refusal.NoRef c.at.text) (_, refl, refl) refl
      (inl (step.NoRef reference.Expression, finds_none c (state_at read.origin new.seen) (Step (step.NoRef reference.Expression)) kind is, (_, refl, refl)))
  refused_served (Step (step.NoParent at)) kind read is =
      refused_in (Err (Step (step.NoParent at))) read (refusal.NoParent (OfExpression c.at.text)) (_, refl, refl) refl
      (inl (step.NoParent at, finds_none c (state_at read.origin new.seen) (Step (step.NoParent at)) kind is, (_, refl, refl)))
  refused_served NoPath kind read is =
      refused_in (Err NoPath) read (refusal.NoPath c.path) refl refl
      (inl (step.NoPath, finds_none c (state_at read.origin new.seen) NoPath kind is, (_, refl, refl)))
  refused_served (Gone at) kind read is =
      refused_in (Err (Gone at)) read (refusal.Gone c.path) refl refl
      (inr (refusal.Gone c.path, finds_none c (state_at read.origin new.seen) (Gone at) kind is, refl))
  refused_served (NotHeld at) kind read is =
      refused_in (Err (NotHeld at)) read (refusal.NotHeld c.path) refl refl
      (inr (refusal.NotHeld c.path, finds_none c (state_at read.origin new.seen) (NotHeld at) kind is, refl))
  refused_served fault kind read is = absurd kind

  served : (outcome : Result ObjectRead FlowFault) → Reads outcome → Answers outcome
  served (Ok object) read =
      let entry = read.ends.0 in
      let asked = read.ends.1 in
      let fitted = read.ends.2 in
      let s = state_at read.origin new.seen in
      let finds = finds_own c s entry
      (last_found read.origin old.number c.repo c.path c.at.e old.seen read.missed asked.first entry new.seen asked.found) in
      let met = met_with read.missed (Some object.1) in
      let told = reply.Done (done.Object entry.content_type object.1) in
      answered (Ok object) read told (Some object.1) (entry, ap (λ (d : Done). d.entry) fitted.1, refl) refl
      (served_done (opened_state read.origin) by request met told nothing_fixed old.seen [] (Finds c) new.seen new.seen refl (reached (Ok object) read)
      (moved (PointPasses (reading c) (Finds c)) (opened_state read.origin) new.seen (entry, finds)) (
        nothing_fixed,
        refl,
        done.Object entry.content_type object.1,
        (entry, object.1, moved (λ state. FindsOwn c state entry) (opened_state read.origin) new.seen finds, refl, fitted.0, refl),
        refl,
      )
      (sym (append-nil new.seen)))
  served (Err (Damaged named found)) read =
      let entry = read.ends.0 in
      let asked = read.ends.1 in
      let body = read.ends.2 in
      let fitted = read.ends.3 in
      let looked_up = last_found read.origin old.number c.repo c.path c.at.e old.seen read.missed asked.first entry new.seen asked.found in
      let finds = finds_own c (state_at read.origin new.seen) entry looked_up in
      excepted (Err (Damaged named found)) read (refusal.Damaged c.path) (Some body) refl (body, refl, fitted.2, entry, looked_up, read.ends.4)
      (inr (inr (inr (record { entry = entry; found = finds; bytes = body; got = refl; other = fitted.0 }, refl))))
  served (Err BlockFault) read =
      excepted (Err BlockFault) read refusal.BlockFault None refl refl (inr (inl (read.ends.2, refl)))
  served (Err (Lost at)) read =
      let entry = read.ends.0 in
      let missed = read.ends.1 in
      let before = found_before (Lost at) read entry missed in
      excepted (Err (Lost at)) read (refusal.Lost c.path) None refl refl
      (inr (inr (inl (
        record {
          counted = λ counting. let so = read.counted counting in let once = missed.once in omega (arith, so, once);
          entry = entry;
          before = before.0;
          begins = before.1;
          ends = before.2;
          was = before.3;
          same = finds_own c (state_at read.origin new.seen) entry read.ends.2;
          missed = read.ends.3 ∙ ap Some (sym read.ends.4);
        },
        refl,
      ))))
  served (Err (TooManyTries first last)) read =
      let near = neighbours c read.origin old.number old.seen new.seen 10 first read.ends.0 new.seen [] [] 10 read.ends.1 (sym (append-nil new.seen)) tt refl in
      excepted (Err (TooManyTries first last)) read refusal.TooManyTries None refl refl
      (inl (
        record {
          ten = read.ends.3;
          counted = λ counting. let so = read.counted counting in let ten = read.ends.3 in omega (arith, so, ten);
          first = first;
          begins = near.begins;
          ends = near.ends;
          entry = near.entry;
          found = near.found;
          later = near.later;
          eleven = near.many;
          others = near.others;
        },
        refl,
      ))
  served (Err NoMemory) read = stopped (Err NoMemory) read reply.NoMemory None refl refl (ByMemory refl)
  served (Err fault) read = refused_served fault read.ends.0 read read.ends.1

  -- so is an answer of it
  pub served_so : (outcome : Result ObjectRead FlowFault) (answer : FlowAnswer ObjectRead FlowFault) → answer ≡ answer_read (length new.seen) outcome
      → Reads outcome → IsReadAnswer old new number c moment blocks held held_now paused paused_now answer
  served_so outcome answer is read =
      subst (IsReadAnswer old new number c moment blocks held held_now paused paused_now) (sym is) (served outcome read)
