-- A body that is put: its entry, and what comes of its upload.
use Rattle.std.specs.Prelude.{◌≡◌, ◌⊎◌, ◌++◌, ℕ, true, List, [], ◌∷◌, length, Option, Some, None, IfSome, Result, Ok, Err, IfOk}
use Rattle.std.specs.FinMap.{insert}
use Rattle.lake_base.specs.Digest.{sha256}
use Rattle.lake_values.specs.Entry.{EntryValue}
use Rattle.lake_values.specs.declared.entry.Change.TheVariants.{Delete, Put}
use Rattle.lake_values.specs.declared.entry.Change.{Change}
use Rattle.lake_values.specs.declared.entry.Place.TheVariants.{Own}
use Rattle.lake_model.specs.declared.fault.StepFault.{StepFault}
use Rattle.lake_model.specs.declared.fault.StepFault.TheVariants as step
use Rattle.lake_model.specs.declared.history.HistoryEntry.{HistoryEntry}
use Rattle.lake_model.specs.declared.history.Operation.{Operation}
use Rattle.lake_model.specs.declared.history.Operation.TheVariants.{TicketDrop, TicketTake}
use Rattle.lake_model.specs.State.{State}
use Rattle.lake_model.specs.History.{accepted_entry, faulted_entry}
use Rattle.lake_model.specs.Refusals.{causes_of_change, first_cause}
use Rattle.lake_model.specs.Steps.{write_causes}
use Rattle.block_store.specs.Blocks.{HeldObjects, MayHavePut}
use Rattle.lake_core.specs.declared.standing.LakeOrigin.{LakeOrigin}
use Rattle.shared_lake.specs.SeatSteps.{LakeSeat}
use Rattle.call_placement.specs.Points.{Came}
use Rattle.call_placement.specs.Sessions.{caller}
use Rattle.lake_calls.specs.Calls.{UploadCall}
use Rattle.lake_calls.specs.CallExceptions.{Counts, HasRisen}
use Rattle.lake_calls.specs.Courses.{upload_entry}
use Rattle.lake_calls.specs.LakeRules.{by_caller, is_closed, lake_rules}
use Rattle.lake_calls.specs.declared.call.Call.TheVariants.{Objects}
use Rattle.lake_calls.specs.declared.objects.ObjectCall.TheVariants as object
use Rattle.lake_calls.specs.declared.reply.Done.{Done as DoneReply}
use Rattle.lake_calls.specs.declared.reply.Done.TheVariants.{Uploaded}
use Rattle.flow_steps.specs.declared.answer.FlowAnswer.{FlowAnswer}
use Rattle.flow_steps.specs.FlowAnswers.{BlockCounts}
use Rattle.flow_steps.specs.FlowChanges.{HasMade}
use Rattle.flow_steps.specs.FlowSeats.{GoesOn, state_at}
use Rattle.flow_steps.specs.FlowTries.{staging}
use Rattle.write_flow.specs.declared.answer.Done.{Done}
use Rattle.write_flow.specs.declared.answer.FlowFault.{FlowFault}
use Rattle.write_flow.specs.declared.answer.FlowFault.TheVariants.{Step, BlockFault, NoMemory}
use Rattle.write_flow.specs.declared.upload.Stored.{Stored}
use Rattle.write_flow.specs.declared.upload.Stored.TheVariants.{Told, Faulted, Refused}
use Rattle.write_flow.specs.FlowFaults.{fault_of_step}
use Rattle.write_flow.specs.WriteFlows.{IsAnswer}
use Rattle.write_flow.specs.WriteTries.{HaveTried}

-- the entry of a body that is stored under a number
abbrev pub body_entry : (number : ℕ) (body : List ℕ) (moment : ℕ) (content_type : List ℕ) → EntryValue
body_entry number body moment content_type = record {
  place = Own number (record { 0 = sha256 body });
  size = length body;
  mtime = moment;
  content_type = content_type;
  metadata = [];
}

-- what is told of an upload: the entry that stands at the path, of the number that was given out
abbrev pub IsUploadTold : UploadCall → (moment : ℕ) → Option EntryValue → DoneReply → Type 0
IsUploadTold u moment entry told = (number : ℕ) × (entry ≡ Some (upload_entry u moment number))
    × (told ≡ Uploaded (record { path = u.path; entry = upload_entry u moment number }))

-- a try that tells the entry, as one that tells no copy
abbrev pub untold : Result EntryValue FlowFault → Result (Option EntryValue) FlowFault
untold (Ok entry) = Ok None
untold (Err fault) = Err fault

-- The object of a body was to be staged: no step was made for want of memory, or it was tried so, by tries that found these
-- versions, and its entry is told.
abbrev pub BodyTried : (repo branch path : List ℕ) → EntryValue → (call : ℕ) → (old new : LakeSeat) → (paused pauses : Option ℕ) → (versions : List ℕ)
    → Result EntryValue FlowFault → Type 0
BodyTried repo branch path entry call old new paused pauses versions result =
    ((new ≡ old) × (pauses ≡ paused) × (versions ≡ []) × (result ≡ Err NoMemory))
    ⊎ ((tried : HaveTried (staging repo branch path (Put entry)) call old new paused pauses (untold result))
    × (versions ≡ tried.versions) × IfOk result (λ told. told ≡ entry))

-- A body was to be stored and its object to be staged: the store of objects failed, and counted it; or the object was to be
-- staged, and that came of it.
abbrev pub BodyStored : (repo branch path : List ℕ) → EntryValue → (call : ℕ) → (faults : Counts) → (old new : LakeSeat) → (paused pauses : Option ℕ)
    → (versions : List ℕ) → Result EntryValue FlowFault → Type 0
BodyStored repo branch path entry call faults old new paused pauses versions result =
    ((new ≡ old) × (pauses ≡ paused) × (versions ≡ []) × (result ≡ Err BlockFault) × HasRisen faults)
    ⊎ BodyTried repo branch path entry call old new paused pauses versions result

-- a body was put under a number: where the store tells what it holds, it holds the body there, and else what it held
abbrev pub IsPut : (number : ℕ) (body : List ℕ) → (held held_now : Option HeldObjects) → Type 0
IsPut number body held held_now = IfSome held (λ objects. held_now ≡ Some (insert objects number body))

-- What the store of objects holds behind a body that was to be put under a number, by what came of the body: the store failed, and
-- may have put it; or memory ran out, before it was put or behind that; or it was put.
abbrev pub HoldsPut : (number : ℕ) (body : List ℕ) → (held held_now : Option HeldObjects) → Result EntryValue FlowFault → Type 0
HoldsPut number body held held_now (Err BlockFault) =
    IfSome held (λ objects. (now : HeldObjects) × (held_now ≡ Some now) × MayHavePut number body objects now)
HoldsPut number body held held_now (Err NoMemory) = (held_now ≡ held) ⊎ IsPut number body held held_now
HoldsPut number body held held_now result = IsPut number body held held_now

-- what came of it, told apart
abbrev pub stored_of : Result EntryValue FlowFault → Stored
stored_of (Ok entry) = Told entry
stored_of (Err (Step step.StoreFault)) = Faulted
stored_of (Err fault) = Refused fault

-- what a flow answers that is refused, at a position and with an edge
abbrev pub refused_at : FlowFault → (position edge : ℕ) → FlowAnswer Done FlowFault
refused_at fault position edge = record { outcome = Err fault; position = position; edge = edge }

-- HOW A REFUSED UPLOAD GIVES ITS NUMBER UP, between its seat before and after: the drop stood; or the store failed at it, or
-- memory ran out, which is answered in place of the refusal; or the lake takes no more changes.
pub data GaveUp (call number : ℕ) (old new : LakeSeat) (fault : FlowFault) (answer : FlowAnswer Done FlowFault) : Type 0 where
  Dropped : (origin : LakeOrigin) (found : List HistoryEntry) → GoesOn origin call old new → Came lake_rules (caller old.number call) old.seen found
      → first_cause (causes_of_change (state_at origin found)) ≡ None
      → new.seen ≡ found ++ accepted_entry (by_caller (caller old.number call)) (TicketDrop number) ∷ []
      → answer ≡ refused_at fault (length old.seen) (length new.seen) → GaveUp call number old new fault answer
  StoreFailing : (origin : LakeOrigin) (found : List HistoryEntry) → GoesOn origin call old new → Came lake_rules (caller old.number call) old.seen found
      → first_cause (causes_of_change (state_at origin found)) ≡ None
      → new.seen ≡ found ++ faulted_entry (by_caller (caller old.number call)) (TicketDrop number) ∷ []
      → answer ≡ refused_at (Step step.StoreFault) (length new.seen) (length new.seen) → GaveUp call number old new fault answer
  Starved : (origin : LakeOrigin) → GoesOn origin call old new → Came lake_rules (caller old.number call) old.seen new.seen
      → answer ≡ refused_at NoMemory (length new.seen) (length new.seen) → GaveUp call number old new fault answer
  Closed : (origin : LakeOrigin) → GoesOn origin call old new → Came lake_rules (caller old.number call) old.seen new.seen
      → is_closed (state_at origin new.seen) ≡ true → answer ≡ refused_at fault (length old.seen) (length old.seen)
      → GaveUp call number old new fault answer

-- what is answered of a call that was refused before its number was given up, by what came of that
abbrev pub answer_of_drop : FlowFault → (before now : ℕ) → Result ℕ StepFault → FlowAnswer Done FlowFault
answer_of_drop fault before now (Ok at) = refused_at fault before now
answer_of_drop fault before now (Err step.StoreFault) = refused_at (Step step.StoreFault) now now
answer_of_drop fault before now (Err step.NoMemory) = refused_at NoMemory now now
answer_of_drop fault before now (Err refusal) = refused_at fault before before

-- a number is given out for an upload: the next one
abbrev pub GivesNumber : (repo branch : List ℕ) → State → (number : ℕ) → Operation → Type 0
GivesNumber repo branch state number operation = (number ≡ state.next_number) × (operation ≡ TicketTake repo branch number)

-- an upload's ticket was taken, or wasn't
abbrev pub HasTakenNumber : (repo branch : List ℕ) → (call : ℕ) → (old new : LakeSeat) → Result ℕ StepFault → Type 0
HasTakenNumber repo branch call old new result =
    HasMade (λ state. first_cause (write_causes state repo branch)) (GivesNumber repo branch) call old new result

-- How an upload ended behind its number: its entry is told, or that the store of pairs failed; or it gave its number up.
abbrev pub UploadEnds : (call number : ℕ) → (behind new : LakeSeat) → Result EntryValue FlowFault → FlowAnswer Done FlowFault → Type 0
UploadEnds call number behind new (Ok entry) answer = (new ≡ behind)
    × (answer ≡ record { outcome = Ok (record { at = length new.seen; entry = Some entry }); position = length new.seen; edge = length new.seen })
UploadEnds call number behind new (Err (Step step.StoreFault)) answer =
    (new ≡ behind) × (answer ≡ refused_at (Step step.StoreFault) (length new.seen) (length new.seen))
UploadEnds call number behind new (Err fault) answer = GaveUp call number behind new fault answer

-- HOW AN UPLOAD WENT, between its seat before and after, with the versions that its tries found: it got no number; or it got
-- one, and its body was to be stored and its object to be staged, and so it ended. What the store of objects holds changed by this
-- body alone.
pub data HasUploaded (u : UploadCall) (moment call : ℕ) (faults : Counts) (held held_now : Option HeldObjects) (old new : LakeSeat)
    (paused pauses : Option ℕ) (versions : List ℕ) (answer : FlowAnswer Done FlowFault) : Type 0 where
  WithoutNumber : (fault : StepFault) → HasTakenNumber u.repo u.branch call old new (Err fault) → pauses ≡ paused → versions ≡ []
      → held_now ≡ held → answer ≡ refused_at (fault_of_step fault) (length new.seen) (length new.seen)
      → HasUploaded u moment call faults held held_now old new paused pauses versions answer
  WithNumber : (number : ℕ) (given behind : LakeSeat) (stored : Result EntryValue FlowFault) → HasTakenNumber u.repo u.branch call old given (Ok number)
      → BodyStored u.repo u.branch u.path (upload_entry u moment number) call faults given behind paused pauses versions stored
      → HoldsPut number u.body held held_now stored → UploadEnds call number behind new stored answer
      → HasUploaded u moment call faults held held_now old new paused pauses versions answer

-- AN UPLOAD WAS ANSWERED: so it went, and so it answered its call, of whose tries as many found another version as these.
pub record IsUploadAnswer (u : UploadCall) (moment call : ℕ) (blocks : BlockCounts) (held held_now : Option HeldObjects) (old new : LakeSeat)
    (paused pauses : Option ℕ) (answer : FlowAnswer Done FlowFault) : Type 0 where
  pub versions : List ℕ
  pub went : HasUploaded u moment call blocks.faults held held_now old new paused pauses versions answer
  pub answers : IsAnswer old new call (Objects (object.Upload u)) moment (IsUploadTold u moment) blocks (length versions) answer

-- the entry that a change puts, where its tries weren't refused
abbrev pub told_by : Result (Option EntryValue) FlowFault → Change → Result EntryValue FlowFault
told_by (Ok copied) (Put entry) = Ok entry
told_by (Ok copied) Delete = Err NoMemory
told_by (Err fault) change = Err fault
