-- What a client is told of a flow of objects.
use Rattle.std.specs.Prelude.{◌≡◌, ℕ, List, Option, MatchOption, Result, Ok, Err}
use Rattle.lake_values.specs.Entry.{EntryValue}
use Rattle.lake_calls.specs.CallRefusals.{CallNames}
use Rattle.lake_calls.specs.declared.reply.CallReply.{CallReply}
use Rattle.lake_calls.specs.declared.reply.CallReply.TheVariants as reply
use Rattle.lake_calls.specs.declared.reply.Done.{Done as DoneReply}
use Rattle.lake_calls.specs.declared.reply.Done.TheVariants as done
use Rattle.lake_calls.specs.declared.reply.ObjectStatistics.{ObjectStatistics}
use Rattle.lake_calls.specs.declared.reply.Refusal.TheVariants as refusal
use Rattle.read_flow.specs.WrittenWords.{BlockFault, Damaged, Done, FlowFault, Gone, Lost, NoMemory, NoPath, NotHeld, Step, TooManyTries}
use Rattle.read_flow.specs.ObjectReads.{ObjectRead}
use Rattle.call_readings.specs.ToldFaults.{IsFaultTold, IsTextTold}
use Rattle.call_objects.specs.declared.writes.Stands.{Stands}
use Rattle.call_objects.specs.declared.writes.Stands.TheVariants.{Uploaded, Linked, Copied}

-- THE REPLY TO A FLOW'S REFUSAL: of a step as to the step's; where it names the path, unless no memory was left for that.
abbrev pub IsFlowReplied : CallNames → FlowFault → CallReply → Type 0
IsFlowReplied names (Step fault) told = IsFaultTold names fault told
IsFlowReplied names (TooManyTries first last) told = told ≡ reply.Refused refusal.TooManyTries
IsFlowReplied names NoPath told = IsTextTold (refusal.NoPath names.path) told
IsFlowReplied names (Gone number) told = IsTextTold (refusal.Gone names.path) told
IsFlowReplied names (NotHeld address) told = IsTextTold (refusal.NotHeld names.path) told
IsFlowReplied names (Lost number) told = IsTextTold (refusal.Lost names.path) told
IsFlowReplied names (Damaged named found) told = IsTextTold (refusal.Damaged names.path) told
IsFlowReplied names BlockFault told = told ≡ reply.Refused refusal.BlockFault
IsFlowReplied names NoMemory told = told ≡ reply.NoMemory

-- THE REPLY TO A FLOW: what is told where it was done, and else that to its refusal.
abbrev pub IsOutcomeReplied : {X : Type 0} → CallNames → (X → CallReply → Type 0) → Result X FlowFault → CallReply → Type 0
IsOutcomeReplied names Replies (Ok done) told = Replies done told
IsOutcomeReplied names Replies (Err fault) told = IsFlowReplied names fault told

-- of a change that is told without an entry
abbrev pub IsChangeReplied : DoneReply → Done → CallReply → Type 0
IsChangeReplied what done told = told ≡ reply.Done what

-- of an object that stands at a path now, by how it came to
abbrev pub stood : Stands → ObjectStatistics → DoneReply
stood Uploaded object = done.Uploaded object
stood Linked object = done.Linked object
stood Copied object = done.Copied object

-- one stands there after each flow that was done; without one, that memory ran out
abbrev pub IsObjectReplied : (path : List ℕ) → Stands → Option EntryValue → CallReply → Type 0
IsObjectReplied path stands entry told =
    MatchOption entry (told ≡ reply.NoMemory) (λ entry. told ≡ reply.Done (stood stands (record { path = path; entry = entry })))

-- of an object that was read: its content type and its bytes
abbrev pub IsBytesReplied : ObjectRead → CallReply → Type 0
IsBytesReplied object told =
    MatchOption object.0.entry (told ≡ reply.NoMemory) (λ entry. told ≡ reply.Done (done.Object entry.content_type object.1))
