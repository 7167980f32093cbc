-- What the reading of an object's bytes promises of its answer.
use Rattle.std.specs.Prelude.{◌≡◌, ℕ, List, length, Option, Some, None, Result, Ok, Err}
use Rattle.lake_base.specs.Digest.{sha256}
use Rattle.lake_values.specs.Entry.{EntryValue}
use Rattle.block_store.specs.Blocks.{HeldObjects}
use Rattle.shared_lake.specs.SeatSteps.{LakeSeat}
use Rattle.lake_calls.specs.CallExceptions.{CallMet}
use Rattle.lake_calls.specs.CallRefusals.{CallNames, names_of}
use Rattle.lake_calls.specs.declared.call.Call.{Call}
use Rattle.lake_calls.specs.declared.call.Call.TheVariants.{Objects}
use Rattle.lake_calls.specs.declared.objects.ObjectCall.TheVariants as object
use Rattle.lake_calls.specs.declared.objects.ReadCall.{ReadCall}
use Rattle.lake_calls.specs.declared.reply.CallReply.{CallReply}
use Rattle.lake_calls.specs.declared.reply.CallReply.TheVariants as reply
use Rattle.lake_calls.specs.declared.reply.Done.TheVariants as done
use Rattle.flow_steps.specs.Flows.{IsFlow}
use Rattle.flow_steps.specs.declared.answer.FlowAnswer.{FlowAnswer}
use Rattle.write_flow.specs.declared.answer.FlowFault.{FlowFault}
use Rattle.write_flow.specs.declared.answer.FlowFault.TheVariants.{Damaged}
use Rattle.write_flow.specs.FlowFaults.{IsFlowTold}
use Rattle.flow_steps.specs.FlowAnswers.{BlockCounts, asked_at}
use Rattle.flow_steps.specs.FlowSeats.{state_at}
use Rattle.read_flow.specs.ObjectLooks.{look_up}
use Rattle.read_flow.specs.ObjectReads.{HasRead, HoldsAt, ObjectRead}

-- a call that reads
abbrev pub reading : ReadCall → Call
reading c = Objects (object.Read c)

-- what a client is told of what came of a reading: its content type and its bytes
abbrev pub IsReadTold : CallNames → Result ObjectRead FlowFault → CallReply → Type 0
IsReadTold names (Ok object) told =
    (entry : EntryValue) × (object.0.entry ≡ Some entry) × (told ≡ reply.Done (done.Object entry.content_type object.1))
IsReadTold names (Err fault) told = IsFlowTold names fault told

-- the bytes that the store gave, by what came of them: those of the object; or bytes that the store has under the number of an entry
-- that was found, and that don't fit it
abbrev pub AreBytesOf : (held : Option HeldObjects) → (Finds : EntryValue → Type 0) → Result ObjectRead FlowFault → Option (List ℕ) → Type 0
AreBytesOf held Finds (Ok object) bytes = bytes ≡ Some object.1
AreBytesOf held Finds (Err (Damaged named found)) bytes =
    (body : List ℕ) × (bytes ≡ Some body) × (found.0 ≡ sha256 body) × (entry : EntryValue) × Finds entry × HoldsAt held entry.place (Some body)
AreBytesOf held Finds (Err fault) bytes = bytes ≡ None

-- what a reading answers, at a position
abbrev pub answer_read : (position : ℕ) → Result ObjectRead FlowFault → FlowAnswer ObjectRead FlowFault
answer_read position outcome = record { outcome = outcome; position = position; edge = position }

-- A READING ANSWERED A CALL: it served it, at what the seat has seen, by what its client is told; its looks and its gets were so;
-- and what the call met of the store of objects is what that counted, with how many gets missed and the bytes that one gave.
pub record IsReadAnswer (old new : LakeSeat) (number : ℕ) (c : ReadCall) (moment : ℕ) (blocks : BlockCounts)
    (held held_now : Option HeldObjects) (paused paused_now : Option ℕ) (answer : FlowAnswer ObjectRead FlowFault) : Type 0 where
  pub read : HasRead c.repo c.path c.at.e old new blocks held held_now paused paused_now answer.outcome
  pub met : CallMet
  pub told : CallReply
  pub tells : IsReadTold (names_of (reading c)) answer.outcome told
  pub flow : IsFlow old new number (asked_at (reading c) moment) met told answer.position answer.edge
  pub place : answer ≡ answer_read (length new.seen) answer.outcome
  pub faults : met.block_faults ≡ blocks.faults
  pub misses : met.misses ≡ blocks.misses
  pub missed_last : met.missed_last ≡ blocks.missed_last
  pub missed : met.missed ≡ read.missed
  pub bytes : AreBytesOf held (λ entry. look_up (state_at read.origin new.seen) c.repo c.at.e c.path ≡ Ok entry) answer.outcome met.bytes
