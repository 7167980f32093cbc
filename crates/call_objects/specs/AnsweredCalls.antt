-- What a call is promised, whatever it is.
use Rattle.std.specs.Prelude.{◌≡◌, ℕ, Option}
use Rattle.block_store.specs.Blocks.{HeldObjects}
use Rattle.read_flow.specs.FlowWords.{BlockCounts, IsFlow, KeepsFitting, LakeSeat, asked_at}
use Rattle.lake_calls.specs.CallExceptions.{CallMet}
use Rattle.lake_calls.specs.declared.call.Call.{Call}
use Rattle.read_flow.specs.WrittenWords.{NeverFall}
use Rattle.call_readings.specs.declared.answers.Answered.{Answered}
use Rattle.call_objects.specs.HeldReplies.{ReadsGiven, ReadsHeld}

-- A CALL WAS ANSWERED, between its seat before it and after it, by what the store of objects counted and held: it was served, at the
-- position and with the edge that are answered; what it met of the store of objects is what that counted, whose counts don't fall;
-- bytes that are told, lost or damaged are so by what that holds; where its seat is alone, bodies that fitted fit still; and the seat
-- is at the same lake still.
pub record IsCallAnswered (old new : LakeSeat) (number : ℕ) (call : Call) (moment : ℕ) (blocks : BlockCounts)
    (held held_now : Option HeldObjects) (answer : Answered) : Type 0 where
  pub met : CallMet
  pub flow : IsFlow old new number (asked_at call moment) met answer.reply answer.position answer.edge
  pub faults : met.block_faults ≡ blocks.faults
  pub misses : met.misses ≡ blocks.misses
  pub missed_last : met.missed_last ≡ blocks.missed_last
  pub counts : NeverFall blocks
  pub fitting : KeepsFitting old new held held_now
  pub given : ReadsGiven old new held call met.bytes answer.reply answer.position
  pub reads : ReadsHeld old held call answer.reply answer.position
  pub turn : new.turn ≡ old.turn
