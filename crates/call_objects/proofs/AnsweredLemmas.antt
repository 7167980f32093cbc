-- A call is answered by a flow that served it: its reply is what the flow tells, or that memory ran out.
use Rattle.std.proofs.Common.{◌≡◌, ◌⊎◌, inl, inr, ℕ, List, Option, refl, sym, subst}
use Rattle.block_store.specs.Blocks.{HeldObjects}
use Rattle.read_flow.specs.FlowWords.{BlockCounts, IsFlow, KeepsFitting, LakeSeat, asked_at, opened_state}
use Rattle.call_placement.specs.Sessions.{caller}
use Rattle.call_placement.proofs.StarvedLemmas.{starves}
use Rattle.lake_calls.specs.CallExceptions.{CallMet}
use Rattle.lake_calls.specs.LakeRules.{lake_rules}
use Rattle.lake_calls.specs.Requests.{CallRequest}
use Rattle.lake_calls.specs.declared.call.Call.{Call}
use Rattle.lake_calls.specs.declared.call.Call.TheVariants.{Objects}
use Rattle.lake_calls.specs.declared.objects.ObjectCall.TheVariants as object
use Rattle.lake_calls.specs.declared.objects.ReadCall.{ReadCall}
use Rattle.lake_calls.specs.declared.reply.CallReply.{CallReply}
use Rattle.lake_calls.specs.declared.reply.CallReply.TheVariants as reply
use Rattle.lake_calls.proofs.RuleLemmas.{tells_done}
use Rattle.read_flow.specs.WrittenWords.{NeverFall}
use Rattle.call_readings.specs.declared.answers.Answered.{Answered}
use Rattle.call_objects.specs.AnsweredCalls.{IsCallAnswered}
use Rattle.call_objects.specs.HeldReplies.{ReadsGiven, ReadsHeld}

-- a reply is this, or that memory ran out
abbrev pub ToldOrStarved : (told answered : CallReply) → Type 0
ToldOrStarved told answered = (answered ≡ told) ⊎ (answered ≡ reply.NoMemory)

-- a call that reads no object's bytes
abbrev pub IsOtherCall : Call → Type 0
IsOtherCall call = (c : ReadCall) → call ≡ Objects (object.Read c) → ⊥

-- of such a call nothing is said of bytes that are held
reads_none : (old : LakeSeat) (held : Option HeldObjects) (call : Call) (told : CallReply) (position : ℕ) → IsOtherCall call
    → ReadsHeld old held call told position
reads_none old held call told position other c origin objects is = absurd (other c is)

gives_none : (old new : LakeSeat) (held : Option HeldObjects) (call : Call) (given : Option (List ℕ)) (told : CallReply) (position : ℕ)
    → IsOtherCall call → ReadsGiven old new held call given told position
gives_none old new held call given told position other c origin objects is = absurd (other c is)

-- a flow that served a call served it too where the client is told instead that memory ran out
pub starved_flow : (old new : LakeSeat) (number : ℕ) (request : CallRequest) (met : CallMet) (told : CallReply) (position edge : ℕ)
    → IsFlow old new number request met told position edge → IsFlow old new number request met reply.NoMemory position edge
starved_flow old new number request met told position edge flow = record {
  origin = flow.origin;
  goes = flow.goes;
  served = starves lake_rules tells_done (opened_state flow.origin) (caller old.number number) old.seen new.seen request met told reply.NoMemory
      position edge refl flow.served;
}

module _ (old new : LakeSeat) (number : ℕ) (call : Call) (moment : ℕ) (blocks : BlockCounts) (held held_now : Option HeldObjects) (answer : Answered) where
  abbrev Flows : CallMet → CallReply → Type 0
  Flows met told = IsFlow old new number (asked_at call moment) met told answer.position answer.edge

  flows_so : (met : CallMet) (told : CallReply) → Flows met told → ToldOrStarved told answer.reply → Flows met answer.reply
  flows_so met told flow (inl same) = subst (Flows met) (sym same) flow
  flows_so met told flow (inr none) =
      subst (Flows met) (sym none) (starved_flow old new number (asked_at call moment) met told answer.position answer.edge flow)

  -- so a call is answered
  pub answered : (met : CallMet) (told : CallReply) → Flows met told → ToldOrStarved told answer.reply → met.block_faults ≡ blocks.faults
      → met.misses ≡ blocks.misses → met.missed_last ≡ blocks.missed_last → NeverFall blocks → KeepsFitting old new held held_now
      → ReadsGiven old new held call met.bytes answer.reply answer.position → ReadsHeld old held call answer.reply answer.position
      → new.turn ≡ old.turn → IsCallAnswered old new number call moment blocks held held_now answer
  answered met told flow is faults misses missed counts fitting given reads turn = record {
    met = met;
    flow = flows_so met told flow is;
    faults = faults;
    misses = misses;
    missed_last = missed;
    counts = counts;
    fitting = fitting;
    given = given;
    reads = reads;
    turn = turn;
  }

  -- and one that reads no object's bytes
  pub other_answered : (met : CallMet) (told : CallReply) → Flows met told → ToldOrStarved told answer.reply → met.block_faults ≡ blocks.faults
      → met.misses ≡ blocks.misses → met.missed_last ≡ blocks.missed_last → NeverFall blocks → KeepsFitting old new held held_now
      → IsOtherCall call → new.turn ≡ old.turn → IsCallAnswered old new number call moment blocks held held_now answer
  other_answered met told flow is faults misses missed counts fitting other =
      answered met told flow is faults misses missed counts fitting (gives_none old new held call met.bytes answer.reply answer.position other)
      (reads_none old held call answer.reply answer.position other)
