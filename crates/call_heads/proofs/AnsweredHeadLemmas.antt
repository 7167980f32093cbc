-- A call of a new head that is answered by its flow.
use Rattle.std.proofs.Common.{◌≡◌, ℕ, Option, Result, refl, sym, subst, arith}
use Rattle.lake_base.specs.declared.digest.Digest.{Digest}
use Rattle.lake_values.specs.Commit.{CommitRecordValue}
use Rattle.block_store.specs.Blocks.{HeldObjects}
use Rattle.call_objects.specs.CallWords.{Answered, BlockCounts, FlowAnswer, IsFlow, LakeSeat, asked_at, counted_between, still}
use Rattle.lake_calls.specs.CallExceptions.{CallMet}
use Rattle.lake_calls.specs.CallRefusals.{names_of}
use Rattle.lake_calls.specs.declared.call.Call.TheVariants.{Heads}
use Rattle.lake_calls.specs.declared.heads.HeadCall.{HeadCall}
use Rattle.lake_calls.specs.declared.reply.CallReply.{CallReply}
use Rattle.lake_calls.specs.declared.reply.Done.{Done}
use Rattle.call_objects.proofs.FlowLemmas.{fits_unchanged}
use Rattle.head_steps.specs.HeadTries.{MadeHead}
use Rattle.call_objects.specs.AnsweredCalls.{IsCallAnswered}
use Rattle.call_objects.proofs.AnsweredLemmas.{IsOtherCall}
use Rattle.call_objects.proofs.AnsweredLemmas as by_flow
use Rattle.commit_flow.specs.declared.answer.CommitFault.{CommitFault}
use Rattle.commit_flow.specs.CommitFlows.{IsMadeHeadTold}
use Rattle.call_heads.specs.ToldHeads.{IsHeadReplied, told_of_made}
use Rattle.call_heads.proofs.ToldHeadLemmas.{head_told}

-- a call of commits reads no object's bytes
pub other_call : (call : HeadCall) → IsOtherCall (Heads call)
other_call call c is = absurd cc

module _ {Store : Type 0} (faults misses missed : Store → ℕ) (held : Store → Option HeldObjects) (store left : Store) (same : left ≡ store)
    (old new : LakeSeat) (number : ℕ) (call : HeadCall) (moment : ℕ) (turn : new.turn ≡ old.turn) where
  -- by what the store of objects counted and held when it was so
  abbrev Answers : Answered → Store → Type 0
  Answers answer s = IsCallAnswered old new number (Heads call) moment
      (counted_between (faults store) (misses store) (faults s) (misses s) (missed s)) (held store) (held s) answer

  -- ITS FLOW ANSWERED IT, over a store of objects that stayed as it was, and its client is told what came of that.
  pub answered : (telling : Digest × CommitRecordValue → Done) (flow : FlowAnswer MadeHead CommitFault) (met : CallMet) (told : CallReply)
      → IsMadeHeadTold (names_of (Heads call)) telling flow.outcome told
      → IsFlow old new number (asked_at (Heads call) moment) met told flow.position flow.edge
      → met.block_faults ≡ record { before = faults store; now = faults store } → met.misses ≡ record { before = misses store; now = misses store }
      → met.missed_last ≡ missed store → (came : Result Done CommitFault) → came ≡ told_of_made telling flow.outcome → (reply : CallReply)
      → IsHeadReplied (names_of (Heads call)) came reply → Answers (record { reply = reply; position = flow.position; edge = flow.edge }) left
  answered telling flow met told tells is of_faults of_misses last came so reply replied =
      let blocks : BlockCounts = still (faults store) (misses store) (missed store) in
      let answer : Answered = record { reply = reply; position = flow.position; edge = flow.edge } in
      subst (Answers answer) (sym same)
      (by_flow.other_answered old new number (Heads call) moment blocks (held store) (held store) answer met told is
      (head_told (names_of (Heads call)) telling flow.outcome told reply tells (subst (λ o. IsHeadReplied (names_of (Heads call)) o reply) so replied))
      of_faults of_misses last (omega arith, omega arith)
      (fits_unchanged old new number (asked_at (Heads call) moment) met told flow.position flow.edge (held store) (held store) is (λ u asked. absurd cc) refl)
      (other_call call) turn)
