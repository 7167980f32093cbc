-- The reply to what came of a flow is what its promise has of it, or that memory ran out.
use Rattle.std.proofs.Common.{inl, Result, Ok, Err, sym, ◌∙◌}
use Rattle.lake_base.specs.declared.digest.Digest.{Digest}
use Rattle.lake_values.specs.Commit.{CommitRecordValue}
use Rattle.lake_calls.specs.CallRefusals.{CallNames}
use Rattle.lake_calls.specs.declared.reply.CallReply.{CallReply}
use Rattle.lake_calls.specs.declared.reply.Done.{Done}
use Rattle.call_objects.specs.CallWords as write
use Rattle.head_steps.specs.HeadTries.{MadeHead}
use Rattle.commit_flow.specs.declared.answer.CommitFault.{CommitFault}
use Rattle.commit_flow.specs.declared.answer.CommitFault.TheVariants.{Step}
use Rattle.commit_flow.specs.CommitFaults.{IsCommitTold}
use Rattle.commit_flow.specs.CommitFlows.{IsMadeHeadTold}
use Rattle.call_objects.proofs.AnsweredLemmas.{ToldOrStarved}
use Rattle.call_objects.proofs.ToldLemmas as object
use Rattle.call_heads.specs.ToldHeads.{IsCommitReplied, IsHeadReplied, told_of_made}

-- a step's refusal is told as in a flow of objects
refusal_told : (names : CallNames) (fault : CommitFault) (told answer : CallReply) → IsCommitTold names fault told → IsCommitReplied names fault answer
    → ToldOrStarved told answer
refusal_told names (Step fault) told answer of_told is = object.refusal_told names (write.Step fault) told answer of_told is
refusal_told names fault told answer of_told is = inl (is ∙ sym of_told)

pub head_told : (names : CallNames) (telling : Digest × CommitRecordValue → Done) (made : Result MadeHead CommitFault) (told answer : CallReply)
    → IsMadeHeadTold names telling made told → IsHeadReplied names (told_of_made telling made) answer → ToldOrStarved told answer
head_told names telling (Ok made) told answer of_told is = inl (is ∙ sym of_told)
head_told names telling (Err fault) told answer of_told is = refusal_told names fault told answer of_told is
