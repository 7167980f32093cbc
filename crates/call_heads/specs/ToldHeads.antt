-- What a client is told of a flow of a new head.
use Rattle.std.specs.Prelude.{◌≡◌, Result, Ok, Err}
use Rattle.lake_base.specs.declared.digest.Digest.{Digest}
use Rattle.lake_values.specs.Commit.{CommitRecordValue}
use Rattle.lake_calls.specs.CallRefusals.{CallNames}
use Rattle.lake_calls.specs.declared.reply.CallReply.{CallReply}
use Rattle.lake_calls.specs.declared.reply.CallReply.TheVariants as reply
use Rattle.lake_calls.specs.declared.reply.Done.{Done}
use Rattle.head_steps.specs.HeadTries.{MadeHead}
use Rattle.call_objects.specs.CallWords.{IsFaultTold}
use Rattle.commit_flow.specs.declared.answer.CommitFault.{CommitFault}
use Rattle.commit_flow.specs.declared.answer.CommitFault.TheVariants.{Step}
use Rattle.commit_flow.specs.CommitFaults.{IsCommitTold}

-- what came of a flow, with what its client is told in place of the head that was made
abbrev pub told_of_made : (Digest × CommitRecordValue → Done) → Result MadeHead CommitFault → Result Done CommitFault
told_of_made telling (Ok made) = Ok (telling (made.1, made.2))
told_of_made telling (Err fault) = Err fault

-- the reply to a refusal: to a step's what is told of it, unless it takes a text and no memory was left for that; to any other
-- what is told of it
abbrev pub IsCommitReplied : CallNames → CommitFault → CallReply → Type 0
IsCommitReplied names (Step fault) answer = IsFaultTold names fault answer
IsCommitReplied names fault answer = IsCommitTold names fault answer

-- the reply to what came of a flow
abbrev pub IsHeadReplied : CallNames → Result Done CommitFault → CallReply → Type 0
IsHeadReplied names (Ok told) answer = answer ≡ reply.Done told
IsHeadReplied names (Err fault) answer = IsCommitReplied names fault answer
