-- How a new head's refusal follows from a step's or a try's, and what a client is told of it.
use Rattle.std.specs.Prelude.{◌≡◌, Result, Ok, Err}
use Rattle.lake_base.specs.declared.digest.Digest.{Digest}
use Rattle.lake_model.specs.declared.fault.StepFault.{StepFault}
use Rattle.lake_model.specs.declared.fault.StepFault.TheVariants as step
use Rattle.head_drafts.specs.declared.fault.DraftFault.TheVariants as draft
use Rattle.head_drafts.specs.declared.fault.HeadFault.{HeadFault}
use Rattle.head_drafts.specs.declared.fault.HeadFault.TheVariants as attempt
use Rattle.lake_calls.specs.CallRefusals.{CallNames, IsToldOf, told_of_head}
use Rattle.lake_calls.specs.declared.reply.CallReply.{CallReply}
use Rattle.lake_calls.specs.declared.reply.CallReply.TheVariants as reply
use Rattle.lake_calls.specs.declared.reply.MissingParent.TheVariants.{OfNumber}
use Rattle.lake_calls.specs.declared.reply.Refusal.{Refusal}
use Rattle.lake_calls.specs.declared.reply.Refusal.TheVariants as refusal
use Rattle.commit_flow.specs.declared.answer.CommitFault.{CommitFault}
use Rattle.commit_flow.specs.declared.answer.CommitFault.TheVariants.{Step, TooManyTries, Head, NoParent, NeedsParentNumber, NoMemory}

-- a step's refusal as a flow answers it: that memory ran out has an answer of its own
abbrev pub fault_of_step : StepFault → CommitFault
fault_of_step step.NoMemory = NoMemory
fault_of_step fault = Step fault

-- a try's refusal
abbrev pub fault_of_try : HeadFault → CommitFault
fault_of_try (attempt.Step fault) = fault_of_step fault
fault_of_try (attempt.Draft (draft.Refused cause)) = Head cause
fault_of_try (attempt.Draft draft.NoMemory) = NoMemory

-- that a commit has no parent as it is asked for
abbrev pub fault_of_parent : Refusal → CommitFault
fault_of_parent (refusal.NoParent (OfNumber number)) = NoParent number
fault_of_parent refused = NeedsParentNumber

-- the parent that is chosen, as a flow answers it
abbrev pub parent_answer : Result Digest Refusal → Result Digest CommitFault
parent_answer (Ok parent) = Ok parent
parent_answer (Err refused) = Err (fault_of_parent refused)

-- what a client is told of a flow that was refused, by what its call names
abbrev pub IsCommitTold : CallNames → CommitFault → CallReply → Type 0
IsCommitTold names (Step step.StoreFault) told = told ≡ reply.Refused refusal.StoreFault
IsCommitTold names (Step fault) told = IsToldOf names fault told
IsCommitTold names (TooManyTries first last) told = told ≡ reply.Refused refusal.TooManyTries
IsCommitTold names (Head cause) told = told ≡ reply.Refused (told_of_head cause)
IsCommitTold names (NoParent number) told = told ≡ reply.Refused (refusal.NoParent (OfNumber number))
IsCommitTold names NeedsParentNumber told = told ≡ reply.Refused refusal.NeedsParentNumber
IsCommitTold names NoMemory told = told ≡ reply.NoMemory
