-- What the answer of a step is for its call: what its client is told, or the step's fault.
use Rattle.std.specs.Prelude.{◌≡◌, List, [], ◌∷◌, Result, Ok, Err}
use Rattle.lake_base.specs.declared.digest.Digest.{Digest}
use Rattle.lake_values.specs.Commit.{CommitRecordValue}
use Rattle.lake_values.specs.declared.settings.Note.{Note}
use Rattle.lake_values.specs.declared.settings.Note.TheVariants as note
use Rattle.lake_model.specs.declared.fault.Reference.TheVariants as reference
use Rattle.lake_model.specs.declared.fault.StepFault.{StepFault}
use Rattle.lake_model.specs.declared.fault.StepFault.TheVariants.{NoRef, NoNote}
use Rattle.lake_calls.specs.CallReadings.{known_commit}
use Rattle.lake_calls.specs.CallRefusals.{CallNames}
use Rattle.lake_calls.specs.declared.reply.CallReply.{CallReply}
use Rattle.lake_calls.specs.declared.reply.CallReply.TheVariants as reply
use Rattle.lake_calls.specs.declared.reply.Done.{Done}
use Rattle.lake_calls.specs.declared.reply.Done.TheVariants as done
use Rattle.call_readings.specs.ToldFaults.{IsFaultTold}

-- the first commit of a log: without one the commit of the expression isn't there
abbrev pub first_commit : List (Digest × CommitRecordValue) → Result Done StepFault
first_commit [] = Err (NoRef reference.Expression)
first_commit (one ∷ later) = Ok (done.Commit (known_commit one))

-- a setting that is protection, and one that is hooks
abbrev pub protection_in : Note → Result Done StepFault
protection_in (note.Protection protection) = Ok (done.Protection protection)
protection_in other = Err NoNote

abbrev pub hooks_in : Note → Result Done StepFault
hooks_in (note.Hooks hooks) = Ok (done.Hooks hooks)
hooks_in other = Err NoNote

-- the reply to it
abbrev pub IsReplied : CallNames → Result Done StepFault → CallReply → Type 0
IsReplied names (Ok told) answer = answer ≡ reply.Done told
IsReplied names (Err fault) answer = IsFaultTold names fault answer
