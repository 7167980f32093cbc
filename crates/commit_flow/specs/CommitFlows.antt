-- What a flow of a new head promises of its answer.
use Rattle.std.specs.Prelude.{◌≡◌, ℕ, List, [], Option, Result, Ok, Err, length}
use Rattle.lake_base.specs.declared.digest.Digest.{Digest}
use Rattle.lake_values.specs.Commit.{AboutValue, CommitRecordValue}
use Rattle.commit_graph.specs.Expressions.{RefExprValue}
use Rattle.lake_model.specs.declared.fault.StepFault.{StepFault}
use Rattle.lake_model.specs.declared.history.SealFor.{SealFor}
use Rattle.lake_model.specs.declared.history.SealFor.TheVariants as seal
use Rattle.lake_model.specs.declared.reply.Point.{Point}
use Rattle.lake_model.specs.declared.reply.Versions.{Versions}
use Rattle.shared_lake.specs.SeatSteps.{LakeSeat}
use Rattle.lake_calls.specs.CallExceptions.{CallMet}
use Rattle.lake_calls.specs.CallRefusals.{CallNames, chosen_parent, names_of}
use Rattle.lake_calls.specs.declared.call.Call.{Call}
use Rattle.lake_calls.specs.declared.reply.CallReply.{CallReply}
use Rattle.lake_calls.specs.declared.reply.CallReply.TheVariants as reply
use Rattle.lake_calls.specs.declared.reply.Done.{Done as DoneReply}
use Rattle.lake_calls.specs.declared.reply.Refusal.{Refusal}
use Rattle.flow_steps.specs.declared.answer.FlowAnswer.{FlowAnswer}
use Rattle.flow_steps.specs.FlowAnswers.{BlockCounts, asked_at}
use Rattle.flow_steps.specs.Flows.{IsFlow}
use Rattle.head_steps.specs.HeadSeals.{HasResolved, HasSealed}
use Rattle.head_steps.specs.HeadTries.{MadeHead}
use Rattle.head_steps.specs.NewHeads.{NewHead}
use Rattle.commit_flow.specs.declared.answer.CommitFault.{CommitFault}
use Rattle.commit_flow.specs.declared.answer.CommitFault.TheVariants.{NoMemory}
use Rattle.commit_flow.specs.CommitFaults.{IsCommitTold, fault_of_parent, fault_of_step}
use Rattle.commit_flow.specs.CommitTries.{HaveTriedHead}

-- what is said of a commit that is made at this moment: its date is that, whatever was given
abbrev pub said_at : (moment : ℕ) → AboutValue → AboutValue
said_at moment about = record { committer = about.committer; message = about.message; metadata = about.metadata; date = moment }

-- ---- how it went

-- HOW A NEW HEAD WAS MADE, OR WASN'T, between the call's seat before its seal and after its last step, with the versions that its
-- tries found: the seal was refused; or it stood, and the head was tried.
pub data HasMadeHead (head : NewHead) (why : SealFor) (call : ℕ) (old new : LakeSeat) (paused pauses : Option ℕ) (versions : List ℕ)
    (result : Result MadeHead CommitFault) : Type 0 where
  Unsealed : (fault : StepFault) → HasSealed head.repo head.branch why call old new (Err fault) → pauses ≡ paused → versions ≡ []
      → result ≡ Err (fault_of_step fault) → HasMadeHead head why call old new paused pauses versions result
  Sealed : (given : Versions) (behind : LakeSeat) → HasSealed head.repo head.branch why call old behind (Ok given)
      → (tried : HaveTriedHead head call behind new paused pauses result) → versions ≡ tried.versions
      → HasMadeHead head why call old new paused pauses versions result

-- HOW A MERGE WENT: its expression led nowhere; or to a commit, once, and the head of that was made or wasn't.
pub data HasMerged (repo : List ℕ) (e : RefExprValue) (merging : Digest → NewHead) (call : ℕ) (old new : LakeSeat) (paused pauses : Option ℕ)
    (versions : List ℕ) (result : Result MadeHead CommitFault) : Type 0 where
  NoSource : (fault : StepFault) → HasResolved repo e call old new (Err fault) → pauses ≡ paused → versions ≡ []
      → result ≡ Err (fault_of_step fault) → HasMerged repo e merging call old new paused pauses versions result
  Merging : (point : Point) (behind : LakeSeat) → HasResolved repo e call old behind (Ok point)
      → HasMadeHead (merging point.commit) seal.Other call behind new paused pauses versions result
      → HasMerged repo e merging call old new paused pauses versions result

-- HOW A REVERT OR A CHERRY-PICK WENT: its expression led nowhere; or to a commit, once, which has no parent as it is asked for, or
-- memory ran out; or it has one, and the head of both was made or wasn't.
pub data HasPicked (repo : List ℕ) (e : RefExprValue) (number : Option ℕ) (picking : Point → Digest → NewHead) (call : ℕ) (old new : LakeSeat)
    (paused pauses : Option ℕ) (versions : List ℕ) (result : Result MadeHead CommitFault) : Type 0 where
  NoCommit : (fault : StepFault) → HasResolved repo e call old new (Err fault) → pauses ≡ paused → versions ≡ []
      → result ≡ Err (fault_of_step fault) → HasPicked repo e number picking call old new paused pauses versions result
  NotChosen : (point : Point) (refused : Refusal) → HasResolved repo e call old new (Ok point) → chosen_parent point.parents number ≡ Err refused
      → pauses ≡ paused → versions ≡ [] → result ≡ Err (fault_of_parent refused)
      → HasPicked repo e number picking call old new paused pauses versions result
  NotSaid : (point : Point) → HasResolved repo e call old new (Ok point) → pauses ≡ paused → versions ≡ [] → result ≡ Err NoMemory
      → HasPicked repo e number picking call old new paused pauses versions result
  Picking : (point : Point) (parent : Digest) (behind : LakeSeat) → HasResolved repo e call old behind (Ok point)
      → chosen_parent point.parents number ≡ Ok parent
      → HasMadeHead (picking point parent) seal.Other call behind new paused pauses versions result
      → HasPicked repo e number picking call old new paused pauses versions result

-- ---- what is answered

-- what a client is told of what came of it
abbrev pub IsMadeHeadTold : CallNames → (Digest × CommitRecordValue → DoneReply) → Result MadeHead CommitFault → CallReply → Type 0
IsMadeHeadTold names telling (Ok made) told = told ≡ reply.Done (telling (made.1, made.2))
IsMadeHeadTold names telling (Err fault) told = IsCommitTold names fault told

-- A FLOW OF A NEW HEAD ANSWERED A CALL: it served it, at the place of all that its seat has seen then, by what its client is told of
-- what came of it; what the call met of the store of objects is what that counted, and so many of its tries found other
-- versions. Of the store of pairs nothing is said but its note.
pub record IsHeadAnswer (telling : Digest × CommitRecordValue → DoneReply) (old new : LakeSeat) (number : ℕ) (call : Call) (moment : ℕ)
    (blocks : BlockCounts) (changed : ℕ) (answer : FlowAnswer MadeHead CommitFault) : Type 0 where
  pub met : CallMet
  pub told : CallReply
  pub tells : IsMadeHeadTold (names_of call) telling answer.outcome told
  pub flow : IsFlow old new number (asked_at call moment) met told answer.position answer.edge
  pub position : answer.position ≡ length new.seen
  pub edge : answer.edge ≡ length new.seen
  pub faults : met.block_faults ≡ blocks.faults
  pub misses : met.misses ≡ blocks.misses
  pub missed_last : met.missed_last ≡ blocks.missed_last
  pub tries : met.changed ≡ changed

-- what a flow answers, at all that its seat has seen
abbrev pub answered_at : Result MadeHead CommitFault → LakeSeat → FlowAnswer MadeHead CommitFault
answered_at result seat = record { outcome = result; position = length seat.seen; edge = length seat.seen }

-- what came of a flow, by the versions that its tries found
abbrev pub Went : Type 1
Went = (versions : List ℕ) → Result MadeHead CommitFault → Type 0

-- so it went, and so it answered its call
pub record IsAnswered (HasGone : Went) (telling : Digest × CommitRecordValue → DoneReply) (old new : LakeSeat) (number : ℕ) (call : Call) (moment : ℕ)
    (blocks : BlockCounts) (answer : FlowAnswer MadeHead CommitFault) : Type 0 where
  pub versions : List ℕ
  pub went : HasGone versions answer.outcome
  pub answers : IsHeadAnswer telling old new number call moment blocks (length versions) answer
