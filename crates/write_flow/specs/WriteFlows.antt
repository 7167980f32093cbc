-- What a flow of objects promises of its answer.
use Rattle.std.specs.Prelude.{◌≡◌, ◌≤◌, ℕ, List, Option, Some, None, Result, Ok, Err, length}
use Rattle.std.specs.Option.{option_or}
use Rattle.lake_values.specs.Entry.{EntryValue}
use Rattle.lake_values.specs.declared.entry.Change.{Change}
use Rattle.lake_values.specs.declared.entry.Change.TheVariants.{Delete, Put}
use Rattle.lake_model.specs.declared.fault.StepFault.{StepFault}
use Rattle.lake_model.specs.declared.history.Operation.{Operation}
use Rattle.lake_model.specs.State.{State}
use Rattle.shared_lake.specs.SeatSteps.{LakeSeat}
use Rattle.lake_calls.specs.CallExceptions.{CallMet}
use Rattle.lake_calls.specs.CallRefusals.{CallNames, names_of}
use Rattle.lake_calls.specs.declared.call.Call.{Call}
use Rattle.lake_calls.specs.declared.reply.CallReply.{CallReply}
use Rattle.lake_calls.specs.declared.reply.CallReply.TheVariants as reply
use Rattle.lake_calls.specs.declared.reply.Done.{Done as DoneReply}
use Rattle.lake_calls.specs.declared.reply.Done.TheVariants.{Copied}
use Rattle.flow_steps.specs.declared.answer.FlowAnswer.{FlowAnswer}
use Rattle.flow_steps.specs.FlowAnswers.{BlockCounts, asked_at}
use Rattle.flow_steps.specs.FlowChanges.{HasMade}
use Rattle.flow_steps.specs.Flows.{IsFlow}
use Rattle.flow_steps.specs.FlowTries.{Guarded}
use Rattle.write_flow.specs.declared.answer.Done.{Done}
use Rattle.write_flow.specs.declared.answer.FlowFault.{FlowFault}
use Rattle.write_flow.specs.FlowFaults.{IsFlowTold, fault_of_step}
use Rattle.write_flow.specs.WriteTries.{HaveTried}

-- a flow was done, with the entry that stands at the path, and its client is told so
abbrev pub IsDoneTold : (position : ℕ) → (Option EntryValue → DoneReply → Type 0) → Done → CallReply → Type 0
IsDoneTold position Tells done told =
    (done.at ≡ position) × (what : DoneReply) × Tells done.entry what × (told ≡ reply.Done what)

-- what a client is told of what came of a flow
abbrev pub IsOutcomeTold : CallNames → (position : ℕ) → (Option EntryValue → DoneReply → Type 0) → Result Done FlowFault → CallReply → Type 0
IsOutcomeTold names position Tells (Ok done) told = IsDoneTold position Tells done told
IsOutcomeTold names position Tells (Err fault) told = IsFlowTold names fault told

-- what comes of tries that tell what they copied, where this was put: at this place
abbrev pub outcome_of : (at : ℕ) → (put : Option EntryValue) → Result (Option EntryValue) FlowFault → Result Done FlowFault
outcome_of at put (Ok copied) = Ok (record { at = at; entry = option_or copied put })
outcome_of at put (Err fault) = Err fault

-- what a step tells that finds no entry, as tries tell it
abbrev pub told_of_step : Result ℕ StepFault → Result (Option EntryValue) FlowFault
told_of_step (Ok at) = Ok None
told_of_step (Err fault) = Err (fault_of_step fault)

-- the entry that a change puts
abbrev pub entry_put : Change → Option EntryValue
entry_put (Put entry) = Some entry
entry_put Delete = None

-- what is told of a copy to this path, by the entry that was copied
abbrev pub IsCopyTold : (path : List ℕ) → Option EntryValue → DoneReply → Type 0
IsCopyTold path entry told = (copied : EntryValue) × (entry ≡ Some copied) × (told ≡ Copied (record { path = path; entry = copied }))

-- a store's counts of faults and of misses don't fall
abbrev pub NeverFall : BlockCounts → Type 0
NeverFall blocks = (blocks.faults.before ≤ blocks.faults.now) × (blocks.misses.before ≤ blocks.misses.now)

-- A FLOW ANSWERED A CALL: it served it, at the position and with the edge that it answers, by what its client is told of what
-- came of it; what the call met of the store of objects is what that counted, whose counts don't fall, and so many of its tries
-- found another version. Of the store of pairs nothing is said but its note.
pub record IsAnswer (old new : LakeSeat) (number : ℕ) (call : Call) (moment : ℕ) (Tells : Option EntryValue → DoneReply → Type 0)
    (blocks : BlockCounts) (changed : ℕ) (answer : FlowAnswer Done FlowFault) : Type 0 where
  pub met : CallMet
  pub told : CallReply
  pub tells : IsOutcomeTold (names_of call) answer.position Tells answer.outcome told
  pub flow : IsFlow old new number (asked_at call moment) met told answer.position answer.edge
  pub faults : met.block_faults ≡ blocks.faults
  pub misses : met.misses ≡ blocks.misses
  pub missed_last : met.missed_last ≡ blocks.missed_last
  pub counts : NeverFall blocks
  pub tries : met.changed ≡ changed

-- A FLOW OF A GUARDED CHANGE ANSWERED A CALL: the change was tried, and what came of that is the answer, at the place of all that
-- the seat has seen then; and so it answered the call, of whose tries as many found another version as these.
pub record IsTriedAnswer (guarded : Guarded) (put : Option EntryValue) (old new : LakeSeat) (number : ℕ) (call : Call) (moment : ℕ)
    (Tells : Option EntryValue → DoneReply → Type 0) (blocks : BlockCounts) (paused pauses : Option ℕ) (answer : FlowAnswer Done FlowFault) : Type 0 where
  pub result : Result (Option EntryValue) FlowFault
  pub tried : HaveTried guarded number old new paused pauses result
  pub outcome : answer.outcome ≡ outcome_of (length new.seen) put result
  pub position : answer.position ≡ length new.seen
  pub edge : answer.edge ≡ length new.seen
  pub answers : IsAnswer old new number call moment Tells blocks (length tried.versions) answer

-- A FLOW OF ONE CHANGE ANSWERED A CALL: what came of its step is the answer, at the place of all that the seat has seen then; and
-- so it answered the call.
pub record IsMadeAnswer (refused_by : State → Option StepFault) (operation : Operation) (old new : LakeSeat) (number : ℕ) (call : Call) (moment : ℕ)
    (Tells : Option EntryValue → DoneReply → Type 0) (blocks : BlockCounts) (answer : FlowAnswer Done FlowFault) : Type 0 where
  pub result : Result ℕ StepFault
  pub made : HasMade refused_by (λ state at made. made ≡ operation) number old new result
  pub outcome : answer.outcome ≡ outcome_of (length new.seen) None (told_of_step result)
  pub position : answer.position ≡ length new.seen
  pub edge : answer.edge ≡ length new.seen
  pub answers : IsAnswer old new number call moment Tells blocks 0 answer
