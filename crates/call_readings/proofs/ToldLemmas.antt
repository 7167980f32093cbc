-- Which faults a client is told of as refusals, and that those of readings are such.
use Rattle.std.proofs.Common.{◌≡◌, ◌⊎◌, inl, inr, ℕ, Bool, true, false, List, [], ◌∷◌, Option, Some, None, Result, Ok, Err}
use Rattle.std.specs.Prelude.{is_some, if◌then◌else◌}
use Rattle.std.specs.FinMap.{get}
use Rattle.std.specs.Option.{option_map_or}
use Rattle.lake_base.specs.declared.digest.Digest.{Digest}
use Rattle.lake_values.specs.Ancestry.{commit_of}
use Rattle.commit_graph.specs.Expressions.{RefExprValue}
use Rattle.commit_graph.specs.Moves.{moves_target}
use Rattle.lake_model.specs.declared.fault.Reference.TheVariants.{After}
use Rattle.lake_model.specs.declared.fault.StepFault.{StepFault}
use Rattle.lake_model.specs.declared.fault.StepFault.TheVariants as step
use Rattle.lake_model.specs.State.{Repository, State}
use Rattle.lake_model.specs.Readings.{expression_map, known_commit, map_at, ◌then◌}
use Rattle.lake_model.specs.Resolving.{expression_target, in_repository_of, moved_target, name_target, parent_fault}
use Rattle.lake_calls.specs.CallExceptions.{CallMet}
use Rattle.lake_calls.specs.CallReadings.{reading_of}
use Rattle.lake_calls.specs.CallRefusals.{CallNames, IsToldOf}
use Rattle.lake_calls.specs.Courses.{Answers, call_course, nothing_fixed}
use Rattle.lake_calls.specs.DoneReplies.{IsDone}
use Rattle.lake_calls.specs.declared.call.Call.{Call}
use Rattle.lake_calls.specs.declared.reply.CallReply.{CallReply}
use Rattle.lake_calls.specs.declared.reply.CallReply.TheVariants as reply
use Rattle.lake_calls.specs.declared.reply.Done.{Done}
use Rattle.call_readings.specs.ToldFaults.{IsFaultTold}

-- neither for a version, nor of the store
abbrev pub IsTellable : StepFault → Type 0
IsTellable (step.Changed version settings) = ⊥
IsTellable step.StoreFault = ⊥
IsTellable _ = Unit {0}

-- such a fault is told as a refusal, unless memory ran out
pub told_plainly : (names : CallNames) (fault : StepFault) (told : CallReply) → IsTellable fault → IsFaultTold names fault told
    → IsToldOf names fault told ⊎ (told ≡ reply.NoMemory)
told_plainly names (step.Changed version settings) told tellable is = absurd tellable
told_plainly names step.StoreFault told tellable is = absurd tellable
told_plainly names step.NoMemory told tellable is = inr is
told_plainly names fault told tellable is = elim is [ inl so ↦ inl so | inr starved ↦ inr starved.1 ]

-- ---- readings

-- what a reading is refused for is such a fault
abbrev pub TellsFault : {X : Type 0} → Result X StepFault → Type 0
TellsFault (Ok x) = Unit {0}
TellsFault (Err fault) = IsTellable fault

pub tells_then : {X Y : Type 0} (first : Result X StepFault) (next : X → Result Y StepFault) → TellsFault first → ((x : X) → TellsFault (next x))
    → TellsFault (first then next)
tells_then (Ok x) next one each = each x
tells_then (Err fault) next one each = one

pub tells_some : {X Y : Type 0} (next : X → Result Y StepFault) (found : Option X) (fault : StepFault) → IsTellable fault
    → ((x : X) → TellsFault (next x)) → TellsFault (option_map_or next found (Err fault))
tells_some next (Some x) fault one each = each x
tells_some next None fault one each = one

pub tells_in : {X : Type 0} (state : State) (repo : List ℕ) (next : Repository → Result X StepFault) → ((r : Repository) → TellsFault (next r))
    → TellsFault (in_repository_of state repo next)
tells_in state repo next each = tells_some next (get state.repositories repo) step.NoRepo tt each

tells_parent : (reached : Result Digest ℕ) → TellsFault (parent_fault reached)
tells_parent (Ok id) = tt
tells_parent (Err number) = tt

tells_moved : (r : Repository) (e : RefExprValue) (found : Option Digest) → TellsFault (moved_target r e found)
tells_moved r e (Some id) = tells_parent (moves_target r.commits 0 id e.moves)
tells_moved r e None = tt

pub tells_target : (r : Repository) (e : RefExprValue) → TellsFault (expression_target r e)
tells_target r e = tells_moved r e (name_target r e.name)

pub tells_map : (r : Repository) (e : RefExprValue) → TellsFault (expression_map r e)
tells_map r e = tells_then (expression_target r e) (λ id. Ok (map_at r e id)) (tells_target r e) (λ id. tt)

tells_if : {X : Type 0} (there : Bool) (x : X) → TellsFault (if there then Ok x else Err (step.NoRef After))
tells_if true x = tt
tells_if false x = tt

pub tells_known : (r : Repository) (other : Option Digest) → TellsFault (known_commit r other)
tells_known r None = tt
tells_known r (Some id) = tells_if (is_some (commit_of r.commits id)) (Some id)

-- ---- a call that reads

-- A call is answered by one reading, with what this says in a state, and what that is refused for is told.
pub record Reads (call : Call) (reading : State → Result Done StepFault) : Type 0 where
  pub course : (moment : ℕ) → call_course call moment nothing_fixed ≡ Answers ∷ []
  pub says : (s : State) → reading_of call s ≡ Some (reading s)
  pub done : (moment : ℕ) (met : CallMet) (s : State) (told : Done) → reading s ≡ Ok told → IsDone call moment nothing_fixed met s told
  pub tells : (s : State) → TellsFault (reading s)
