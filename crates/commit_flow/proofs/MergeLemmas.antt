-- A call that resolves an expression before its seal.
use Rattle.std.proofs.Common.{◌≡◌, ℕ, List, [], ◌∷◌, Option, Some, None, Ok, Err, refl, sym, ap, subst, ◌∙◌}
use Rattle.std.proofs.lemmas.List.{append-nil}
use Rattle.lake_base.specs.declared.digest.Digest.{Digest}
use Rattle.lake_values.specs.Commit.{CommitRecordValue}
use Rattle.commit_graph.specs.Expressions.{RefExprValue}
use Rattle.core_puts.specs.KeeperViews.{KeeperView}
use Rattle.core_readings.specs.Preparations.{HasSides}
use Rattle.lake_core.specs.Lakes.{LakeValue, state}
use Rattle.lake_model.specs.declared.fault.StepFault.{StepFault}
use Rattle.lake_model.specs.declared.fault.StepFault.TheVariants as step
use Rattle.lake_model.specs.declared.reply.Point.{Point}
use Rattle.lake_model.specs.declared.reply.Sides.TheVariants.{Merge, Pick}
use Rattle.lake_model.specs.Readings.{resolve_reply}
use Rattle.lake_model.specs.State.{State}
use Rattle.lake_core.specs.declared.standing.LakeOrigin.{LakeOrigin}
use Rattle.shared_lake.specs.SeatSteps.{Finds, LakeSeat}
use Rattle.call_placement.specs.Points.{Came}
use Rattle.call_placement.specs.Sessions.{caller}
use Rattle.lake_calls.specs.CallRefusals.{IsToldOf, PointPasses, PointRefused, chosen_parent, names_of, resolved}
use Rattle.lake_calls.specs.Courses.{CallPoint, call_course, nothing_fixed}
use Rattle.lake_calls.specs.LakeRules.{lake_rules}
use Rattle.lake_calls.specs.declared.call.Call.{Call}
use Rattle.lake_calls.specs.declared.reply.CallReply.{CallReply}
use Rattle.lake_calls.specs.declared.reply.CallReply.TheVariants as reply
use Rattle.lake_calls.specs.declared.reply.Done.{Done as DoneReply}
use Rattle.flow_steps.specs.FlowAnswers.{BlockCounts, asked_at}
use Rattle.flow_steps.specs.FlowSeats.{GoesOn, opened_state, state_at}
use Rattle.flow_steps.proofs.FlowEndLemmas.{moved, reached_nothing, reached_on, reached_reading}
use Rattle.flow_steps.proofs.RetryLemmas.{met_by, no_store, one_origin, told_some}
use Rattle.flow_steps.proofs.SeatFlowLemmas.{goes_further}
use Rattle.head_steps.specs.HeadSeals.{HasResolved}
use Rattle.head_steps.proofs.HeadServingLemmas.{first_refused, first_starved}
use Rattle.head_steps.proofs.KeptSidesLemmas.{merged_there, picked_there}
use Rattle.commit_flow.specs.declared.answer.CommitFault.{CommitFault}
use Rattle.commit_flow.specs.declared.answer.CommitFault.TheVariants.{NoMemory}
use Rattle.commit_flow.specs.CommitFaults.{IsCommitTold, fault_of_step}
use Rattle.commit_flow.specs.CommitFlows.{IsHeadAnswer, answered_at}
use Rattle.commit_flow.proofs.HeadAnswerLemmas.{HasBegun, stopped_so}

-- a call that met nothing before its seal goes on as it is
pub begun_at_once : (origin : LakeOrigin) (number : ℕ) (call : Call) (moment : ℕ) (old : LakeSeat) → HasBegun origin number call moment [] old old
begun_at_once origin number call moment old = record {
  reached = reached_nothing (opened_state origin) (caller old.number number) (asked_at call moment) old.seen;
  same_number = refl;
  added = [];
  began = sym (append-nil old.seen);
  whole = λ next goes. goes;
}

-- ---- an expression that led nowhere

-- a point that resolves the call's expression is refused where that is
abbrev pub IsResolving : Call → CallPoint → Type 0
IsResolving call point = (s : State) (fault : StepFault) (told : CallReply) → resolved s call ≡ Err fault → IsToldOf (names_of call) fault told
    → PointRefused call point s told

module _ (telling : Digest × CommitRecordValue → DoneReply) (number : ℕ) (call : Call) (moment : ℕ) (blocks : BlockCounts) (point : CallPoint)
    (later : List CallPoint) (course : call_course call moment nothing_fixed ≡ point ∷ later) (old new : LakeSeat) where
  abbrev Answers : CommitFault → Type 0
  Answers fault = IsHeadAnswer telling old new number call moment blocks 0 (answered_at (Err fault) new)

  -- memory ran out
  pub starved_first : (origin : LakeOrigin) → GoesOn origin number old new → Came lake_rules (caller old.number number) old.seen new.seen → Answers NoMemory
  starved_first origin goes came =
      stopped_so telling old new number call moment blocks 0 origin goes NoMemory reply.NoMemory refl
      (first_starved origin (caller old.number number) call moment point later course old.seen new.seen (met_by no_store blocks 0) reply.NoMemory came refl)

  -- it was refused for this
  pub refused_first : (origin : LakeOrigin) → GoesOn origin number old new → Came lake_rules (caller old.number number) old.seen new.seen
      → (fault : CommitFault) (told : CallReply) → IsCommitTold (names_of call) fault told
      → PointRefused call point (state_at origin new.seen) told → Answers fault
  refused_first origin goes came fault told tells refused =
      stopped_so telling old new number call moment blocks 0 origin goes fault told tells
      (first_refused origin (caller old.number number) call moment point later course old.seen new.seen (met_by no_store blocks 0) told came refused)

  module _ (resolving : IsResolving call point) (repo : List ℕ) (e : RefExprValue) (asks : (s : State) → resolved s call ≡ resolve_reply s repo e) where
    pub unresolved : (fault : StepFault) → HasResolved repo e number old new (Err fault) → Answers (fault_of_step fault)
    unresolved step.NoMemory so = starved_first so.origin so.goes so.came
    unresolved step.StoreFault so = absurd so.ends
    unresolved (step.Changed version settings) so = absurd so.ends
    unresolved fault so =
        let says = told_some (names_of call) fault tt tt in
        refused_first so.origin so.goes so.came (fault_of_step fault) (reply.Refused says.0) (says.0, says.1, refl)
        (resolving (state_at so.origin new.seen) fault (reply.Refused says.0) (asks (state_at so.origin new.seen) ∙ so.ends) (says.0, says.1, refl))

-- ---- an expression that led to a commit

module _ (number : ℕ) (repo : List ℕ) (e : RefExprValue) (point : Point) (old now : LakeSeat) (so : HasResolved repo e number old now (Ok point)) where
  -- the origin of a seat that goes on from there is the one that it had
  origin_then : (origin : LakeOrigin) → now.origin ≡ Some origin → origin ≡ so.origin
  origin_then origin from = one_origin so.origin origin old now now.seen now.mine so.goes.from so.goes.seat from

  module _ (call : Call) (moment : ℕ) (at : CallPoint) where
    pub begun_behind : lake_rules.makes at ≡ None → PointPasses call at (state_at so.origin now.seen) → (origin : LakeOrigin) → now.origin ≡ Some origin
        → HasBegun origin number call moment (at ∷ []) old now
    begun_behind reads passes origin from =
        subst (λ (o : LakeOrigin). HasBegun o number call moment (at ∷ []) old now) (sym (origin_then origin from)) (record {
          reached = reached_reading (opened_state so.origin) (caller old.number number) (asked_at call moment) [] at old.seen now.seen
              (reached_on (opened_state so.origin) (caller old.number number) (asked_at call moment) [] old.seen old.seen now.seen
              (reached_nothing (opened_state so.origin) (caller old.number number) (asked_at call moment) old.seen) so.came)
              reads (moved (PointPasses call at) (opened_state so.origin) now.seen passes);
          same_number = ap (λ (s : LakeSeat). s.number) so.goes.seat;
          added = so.goes.added;
          began = so.goes.seen;
          whole = λ next goes. goes_further so.origin number old now next so.goes goes;
        })

  module _ {K : Type 0} (view : KeeperView K) (origin : LakeOrigin) (later : LakeSeat) (found : LakeValue K) (goes : GoesOn origin number now later)
      (finds : Finds view later found) where
    goes_there : GoesOn so.origin number now later
    goes_there = subst (λ (o : LakeOrigin). GoesOn o number now later) (origin_then origin goes.from) goes

    pub source_there : HasSides (state found) repo (Merge point.commit)
    source_there = merged_there view so.origin number now later goes_there found finds repo e point so.ends

    pub both_there : (chosen : Option ℕ) (parent : Digest) → chosen_parent point.parents chosen ≡ Ok parent
        → HasSides (state found) repo (Pick parent point.commit) × HasSides (state found) repo (Pick point.commit parent)
    both_there chosen parent is = picked_there view so.origin number now later goes_there found finds repo e point so.ends chosen parent is
