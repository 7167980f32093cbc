-- What a flow of a new head answers, by its seal and its tries.
use Rattle.std.proofs.Common.{◌≡◌, ℕ, List, [], ◌∷◌, ◌++◌, length, Option, Some, Result, Ok, Err, refl, sym, ap, subst, ◌∙◌}
use Rattle.lake_base.specs.declared.digest.Digest.{Digest}
use Rattle.lake_values.specs.Commit.{CommitRecordValue}
use Rattle.lake_model.specs.declared.fault.StepFault.{StepFault}
use Rattle.lake_model.specs.declared.fault.StepFault.TheVariants as step
use Rattle.lake_model.specs.declared.history.HistoryEntry.{HistoryEntry}
use Rattle.lake_model.specs.declared.history.SealFor.{SealFor}
use Rattle.lake_model.specs.declared.reply.Versions.{Versions}
use Rattle.lake_core.specs.declared.standing.LakeOrigin.{LakeOrigin}
use Rattle.shared_lake.specs.SeatSteps.{LakeSeat}
use Rattle.call_placement.specs.Rules.{Caller}
use Rattle.call_placement.specs.Served.{IsServed}
use Rattle.call_placement.specs.Sessions.{caller}
use Rattle.lake_calls.specs.CallExceptions.{CallMet}
use Rattle.lake_calls.specs.CallRefusals.{names_of, told_of_head}
use Rattle.lake_calls.specs.Courses.{CallPoint}
use Rattle.lake_calls.specs.LakeRules.{lake_rules}
use Rattle.lake_calls.specs.Requests.{CallRequest}
use Rattle.lake_calls.specs.declared.call.Call.{Call}
use Rattle.lake_calls.specs.declared.reply.CallReply.{CallReply}
use Rattle.lake_calls.specs.declared.reply.CallReply.TheVariants as reply
use Rattle.lake_calls.specs.declared.reply.Done.{Done as DoneReply}
use Rattle.lake_calls.specs.declared.reply.Refusal.TheVariants as refusal
use Rattle.flow_steps.specs.FlowAnswers.{BlockCounts, asked_at}
use Rattle.flow_steps.specs.FlowSeats.{GoesOn, opened_state}
use Rattle.flow_steps.proofs.FlowEndLemmas.{HasReached}
use Rattle.flow_steps.proofs.RetryLemmas.{counted_since, fault_counted, met_by, no_store, one_fault, one_origin, told_some}
use Rattle.flow_steps.proofs.SeatFlowLemmas.{goes_further}
use Rattle.head_steps.specs.HeadSeals.{HasSealed, SealEnds}
use Rattle.head_steps.specs.HeadTries.{MadeHead}
use Rattle.head_steps.specs.NewHeads.{NewHead}
use Rattle.head_steps.proofs.HeadServingLemmas.{MakesHead, head_done, head_faulted, head_refused, head_starved, head_tried_enough, head_unmade, seal_faulted}
use Rattle.head_steps.proofs.HeadServingLemmas.{seal_point, seal_refused, seal_starved, sealed}
use Rattle.commit_flow.specs.declared.answer.CommitFault.{CommitFault}
use Rattle.commit_flow.specs.declared.answer.CommitFault.TheVariants.{Step, TooManyTries, Head, NoParent, NeedsParentNumber, NoMemory}
use Rattle.commit_flow.specs.CommitFaults.{IsCommitTold, fault_of_step}
use Rattle.commit_flow.specs.CommitFlows.{HasMadeHead, IsHeadAnswer, Sealed, Unsealed, answered_at}
use Rattle.commit_flow.specs.CommitTries.{HaveTriedHead}
use Rattle.commit_flow.proofs.HeadLoopLemmas.{AllEnd, counted, ends_of}

-- an answer, by how its call was served
module _ (telling : Digest × CommitRecordValue → DoneReply) (old new : LakeSeat) (number : ℕ) (call : Call) (moment : ℕ) (blocks : BlockCounts) (changed : ℕ)
    (origin : LakeOrigin) (goes : GoesOn origin number old new) where
  abbrev Answers : Result MadeHead CommitFault → Type 0
  Answers result = IsHeadAnswer telling old new number call moment blocks changed (answered_at result new)

  abbrev Serves : CallMet → CallReply → Type 0
  Serves met told = IsServed lake_rules (opened_state origin) (caller old.number number) old.seen new.seen (asked_at call moment) met told
      (length new.seen) (length new.seen)

  pub done_so : (made : MadeHead) → Serves (met_by no_store blocks changed) (reply.Done (telling (made.1, made.2))) → Answers (Ok made)
  done_so made served = record {
    met = met_by no_store blocks changed;
    told = reply.Done (telling (made.1, made.2));
    tells = refl;
    flow = record { origin = origin; goes = goes; served = served };
    position = refl;
    edge = refl;
    faults = refl;
    misses = refl;
    missed_last = refl;
    tries = refl;
  }

  pub stopped_so : (fault : CommitFault) (told : CallReply) → IsCommitTold (names_of call) fault told → Serves (met_by no_store blocks changed) told
      → Answers (Err fault)
  stopped_so fault told tells served = record {
    met = met_by no_store blocks changed;
    told = told;
    tells = tells;
    flow = record { origin = origin; goes = goes; served = served };
    position = refl;
    edge = refl;
    faults = refl;
    misses = refl;
    missed_last = refl;
    tries = refl;
  }

  pub failed_so : Serves (met_by one_fault blocks changed) (reply.Refused refusal.StoreFault) → Answers (Err (Step step.StoreFault))
  failed_so served = record {
    met = met_by one_fault blocks changed;
    told = reply.Refused refusal.StoreFault;
    tells = refl;
    flow = record { origin = origin; goes = goes; served = served };
    position = refl;
    edge = refl;
    faults = refl;
    misses = refl;
    missed_last = refl;
    tries = refl;
  }

-- ---- a call that came to its seal

-- So far a call's points before its seal passed, between its seat as it began and now; and what its seat goes on from here it goes
-- on from there.
pub record HasBegun (origin : LakeOrigin) (number : ℕ) (call : Call) (moment : ℕ) (front : List CallPoint) (old now : LakeSeat) : Type 0 where
  pub reached : HasReached (opened_state origin) (caller old.number number) (asked_at call moment) front old.seen now.seen
  pub same_number : now.number ≡ old.number
  pub added : List HistoryEntry
  pub began : now.seen ≡ old.seen ++ added
  pub whole : (next : LakeSeat) → GoesOn origin number now next → GoesOn origin number old next

module _ (telling : Digest × CommitRecordValue → DoneReply) (number : ℕ) (call : Call) (moment : ℕ) (blocks : BlockCounts) (front : List CallPoint)
    (why : SealFor) (head : NewHead) (makes : MakesHead call moment front why head telling) (old now : LakeSeat)
    (begun : (origin : LakeOrigin) → now.origin ≡ Some origin → HasBegun origin number call moment front old now) (paused pauses : Option ℕ) where
  -- ---- the seal was refused

  module _ (new : LakeSeat) where
    abbrev Refuses : StepFault → Type 0
    Refuses fault = HasSealed head.repo head.branch why number now new (Err fault)

    abbrev SealAnswers : CommitFault → Type 0
    SealAnswers fault = IsHeadAnswer telling old new number call moment blocks 0 (answered_at (Err fault) new)

    module _ (fault : StepFault) (refuses : Refuses fault) where
      abbrev start : HasBegun refuses.origin number call moment front old now
      start = begun refuses.origin refuses.goes.from

      goes : GoesOn refuses.origin number old new
      goes = start.whole new refuses.goes

      ends : SealEnds refuses.origin (caller old.number number) head.repo head.branch why (Err fault) now.seen new.seen
      ends = subst (λ n. SealEnds refuses.origin (caller n number) head.repo head.branch why (Err fault) now.seen new.seen) start.same_number refuses.ends

    pub unsealed : (fault : StepFault) → Refuses fault → SealAnswers (fault_of_step fault)
    unsealed step.NoMemory refuses =
        let by = caller old.number number in
        stopped_so telling old new number call moment blocks 0 refuses.origin (goes step.NoMemory refuses) NoMemory reply.NoMemory refl
        (seal_starved refuses.origin by call moment front why head telling makes old.seen now.seen (start step.NoMemory refuses).reached new.seen
        (met_by no_store blocks 0) (ends step.NoMemory refuses))
    unsealed step.StoreFault refuses =
        let by = caller old.number number in
        failed_so telling old new number call moment blocks 0 refuses.origin (goes step.StoreFault refuses)
        (seal_faulted refuses.origin by call moment front why head telling makes old.seen now.seen (start step.StoreFault refuses).reached new.seen
        (met_by one_fault blocks 0) (ends step.StoreFault refuses) (fault_counted, refl))
    unsealed (step.Changed version settings) refuses = absurd refuses.ends
    unsealed fault refuses =
        let by = caller old.number number in
        let says = told_some (names_of call) fault tt tt in
        stopped_so telling old new number call moment blocks 0 refuses.origin (goes fault refuses) (fault_of_step fault) (reply.Refused says.0)
        (says.0, says.1, refl)
        (seal_refused refuses.origin by call moment front why head telling makes old.seen now.seen (start fault refuses).reached fault new.seen
        (met_by no_store blocks 0) (reply.Refused says.0) (ends fault refuses).0 (ends fault refuses).1 (says.0, says.1, refl))

  -- ---- the seal stood, and the head was tried

  module _ (given : Versions) (behind new : LakeSeat) (seals : HasSealed head.repo head.branch why number now behind (Ok given)) where
    abbrev origin : LakeOrigin
    origin = seals.origin

    abbrev by : Caller
    by = caller old.number number

    first : HasBegun origin number call moment front old now
    first = begun origin seals.goes.from

    seal_ends : SealEnds origin by head.repo head.branch why (Ok given) now.seen behind.seen
    seal_ends = subst (λ n. SealEnds origin (caller n number) head.repo head.branch why (Ok given) now.seen behind.seen) first.same_number seals.ends

    abbrev request : CallRequest
    request = asked_at call moment

    at_seal : HasReached (opened_state origin) by request (front ++ seal_point head why ∷ []) old.seen behind.seen
    at_seal = sealed origin by call moment front why head telling makes old.seen now.seen first.reached given behind.seen seal_ends

    behind_number : behind.number ≡ old.number
    behind_number = ap (λ (s : LakeSeat). s.number) seals.goes.seat ∙ first.same_number

    behind_goes : GoesOn origin number old behind
    behind_goes = first.whole behind seals.goes

    module _ (result : Result MadeHead CommitFault) (tried : HaveTriedHead head number behind new paused pauses result) where
      abbrev changed : ℕ
      changed = length tried.versions

      same : tried.origin ≡ origin
      same = one_origin origin tried.origin now behind behind.seen behind.mine seals.goes.from seals.goes.seat tried.goes.from

      whole : GoesOn origin number old new
      whole = goes_further origin number old behind new behind_goes (subst (λ (o : LakeOrigin). GoesOn o number behind new) same tried.goes)

      abbrev EndsAll : LakeOrigin → Caller → Type 0
      EndsAll o maker = AllEnd o maker head result behind.seen new.seen

      all : EndsAll origin by
      all = subst (λ n. EndsAll origin (caller n number)) behind_number
          (subst (λ (o : LakeOrigin). EndsAll o (caller behind.number number)) same
          (ends_of tried.origin (caller behind.number number) head tried.versions result behind.seen tried.between new.seen tried.found tried.ends))

    abbrev TriedAnswers : (result : Result MadeHead CommitFault) → HaveTriedHead head number behind new paused pauses result → Type 0
    TriedAnswers result tried = IsHeadAnswer telling old new number call moment blocks (length tried.versions) (answered_at result new)

    pub tried_so : (result : Result MadeHead CommitFault) (tried : HaveTriedHead head number behind new paused pauses result) → TriedAnswers result tried
    tried_so (Ok made) tried =
        done_so telling old new number call moment blocks (length tried.versions) origin (whole (Ok made) tried) made
        (head_done origin by call moment front why head telling makes old.seen behind.seen at_seal made new.seen
        (met_by no_store blocks (length tried.versions)) (all (Ok made) tried))
    tried_so (Err (TooManyTries first last)) tried =
        let have = all (Err (TooManyTries first last)) tried in
        stopped_so telling old new number call moment blocks (length tried.versions) origin (whole (Err (TooManyTries first last)) tried)
        (TooManyTries first last) (reply.Refused refusal.TooManyTries) refl
        (head_tried_enough origin by call moment front why head telling makes old.seen behind.seen at_seal new.seen
        (met_by no_store blocks (length tried.versions)) have.came tried.ends.0
        (counted_since (counted origin by head) 10 old.seen behind.seen new.seen behind_goes.added have.came.0 behind_goes.seen have.came.2 have.given))
    tried_so (Err (Head cause)) tried =
        let ends = all (Err (Head cause)) tried in
        stopped_so telling old new number call moment blocks (length tried.versions) origin (whole (Err (Head cause)) tried)
        (Head cause) (reply.Refused (told_of_head cause)) refl
        (head_unmade origin by call moment front why head telling makes old.seen behind.seen at_seal cause new.seen
        (met_by no_store blocks (length tried.versions)) ends.0 ends.1)
    tried_so (Err NoMemory) tried =
        stopped_so telling old new number call moment blocks (length tried.versions) origin (whole (Err NoMemory) tried)
        NoMemory reply.NoMemory refl
        (head_starved origin by call moment front why head telling makes old.seen behind.seen at_seal new.seen
        (met_by no_store blocks (length tried.versions)) (all (Err NoMemory) tried))
    tried_so (Err (Step step.StoreFault)) tried =
        failed_so telling old new number call moment blocks (length tried.versions) origin (whole (Err (Step step.StoreFault)) tried)
        (head_faulted origin by call moment front why head telling makes old.seen behind.seen at_seal new.seen
        (met_by one_fault blocks (length tried.versions)) (all (Err (Step step.StoreFault)) tried) (fault_counted, refl))
    tried_so (Err (Step (step.Changed version settings))) tried = absurd (all (Err (Step (step.Changed version settings))) tried)
    tried_so (Err (Step step.NoMemory)) tried = absurd (all (Err (Step step.NoMemory)) tried)
    tried_so (Err (Step fault)) tried =
        let says = told_some (names_of call) fault tt tt in
        stopped_so telling old new number call moment blocks (length tried.versions) origin (whole (Err (Step fault)) tried)
        (Step fault) (reply.Refused says.0) (says.0, says.1, refl)
        (head_refused origin by call moment front why head telling makes old.seen behind.seen at_seal fault new.seen
        (met_by no_store blocks (length tried.versions)) (reply.Refused says.0) (all (Err (Step fault)) tried) (says.0, says.1, refl))
    tried_so (Err (NoParent count)) tried = absurd (all (Err (NoParent count)) tried)
    tried_so (Err NeedsParentNumber) tried = absurd (all (Err NeedsParentNumber) tried)

  -- so it answers the call
  pub made_so : (new : LakeSeat) (versions : List ℕ) (result : Result MadeHead CommitFault) → HasMadeHead head why number now new paused pauses versions result
      → IsHeadAnswer telling old new number call moment blocks (length versions) (answered_at result new)
  made_so new versions result (Unsealed fault refuses unpaused none is) =
      subst (λ (vs : List ℕ). IsHeadAnswer telling old new number call moment blocks (length vs) (answered_at result new)) (sym none)
      (subst (λ r. IsHeadAnswer telling old new number call moment blocks 0 (answered_at r new)) (sym is) (unsealed new fault refuses))
  made_so new versions result (Sealed given behind seals tried found) =
      subst (λ (vs : List ℕ). IsHeadAnswer telling old new number call moment blocks (length vs) (answered_at result new)) (sym found)
      (tried_so given behind new seals result tried)
