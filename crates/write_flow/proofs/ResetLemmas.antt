-- A call of one change, by what its step told.
use Rattle.std.proofs.Common.{◌≡◌, ◌+◌, inl, inr, ℕ, true, List, [], ◌∷◌, length, Option, Some, None, Result, Ok, Err, refl, sym, subst, ◌∙◌}
use Rattle.std.proofs.lemmas.List.{append-nil}
use Rattle.lake_model.specs.declared.fault.StepFault.{StepFault}
use Rattle.lake_model.specs.declared.fault.StepFault.TheVariants as step
use Rattle.lake_model.specs.declared.history.HistoryEntry.{HistoryEntry}
use Rattle.lake_model.specs.declared.history.Operation.{Operation}
use Rattle.lake_model.specs.declared.history.Operation.TheVariants.{Reset}
use Rattle.lake_model.specs.Refusals.{GivesOrFails, first_cause}
use Rattle.lake_model.specs.Steps.{reset_reply, write_causes}
use Rattle.core_state.specs.LakeStates.{lake_value}
use Rattle.core_puts.specs.KeeperViews.{KeeperView}
use Rattle.core_puts.specs.KeptChanges.{Making}
use Rattle.lake_core.specs.declared.standing.LakeOrigin.{LakeOrigin}
use Rattle.lake_core.specs.Lakes.{LakeValue, state}
use Rattle.lake_core.specs.Makings.{reset}
use Rattle.shared_lake.specs.SeatSteps.{IsChanged, LakeSeat, origin_of}
use Rattle.call_placement.specs.Rules.{Caller}
use Rattle.call_placement.specs.Points.{replay as along, Came}
use Rattle.call_placement.specs.Served.{ByMemory, ByState, Hinders, IsServed, OwesNothing}
use Rattle.call_placement.specs.Sessions.{caller}
use Rattle.lake_calls.specs.CallExceptions.{Counts}
use Rattle.lake_calls.specs.CallRefusals.{PointPasses, PointRefused, names_of}
use Rattle.lake_calls.specs.Courses.{CallPoint, Makes, nothing_fixed}
use Rattle.lake_calls.specs.LakeRules.{lake_rules}
use Rattle.lake_calls.specs.declared.call.Call.{Call}
use Rattle.lake_calls.specs.declared.call.Call.TheVariants.{Names}
use Rattle.lake_calls.specs.declared.names.NamingCall.TheVariants as naming
use Rattle.lake_calls.specs.declared.names.ResetCall.{ResetCall}
use Rattle.lake_calls.specs.declared.reply.CallReply.{CallReply}
use Rattle.lake_calls.specs.declared.reply.CallReply.TheVariants as reply
use Rattle.lake_calls.specs.declared.reply.Done.{Done as DoneReply}
use Rattle.lake_calls.specs.declared.reply.Done.TheVariants as done
use Rattle.lake_calls.specs.declared.reply.Refusal.TheVariants as refusal
use Rattle.flow_steps.specs.declared.answer.FlowAnswer.{FlowAnswer}
use Rattle.flow_steps.specs.FlowAnswers.{BlockCounts, asked_at}
use Rattle.flow_steps.specs.FlowChanges.{HasMade}
use Rattle.flow_steps.specs.FlowSeats.{GoesOn, opened_state, state_at}
use Rattle.flow_steps.proofs.FlowEndLemmas.{HasReached, moved, reached_nothing, reached_on, served_done, served_faulted, served_stopped}
use Rattle.flow_steps.proofs.RetryLemmas.{met_by, no_store, told_some}
use Rattle.flow_steps.proofs.SeatFlowLemmas.{answer_changed, came_to_change, entry_stands, goes_by_change}
use Rattle.flow_steps.proofs.VersionCauseLemmas.{Decides, decided, refused_for, write_asks}
use Rattle.lake_values.specs.Entry.{EntryValue}
use Rattle.write_flow.specs.declared.answer.Done.{Done}
use Rattle.write_flow.specs.declared.answer.FlowFault.{FlowFault}
use Rattle.write_flow.specs.declared.answer.FlowFault.TheVariants.{NoMemory}
use Rattle.write_flow.specs.FlowFaults.{IsFlowTold, fault_of_step}
use Rattle.write_flow.specs.Uploads.{refused_at}
use Rattle.write_flow.specs.WriteFlows.{IsAnswer, IsMadeAnswer, NeverFall, outcome_of, told_of_step}
use Rattle.write_flow.proofs.EarlyLemmas.{flow_told}

module _ {K : Type 0} (view : KeeperView K) (old new : LakeSeat) (number : ℕ) (c : ResetCall) (moment : ℕ) (blocks : BlockCounts)
    (later : NeverFall blocks) where
  abbrev call : Call
  call = Names (naming.ResetBranch c)

  abbrev by : Caller
  by = caller old.number number

  abbrev operation : Operation
  operation = Reset c.repo c.branch c.what

  abbrev point : CallPoint
  point = Makes operation

  abbrev Resets : LakeValue K → Option Making
  Resets l = Some (reset c.repo c.branch c.what (lake_value l.present))

  abbrev ResetAnswers : Result ℕ StepFault → LakeValue K → Type 0
  ResetAnswers result l = GivesOrFails result (reset_reply (state l) c.repo c.branch)

  abbrev Changes : Result ℕ StepFault → Type 0
  Changes result = IsChanged view (record { seat = old.number; call = number }) old new Resets (ResetAnswers result) result

  abbrev pub ResetTells : Option EntryValue → DoneReply → Type 0
  ResetTells entry told = (entry ≡ None) × (told ≡ done.BranchReset)

  module _ (result : Result ℕ StepFault) (changed : Changes result) where
    abbrev origin : LakeOrigin
    origin = origin_of view changed.found

    abbrev found : List HistoryEntry
    found = changed.found.history

    goes : GoesOn origin number old new
    goes = goes_by_change view old new number Resets (ResetAnswers result) result changed origin changed.finds.origin

    decides : Decides (write_causes (state_at origin found) c.repo c.branch) result
    decides = answer_changed view old new number Resets (ResetAnswers result) result changed
        (λ s given. Decides (write_causes s c.repo c.branch) result) origin changed.finds.origin
        (λ l says. decided (state l) (write_causes (state l) c.repo c.branch) ((state l).entries + 1) result says)

    begun : HasReached (opened_state origin) by (asked_at call moment) [] old.seen found
    begun = reached_on (opened_state origin) by (asked_at call moment) [] old.seen old.seen found
        (reached_nothing (opened_state origin) by (asked_at call moment) old.seen)
        (came_to_change view old new number Resets (ResetAnswers result) result changed)

    passes : first_cause (write_causes (state_at origin found) c.repo c.branch) ≡ None
        → lake_rules.passes by (asked_at call moment) point (along lake_rules (opened_state origin) found)
    passes none = moved (PointPasses call point) (opened_state origin) found (record { none = none; no_clash = refl; worth = tt; fixes = tt })

    stopped : (fault : FlowFault) (says : CallReply) → IsFlowTold (names_of call) fault says → new.seen ≡ found
        → Hinders lake_rules (opened_state origin) by (asked_at call moment) (met_by no_store blocks 0) (length old.seen) (point ∷ []) found says
        → IsAnswer old new number call moment ResetTells blocks 0 (refused_at fault (length new.seen) (length new.seen))
    stopped fault says tells same hinders = record {
      met = met_by no_store blocks 0;
      told = says;
      tells = tells;
      flow = record {
        origin = origin;
        goes = goes;
        served = subst (λ es. IsServed lake_rules (opened_state origin) by old.seen es (asked_at call moment) (met_by no_store blocks 0) says (length es)
            (length es))
            (sym same)
            (served_stopped (opened_state origin) by (asked_at call moment) (met_by no_store blocks 0) says nothing_fixed old.seen [] (point ∷ []) found found
            (length found) refl begun hinders (OwesNothing refl refl refl));
      };
      faults = refl;
      misses = refl;
      missed_last = refl;
      counts = later;
      tries = refl;
    }

  abbrev Answers : Result ℕ StepFault → Type 0
  Answers (Ok at) = IsAnswer old new number call moment ResetTells blocks 0
      (record { outcome = Ok (record { at = length new.seen; entry = None }); position = length new.seen; edge = length new.seen })
  Answers (Err fault) = IsAnswer old new number call moment ResetTells blocks 0
      (refused_at (fault_of_step fault) (length new.seen) (length new.seen))

  pub reset_answered : (result : Result ℕ StepFault) → Changes result → Answers result
  reset_answered (Ok at) changed =
      let met = met_by no_store blocks 0 in
      record {
        met = met;
        told = reply.Done done.BranchReset;
        tells = (refl, done.BranchReset, (refl, refl), refl);
        flow = record {
          origin = origin (Ok at) changed;
          goes = goes (Ok at) changed;
          served = served_done (opened_state (origin (Ok at) changed)) by (asked_at call moment) met
              (reply.Done done.BranchReset) nothing_fixed old.seen [] point
              (found (Ok at) changed) new.seen refl (begun (Ok at) changed) (passes (Ok at) changed (decides (Ok at) changed))
              (nothing_fixed, refl, done.BranchReset, refl, refl)
              (entry_stands view old new number Resets (ResetAnswers (Ok at)) (Ok at) changed);
        };
        faults = refl;
        misses = refl;
        missed_last = refl;
        counts = later;
        tries = refl;
      }
  reset_answered (Err step.NoMemory) changed =
      stopped (Err step.NoMemory) changed NoMemory reply.NoMemory refl
      (entry_stands view old new number Resets (ResetAnswers (Err step.NoMemory)) (Err step.NoMemory) changed ∙ append-nil (found (Err step.NoMemory) changed))
      (ByMemory refl)
  reset_answered (Err step.StoreFault) changed =
      let counts : Counts = record { before = view.faults changed.found.keeper; now = view.faults changed.left.keeper } in
      record {
        met = met_by counts blocks 0;
        told = reply.Refused refusal.StoreFault;
        tells = refl;
        flow = record {
          origin = origin (Err step.StoreFault) changed;
          goes = goes (Err step.StoreFault) changed;
          served = served_faulted (opened_state (origin (Err step.StoreFault) changed)) by (asked_at call moment) (met_by counts blocks 0)
              (reply.Refused refusal.StoreFault) nothing_fixed old.seen [] [] point operation (found (Err step.StoreFault) changed) new.seen refl
              (begun (Err step.StoreFault) changed) refl (passes (Err step.StoreFault) changed (decides (Err step.StoreFault) changed))
              (inl (changed.leaves.1.rose, refl))
              (entry_stands view old new number Resets (ResetAnswers (Err step.StoreFault)) (Err step.StoreFault) changed);
        };
        faults = refl;
        misses = refl;
        missed_last = refl;
        counts = later;
        tries = refl;
      }
  reset_answered (Err (step.Changed version settings)) changed =
      let s = state_at (origin (Err (step.Changed version settings)) changed) (found (Err (step.Changed version settings)) changed) in
      let wrong = refused_for (write_causes s c.repo c.branch) true 0 0 (step.Changed version settings) (write_asks s c.repo c.branch)
      (decides (Err (step.Changed version settings)) changed) in
      elim wrong [ inl other ↦ absurd (let no = other.0 in cc) | inr plain ↦ absurd plain.1 ]
  reset_answered (Err fault) changed =
      let says = told_some (names_of call) fault tt tt in
      stopped (Err fault) changed (fault_of_step fault) (reply.Refused says.0) (flow_told (names_of call) fault says.0 says.1 tt tt)
      (entry_stands view old new number Resets (ResetAnswers (Err fault)) (Err fault) changed ∙ append-nil (found (Err fault) changed))
      (ByState point [] refl
      (moved (λ s. PointRefused call point s (reply.Refused says.0)) (opened_state (origin (Err fault) changed)) (found (Err fault) changed)
      (record { clash = None; is_clash = refl; fault = fault; first = decides (Err fault) changed; told_so = (says.0, says.1, refl) })))

  -- so it was made, or wasn't
  abbrev Made : Result ℕ StepFault → Type 0
  Made result = HasMade (λ s. first_cause (write_causes s c.repo c.branch)) (λ s at made. made ≡ operation) number old new result

  pub reset_made : (result : Result ℕ StepFault) → Changes result → Made result
  reset_made (Ok at) changed = record {
    origin = origin (Ok at) changed;
    goes = goes (Ok at) changed;
    ends = (
      operation,
      found (Ok at) changed,
      record { came = came_to_change view old new number Resets (ResetAnswers (Ok at)) (Ok at) changed; none = decides (Ok at) changed; makes = refl },
      entry_stands view old new number Resets (ResetAnswers (Ok at)) (Ok at) changed,
    );
  }
  reset_made (Err step.NoMemory) changed = record {
    origin = origin (Err step.NoMemory) changed;
    goes = goes (Err step.NoMemory) changed;
    ends = subst (Came lake_rules by old.seen)
        (sym (entry_stands view old new number Resets (ResetAnswers (Err step.NoMemory)) (Err step.NoMemory) changed
        ∙ append-nil (found (Err step.NoMemory) changed)))
        (came_to_change view old new number Resets (ResetAnswers (Err step.NoMemory)) (Err step.NoMemory) changed);
  }
  reset_made (Err step.StoreFault) changed = record {
    origin = origin (Err step.StoreFault) changed;
    goes = goes (Err step.StoreFault) changed;
    ends = (
      0,
      operation,
      found (Err step.StoreFault) changed,
      record {
        came = came_to_change view old new number Resets (ResetAnswers (Err step.StoreFault)) (Err step.StoreFault) changed;
        none = decides (Err step.StoreFault) changed;
        makes = refl;
      },
      entry_stands view old new number Resets (ResetAnswers (Err step.StoreFault)) (Err step.StoreFault) changed,
    );
  }
  reset_made (Err fault) changed =
      let same = entry_stands view old new number Resets (ResetAnswers (Err fault)) (Err fault) changed ∙ append-nil (found (Err fault) changed) in
      record {
        origin = origin (Err fault) changed;
        goes = goes (Err fault) changed;
        ends = subst (λ es. Came lake_rules by old.seen es
            × (first_cause (write_causes (state_at (origin (Err fault) changed) es) c.repo c.branch) ≡ Some fault)) (sym same)
            (came_to_change view old new number Resets (ResetAnswers (Err fault)) (Err fault) changed, decides (Err fault) changed);
      }

  -- what the step told, as the flow answers it
  answered_as : (result : Result ℕ StepFault) (answer : FlowAnswer Done FlowFault) → answer.outcome ≡ outcome_of (length new.seen) None (told_of_step result)
      → answer.position ≡ length new.seen → answer.edge ≡ length new.seen → Changes result
      → IsAnswer old new number call moment ResetTells blocks 0 answer
  answered_as (Ok at) answer outcome position edge changed =
      subst (IsAnswer old new number call moment ResetTells blocks 0) (sym (λ i. record { outcome = outcome i; position = position i; edge = edge i }))
      (reset_answered (Ok at) changed)
  answered_as (Err fault) answer outcome position edge changed =
      subst (IsAnswer old new number call moment ResetTells blocks 0) (sym (λ i. record { outcome = outcome i; position = position i; edge = edge i }))
      (reset_answered (Err fault) changed)

  -- so an answer of what the step told is one of the call
  pub reset_so : (result : Result ℕ StepFault) (answer : FlowAnswer Done FlowFault) → answer.outcome ≡ outcome_of (length new.seen) None (told_of_step result)
      → answer.position ≡ length new.seen → answer.edge ≡ length new.seen → Changes result
      → IsMadeAnswer (λ s. first_cause (write_causes s c.repo c.branch)) operation old new number call moment ResetTells blocks answer
  reset_so result answer outcome position edge changed = record {
    result = result;
    made = reset_made result changed;
    outcome = outcome;
    position = position;
    edge = edge;
    answers = answered_as result answer outcome position edge changed;
  }
