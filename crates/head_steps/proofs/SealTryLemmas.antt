-- What a call of a new head does before its tries, by what its steps told.
use Rattle.std.proofs.Common.{◌≡◌, ◌+◌, inl, inr, ℕ, true, false, List, [], ◌++◌, Option, Some, None, Result, Ok, Err, refl, sym, ap, subst, ◌∙◌}
use Rattle.std.specs.FinMap.{get}
use Rattle.std.specs.Option.{option_map_or}
use Rattle.std.proofs.lemmas.List.{append-nil}
use Rattle.lake_base.specs.declared.digest.Digest.{Digest}
use Rattle.commit_graph.specs.Expressions.{RefExprValue}
use Rattle.commit_graph.specs.Moves.{moves_target}
use Rattle.lake_model.specs.declared.fault.StepFault.{StepFault}
use Rattle.lake_model.specs.declared.fault.StepFault.TheVariants as step
use Rattle.lake_model.specs.declared.fault.Reference.TheVariants.{Expression}
use Rattle.lake_model.specs.declared.history.HistoryEntry.{HistoryEntry}
use Rattle.lake_model.specs.declared.history.SealFor.{SealFor}
use Rattle.lake_model.specs.declared.history.SealFor.TheVariants as why
use Rattle.lake_model.specs.declared.reply.Point.{Point}
use Rattle.lake_model.specs.declared.reply.Versions.{Versions}
use Rattle.lake_model.specs.Readings.{point_of, resolve_reply, ◌then◌}
use Rattle.lake_model.specs.Resolving.{expression_target, moved_target, name_target, parent_fault}
use Rattle.lake_model.specs.Refusals.{Gives, GivesOrFails, IsRefusal, first_cause}
use Rattle.lake_model.specs.State.{Repository, State}
use Rattle.lake_model.specs.Steps.{seal_causes, seal_reply, write_causes}
use Rattle.lake_model.specs.Versions.{settings_version}
use Rattle.core_puts.specs.KeeperViews.{KeeperView}
use Rattle.core_puts.specs.KeptChanges.{Making}
use Rattle.core_state.specs.LakeStates.{lake_value}
use Rattle.lake_core.specs.declared.standing.LakeOrigin.{LakeOrigin}
use Rattle.lake_core.specs.Lakes.{LakeValue, state, versions}
use Rattle.lake_core.specs.Makings.{seal}
use Rattle.shared_lake.specs.SeatSteps.{IsChanged, IsRead, LakeSeat, origin_of}
use Rattle.call_placement.specs.Points.{Came}
use Rattle.call_placement.specs.Sessions.{caller}
use Rattle.lake_calls.specs.LakeRules.{lake_rules}
use Rattle.flow_steps.specs.FlowSeats.{GoesOn, state_at}
use Rattle.flow_steps.proofs.SeatFlowLemmas.{answer_changed, answer_read, came_to_change, came_to_reading, entries_by, entry_stands, goes_by_change}
use Rattle.flow_steps.proofs.SeatFlowLemmas.{goes_by_reading}
use Rattle.flow_steps.proofs.VersionCauseLemmas.{Decides, IsUnversioned, decided, refused_for, write_asks}
use Rattle.head_steps.specs.HeadSeals.{HasResolved, HasSealed, ResolveEnds, SealEnds}
use Rattle.head_steps.proofs.HeadCauseLemmas.{IsTold, branch_asks}

-- ---- a seal

-- what refuses it is no version
unversioned_by : (state : State) (repo branch : List ℕ) (why_for : SealFor) (fault : StepFault)
    → first_cause (seal_causes why_for state repo branch) ≡ Some fault → IsUnversioned fault
unversioned_by state repo branch why.Commit fault first = elim (refused_for (write_causes state repo branch) true 0 0 fault
    (write_asks state repo branch) first) [
      | inl other ↦ absurd (let never : true ≡ false = other.0 in cc)
      | inr plain ↦ plain.1
    ]
unversioned_by state repo branch why.Other fault first = elim (refused_for _ true 0 0 fault (branch_asks state repo branch) first) [
  | inl other ↦ absurd (let never : true ≡ false = other.0 in cc)
  | inr plain ↦ plain.1
]

module _ {K : Type 0} (view : KeeperView K) (old new : LakeSeat) (call : ℕ) (repo branch : List ℕ) (why_for : SealFor) where
  abbrev SealMaking : LakeValue K → Option Making
  SealMaking l = Some (seal repo branch why_for (lake_value l.present))

  abbrev SealAnswers : Result Versions StepFault → LakeValue K → Type 0
  SealAnswers result l = GivesOrFails result (seal_reply why_for (state l) (versions l) repo branch)

  abbrev pub Seals : Result Versions StepFault → Type 0
  Seals result = IsChanged view (record { seat = old.number; call = call }) old new SealMaking (SealAnswers result) result

  module _ (result : Result Versions StepFault) (changed : Seals result) where
    abbrev origin : LakeOrigin
    origin = origin_of view changed.found

    abbrev found : List HistoryEntry
    found = changed.found.history

    came : Came lake_rules (caller old.number call) old.seen found
    came = came_to_change view old new call SealMaking (SealAnswers result) result changed

    goes : GoesOn origin call old new
    goes = goes_by_change view old new call SealMaking (SealAnswers result) result changed origin changed.finds.origin

    stands : new.seen ≡ found ++ entries_by view (record { seat = old.number; call = call }) (SealMaking changed.found) result
    stands = entry_stands view old new call SealMaking (SealAnswers result) result changed

    decides : Decides (seal_causes why_for (state_at origin found) repo branch) result
    decides = answer_changed view old new call SealMaking (SealAnswers result) result changed
        (λ s given. Decides (seal_causes why_for s repo branch) result) origin changed.finds.origin
        (λ l says. decided (state l) (seal_causes why_for (state l) repo branch)
        (record { at = (state l).entries + 1; version = (versions l).next; settings = settings_version (versions l) repo }) result says)

    nothing_added : entries_by view (record { seat = old.number; call = call }) (SealMaking changed.found) result ≡ [] → found ≡ new.seen
    nothing_added none = sym (stands ∙ ap (λ es. found ++ es) none ∙ append-nil found)

  not_sealed : (lake : LakeOrigin) (fault : StepFault) (next : List HistoryEntry) → IsUnversioned fault → IsRefusal fault
      → Came lake_rules (caller old.number call) old.seen next → first_cause (seal_causes why_for (state_at lake next) repo branch) ≡ Some fault
      → SealEnds lake (caller old.number call) repo branch why_for (Err fault) old.seen next
  not_sealed lake (step.Changed version settings) next u r others first = absurd u
  not_sealed lake step.StoreFault next u r others first = absurd r
  not_sealed lake step.NoMemory next u r others first = absurd r
  not_sealed lake fault next u r others first = (others, first)

  pub sealed : (result : Result Versions StepFault) → Seals result → HasSealed repo branch why_for call old new result
  sealed (Ok told) changed = record {
    origin = origin (Ok told) changed;
    goes = goes (Ok told) changed;
    ends = (found (Ok told) changed, (came (Ok told) changed, decides (Ok told) changed), stands (Ok told) changed);
  }
  sealed (Err step.StoreFault) changed = record {
    origin = origin (Err step.StoreFault) changed;
    goes = goes (Err step.StoreFault) changed;
    ends = (
      found (Err step.StoreFault) changed,
      (came (Err step.StoreFault) changed, decides (Err step.StoreFault) changed),
      stands (Err step.StoreFault) changed,
    );
  }
  sealed (Err step.NoMemory) changed = record {
    origin = origin (Err step.NoMemory) changed;
    goes = goes (Err step.NoMemory) changed;
    ends = subst (λ es. Came lake_rules (caller old.number call) old.seen es) (nothing_added (Err step.NoMemory) changed refl)
        (came (Err step.NoMemory) changed);
  }
  sealed (Err fault) changed = record {
    origin = origin (Err fault) changed;
    goes = goes (Err fault) changed;
    ends = subst (λ es. SealEnds (origin (Err fault) changed) (caller old.number call) repo branch why_for (Err fault) old.seen es)
        (nothing_added (Err fault) changed refl)
        (not_sealed (origin (Err fault) changed) fault (found (Err fault) changed)
        (unversioned_by (state_at (origin (Err fault) changed) (found (Err fault) changed)) repo branch why_for fault (decides (Err fault) changed)) tt
        (came (Err fault) changed) (decides (Err fault) changed));
  }

-- ---- an expression that is resolved

abbrev unresolved : StepFault → Result Point StepFault
unresolved fault = Err fault

same_told : (one fault : StepFault) → IsTold one → unresolved one ≡ unresolved fault → IsTold fault
same_told one fault told is = let same : one ≡ fault = cc (is) in subst IsTold same told

module _ (answer : Digest → Point) (fault : StepFault) where
  by_moves : (moves : Result Digest ℕ) → parent_fault moves then (λ id. Ok (answer id)) ≡ unresolved fault → IsTold fault
  by_moves (Ok id) is = absurd cc
  by_moves (Err number) is = same_told (step.NoParent number) fault (tt, tt) is

  by_name : (r : Repository) (e : RefExprValue) (target : Option Digest) → moved_target r e target then (λ id. Ok (answer id)) ≡ unresolved fault → IsTold fault
  by_name r e None is = same_told (step.NoRef Expression) fault (tt, tt) is
  by_name r e (Some id) is = by_moves (moves_target r.commits 0 id e.moves) is

module _ (state : State) (repo : List ℕ) (e : RefExprValue) where
  by_repository : (fault : StepFault) (found : Option Repository)
      → option_map_or (λ (r : Repository). expression_target r e then λ id. Ok (point_of state r e id)) found (Err step.NoRepo) ≡ unresolved fault
      → IsTold fault
  by_repository fault None is = same_told step.NoRepo fault (tt, tt) is
  by_repository fault (Some r) is = by_name (point_of state r e) fault r e (name_target r e.name) is

  unresolved_told : (fault : StepFault) → resolve_reply state repo e ≡ unresolved fault → IsTold fault
  unresolved_told fault is = by_repository fault (get state.repositories repo) is

  pub resolves : (result : Result Point StepFault) → Gives result (resolve_reply state repo e) → ResolveEnds state repo e result
  resolves (Ok point) gives = sym gives
  resolves (Err step.NoMemory) gives = tt
  resolves (Err step.StoreFault) gives = absurd (unresolved_told step.StoreFault (sym gives)).1
  resolves (Err (step.Changed version settings)) gives = absurd (unresolved_told (step.Changed version settings) (sym gives)).0
  resolves (Err fault) gives = sym gives

pub resolved_for : {K : Type 0} (view : KeeperView K) (old new : LakeSeat) (repo : List ℕ) (e : RefExprValue) (result : Result Point StepFault) (call : ℕ)
    → IsRead view old new (λ (l : LakeValue K). Gives result (resolve_reply (state l) repo e)) → HasResolved repo e call old new result
resolved_for view old new repo e result call read =
    let Answers : LakeValue _ → Type 0 = λ l. Gives result (resolve_reply (state l) repo e) in
    let origin = origin_of view read.found in
    record {
      origin = origin;
      goes = goes_by_reading view old new Answers read call origin read.finds.origin;
      came = came_to_reading view old new Answers read call;
      ends = answer_read view old new Answers read (λ s given. ResolveEnds s repo e result) origin read.finds.origin
          (λ l says. resolves (state l) repo e result says);
    }
