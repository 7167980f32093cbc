-- A change of a branch that is guarded by the branch's version, tried once: a reading gives the version, and a step makes
-- the change at that version.
use Rattle.std.specs.Prelude.{◌≡◌, ◌≢◌, ◌⊎◌, ◌++◌, ℕ, List, [], ◌∷◌, Option, Some, None, Result, Ok, Err}
use Rattle.lake_values.specs.Entry.{EntryValue}
use Rattle.lake_values.specs.declared.entry.Change.{Change}
use Rattle.commit_graph.specs.Expressions.{RefExprValue}
use Rattle.lake_model.specs.declared.fault.StepFault.{StepFault}
use Rattle.lake_model.specs.declared.fault.StepFault.TheVariants.{Changed, StoreFault, NoMemory}
use Rattle.lake_model.specs.declared.history.CopySource.{CopySource}
use Rattle.lake_model.specs.declared.history.HistoryEntry.{HistoryEntry}
use Rattle.lake_model.specs.declared.history.Operation.{Operation}
use Rattle.lake_model.specs.declared.history.Operation.TheVariants.{Stage, Copy}
use Rattle.lake_model.specs.State.{State}
use Rattle.lake_model.specs.History.{accepted_entry, faulted_entry}
use Rattle.lake_model.specs.Refusals.{Causes, first_cause, first_of, no_causes, with_branch}
use Rattle.lake_model.specs.Steps.{copied_entry, copy_causes_of, copy_source, in_it, write_causes}
use Rattle.lake_model.specs.Versions.{VersionsGiven, branch_version}
use Rattle.lake_core.specs.declared.standing.LakeOrigin.{LakeOrigin}
use Rattle.call_placement.specs.Rules.{Caller}
use Rattle.shared_lake.specs.SeatSteps.{LakeSeat}
use Rattle.call_placement.specs.Points.{Came}
use Rattle.call_placement.specs.Sessions.{caller}
use Rattle.lake_calls.specs.LakeRules.{by_caller, lake_rules}
use Rattle.flow_steps.specs.FlowSeats.{GoesOn, given_at, state_at}

-- the first of the causes that a step asks before its versions
abbrev pub first_before_versions : Causes → Option StepFault
first_before_versions c = first_of
    (c.stopped ∷ c.full ∷ c.repository ∷ c.reference ∷ c.parent ∷ c.note ∷ c.exists ∷ c.default_branch ∷ c.protected ∷ [])

-- a change that is guarded: what refuses it at its reading, at its step before the version is asked, and at its step without
-- versions; the entry that it tells, with the operation that it makes; and the version that guards it
pub record Guarded : Type 1 where
  pub early : State → Option StepFault
  pub ahead : State → Option StepFault
  pub late : State → Option StepFault
  pub Makes : State → Option EntryValue → Operation → Type 0
  pub version : VersionsGiven → ℕ

-- a change is staged at a path of a branch
abbrev pub staging : (repo branch path : List ℕ) → Change → Guarded
staging repo branch path change = record {
  early = λ state. first_cause (with_branch state repo branch no_causes);
  ahead = λ state. first_before_versions (write_causes state repo branch);
  late = λ state. first_cause (write_causes state repo branch);
  Makes = λ state told operation. (told ≡ None) × (operation ≡ Stage repo branch path change);
  version = λ given. branch_version given repo branch;
}

-- the entry that an expression has at a path is copied to a path of a branch
abbrev pub copying : (repo branch path : List ℕ) → RefExprValue → (from : List ℕ) → Guarded
copying repo branch path e from = record {
  early = λ state. first_cause (with_branch state repo branch no_causes);
  ahead = λ state. first_before_versions (copy_causes_of state repo branch e from);
  late = λ state. first_cause (copy_causes_of state repo branch e from);
  Makes = λ state told operation. (source : CopySource) × (entry : EntryValue) × (in_it state repo (λ r. copy_source r e) ≡ Some source)
      × (copied_entry state repo e from ≡ Some entry) × (told ≡ Some entry) × (operation ≡ Copy repo branch path source from entry);
  version = λ given. branch_version given repo branch;
}

module _ (origin : LakeOrigin) (by : Caller) (guarded : Guarded) where
  -- The step was reached: others' entries came to the reading, which nothing refused, and others' to the step, which nothing
  -- refused, and which found the version that was read.
  pub record Steps (told : Option EntryValue) (operation : Operation) (from found : List HistoryEntry) : Type 0 where
    pub read : List HistoryEntry
    pub to_reading : Came lake_rules by from read
    pub early : guarded.early (state_at origin read) ≡ None
    pub to_step : Came lake_rules by read found
    pub late : guarded.late (state_at origin found) ≡ None
    pub makes : guarded.Makes (state_at origin found) told operation
    pub same : guarded.version (given_at origin found) ≡ guarded.version (given_at origin read)

  -- the reading was refused, or the step
  abbrev pub IsRefused : StepFault → (from found : List HistoryEntry) → Type 0
  IsRefused fault from found =
      (Came lake_rules by from found × (guarded.early (state_at origin found) ≡ Some fault))
      ⊎ ((read : List HistoryEntry) × Came lake_rules by from read × (guarded.early (state_at origin read) ≡ None)
      × Came lake_rules by read found × (guarded.late (state_at origin found) ≡ Some fault))

  -- the step found another version than the reading, this one: nothing refused the reading, nor the step before its version
  abbrev pub FoundVersion : (version : ℕ) → (from found : List HistoryEntry) → Type 0
  FoundVersion version from found =
      (read : List HistoryEntry) × Came lake_rules by from read × Came lake_rules by read found
      × (guarded.version (given_at origin found) ≢ guarded.version (given_at origin read)) × (version ≡ guarded.version (given_at origin found))
      × (guarded.early (state_at origin read) ≡ None) × (guarded.ahead (state_at origin found) ≡ None)

  -- WHAT CAME OF A TRY, between what was seen before it and after it.
  abbrev pub TryEnds : Result (Option EntryValue) StepFault → (from next : List HistoryEntry) → Type 0
  TryEnds (Ok told) from next = (operation : Operation) × (found : List HistoryEntry) × Steps told operation from found
      × (next ≡ found ++ accepted_entry (by_caller by) operation ∷ [])
  TryEnds (Err StoreFault) from next = (told : Option EntryValue) × (operation : Operation) × (found : List HistoryEntry)
      × Steps told operation from found × (next ≡ found ++ faulted_entry (by_caller by) operation ∷ [])
  TryEnds (Err NoMemory) from next = Came lake_rules by from next
  TryEnds (Err (Changed version settings)) from next = FoundVersion version from next
  TryEnds (Err fault) from next = IsRefused fault from next

-- A TRY OF A CALL, between its seat before it and after it: the seat went on in the call, and the try came to this.
pub record HasTried (guarded : Guarded) (call : ℕ) (old new : LakeSeat) (result : Result (Option EntryValue) StepFault) : Type 0 where
  pub origin : LakeOrigin
  pub goes : GoesOn origin call old new
  pub ends : TryEnds origin (caller old.number call) guarded result old.seen new.seen
