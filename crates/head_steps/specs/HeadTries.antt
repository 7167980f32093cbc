-- A new head of a branch, tried once: a reading hands out what it is made from, it is drafted outside of the turn, and a step
-- makes it by the versions that the reading gave.
use Rattle.std.specs.Prelude.{◌≡◌, ◌≢◌, ◌⊎◌, ◌++◌, ℕ, List, [], ◌∷◌, length, Option, Some, None, Result, Ok, Err}
use Rattle.lake_base.specs.declared.digest.Digest.{Digest}
use Rattle.lake_values.specs.Commit.{CommitRecordValue}
use Rattle.lake_format.specs.Spelling.{commit_id}
use Rattle.lake_model.specs.declared.fault.StepFault.{StepFault}
use Rattle.lake_model.specs.declared.fault.StepFault.TheVariants as step
use Rattle.lake_model.specs.declared.history.HistoryEntry.{HistoryEntry}
use Rattle.lake_model.specs.HeadRefusals as reading
use Rattle.lake_model.specs.History.{accepted_entry, faulted_entry}
use Rattle.lake_model.specs.Refusals.{Clash, first_cause}
use Rattle.lake_model.specs.Versions.{branch_version}
use Rattle.lake_laws.specs.VersionGivers.{branch_and_settings}
use Rattle.lake_core.specs.declared.standing.LakeOrigin.{LakeOrigin}
use Rattle.shared_lake.specs.SeatSteps.{LakeSeat}
use Rattle.head_drafts.specs.declared.fault.DraftFault.TheVariants as draft
use Rattle.head_drafts.specs.declared.fault.HeadFault.{HeadFault}
use Rattle.head_drafts.specs.declared.fault.HeadFault.TheVariants.{Step, Draft}
use Rattle.call_placement.specs.Rules.{Caller}
use Rattle.call_placement.specs.Points.{Came}
use Rattle.call_placement.specs.Sessions.{caller}
use Rattle.lake_calls.specs.LakeRules.{by_caller, lake_rules}
use Rattle.flow_steps.specs.FlowSeats.{GoesOn, given_at, state_at}
use Rattle.flow_steps.specs.FlowTries.{first_before_versions}
use Rattle.head_steps.specs.NewHeads.{IsClashIn, IsFree, NewHead, commit_in, early_refusal, late_causes, operation_of}

-- a head that was made: the place of its entry, its id, and what its commit says
abbrev pub MadeHead : Type 0
MadeHead = ℕ × Digest × CommitRecordValue

module _ (origin : LakeOrigin) (by : Caller) (head : NewHead) where
  -- The step was reached: others' entries came to the reading, at which nothing refused the head, and others' to the step, at
  -- which nothing refused it either, neither by the causes of the step nor by those of the reading; and the step found the
  -- versions that were read.
  pub record HeadSteps (from found : List HistoryEntry) : Type 0 where
    pub read : List HistoryEntry
    pub to_reading : Came lake_rules by from read
    pub early : early_refusal head (state_at origin read) ≡ None
    pub to_step : Came lake_rules by read found
    pub free : IsFree head (state_at origin found)
    pub same : branch_and_settings head.repo head.branch (given_at origin found) ≡ branch_and_settings head.repo head.branch (given_at origin read)

  -- it was refused as steps are: at the reading, or at the step, by the first of its causes
  abbrev pub IsHeadRefused : StepFault → (from found : List HistoryEntry) → Type 0
  IsHeadRefused fault from found =
      (Came lake_rules by from found × (early_refusal head (state_at origin found) ≡ Some (reading.Step fault)))
      ⊎ ((read : List HistoryEntry) × Came lake_rules by from read × (early_refusal head (state_at origin read) ≡ None)
      × Came lake_rules by read found × (clash : Option Clash) × IsClashIn head (state_at origin found) clash
      × (first_cause (late_causes head (state_at origin found) clash) ≡ Some fault))

  -- the step found other versions than the reading, of the branch or of the settings, and the branch's is this: nothing
  -- refused the head at the reading, nor at the step before its versions
  abbrev pub FoundHeadVersions : (version : ℕ) → (from found : List HistoryEntry) → Type 0
  FoundHeadVersions version from found =
      (read : List HistoryEntry) × Came lake_rules by from read × Came lake_rules by read found
      × (branch_and_settings head.repo head.branch (given_at origin found) ≢ branch_and_settings head.repo head.branch (given_at origin read))
      × (version ≡ branch_version (given_at origin found) head.repo head.branch)
      × (early_refusal head (state_at origin read) ≡ None)
      × (first_before_versions (late_causes head (state_at origin found) None) ≡ None)

  -- the head was made, and this was told of it
  pub record IsHeadMade (made : MadeHead) (from next : List HistoryEntry) : Type 0 where
    pub found : List HistoryEntry
    pub steps : HeadSteps from found
    pub stands : next ≡ found ++ accepted_entry (by_caller by) (operation_of head) ∷ []
    pub place : made.0 ≡ length next
    pub commit : commit_in head (state_at origin found) ≡ Some made.2
    pub id : made.1 ≡ commit_id made.2

  -- WHAT CAME OF A TRY, between what was seen before it and after it.
  abbrev pub HeadTryEnds : Result MadeHead HeadFault → (from next : List HistoryEntry) → Type 0
  HeadTryEnds (Ok made) from next = IsHeadMade made from next
  HeadTryEnds (Err (Step step.StoreFault)) from next = (found : List HistoryEntry) × HeadSteps from found
      × (next ≡ found ++ faulted_entry (by_caller by) (operation_of head) ∷ [])
  HeadTryEnds (Err (Step step.NoMemory)) from next = Came lake_rules by from next
  HeadTryEnds (Err (Step (step.Changed version settings))) from next = FoundHeadVersions version from next
  HeadTryEnds (Err (Step fault)) from next = IsHeadRefused fault from next
  HeadTryEnds (Err (Draft draft.NoMemory)) from next = Came lake_rules by from next
  HeadTryEnds (Err (Draft (draft.Refused cause))) from next =
      Came lake_rules by from next × (early_refusal head (state_at origin next) ≡ Some (reading.Head cause))

-- A TRY OF A CALL, between its seat before it and after it: the seat went on in the call, and the try came to this.
pub record HasTriedHead (head : NewHead) (call : ℕ) (old new : LakeSeat) (result : Result MadeHead HeadFault) : Type 0 where
  pub origin : LakeOrigin
  pub goes : GoesOn origin call old new
  pub ends : HeadTryEnds origin (caller old.number call) head result old.seen new.seen
