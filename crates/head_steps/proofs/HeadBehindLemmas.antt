-- A try of a new head behind entries of others that came, as one from where these began.
use Rattle.std.proofs.Common.{inl, inr, List, Result, Ok, Err}
use Rattle.lake_model.specs.declared.fault.StepFault.{StepFault}
use Rattle.lake_model.specs.declared.fault.StepFault.TheVariants as step
use Rattle.lake_model.specs.declared.history.HistoryEntry.{HistoryEntry}
use Rattle.lake_core.specs.declared.standing.LakeOrigin.{LakeOrigin}
use Rattle.call_placement.specs.Rules.{Caller}
use Rattle.call_placement.specs.Points.{Came}
use Rattle.call_placement.proofs.WalkLemmas.{came_on}
use Rattle.lake_calls.specs.LakeRules.{lake_rules}
use Rattle.head_drafts.specs.declared.fault.DraftFault.TheVariants as draft
use Rattle.head_drafts.specs.declared.fault.HeadFault.{HeadFault}
use Rattle.head_drafts.specs.declared.fault.HeadFault.TheVariants.{Step, Draft}
use Rattle.head_steps.specs.HeadTries.{HeadSteps, HeadTryEnds, IsHeadRefused, MadeHead}
use Rattle.head_steps.specs.NewHeads.{NewHead}

module _ (origin : LakeOrigin) (by : Caller) (head : NewHead) (from now : List HistoryEntry) (came : Came lake_rules by from now) where
  behind : (read : List HistoryEntry) → Came lake_rules by now read → Came lake_rules by from read
  behind read more = came_on lake_rules by from now read came more

  steps_before : (found : List HistoryEntry) → HeadSteps origin by head now found → HeadSteps origin by head from found
  steps_before found steps = record {
    read = steps.read;
    to_reading = behind steps.read steps.to_reading;
    early = steps.early;
    to_step = steps.to_step;
    free = steps.free;
    same = steps.same;
  }

  refused_before : (fault : StepFault) (next : List HistoryEntry) → IsHeadRefused origin by head fault now next → IsHeadRefused origin by head fault from next
  refused_before fault next is = elim is [
    | inl early ↦ inl (behind next early.0, early.1)
    | inr late ↦ inr (late.0, behind late.0 late.1, late.2, late.3, late.4, late.5, late.6)
  ]

  pub head_ends_before : (result : Result MadeHead HeadFault) (next : List HistoryEntry) → HeadTryEnds origin by head result now next
      → HeadTryEnds origin by head result from next
  head_ends_before (Ok made) next ends = record {
    found = ends.found;
    steps = steps_before ends.found ends.steps;
    stands = ends.stands;
    place = ends.place;
    commit = ends.commit;
    id = ends.id;
  }
  head_ends_before (Err (Step step.StoreFault)) next ends = (ends.0, steps_before ends.0 ends.1, ends.2)
  head_ends_before (Err (Step step.NoMemory)) next ends = behind next ends
  head_ends_before (Err (Step (step.Changed version settings))) next ends = (ends.0, behind ends.0 ends.1, ends.2, ends.3, ends.4, ends.5, ends.6)
  head_ends_before (Err (Step fault)) next ends = refused_before fault next ends
  head_ends_before (Err (Draft draft.NoMemory)) next ends = behind next ends
  head_ends_before (Err (Draft (draft.Refused cause))) next ends = (behind next ends.0, ends.1)
