-- A new head, tried at most ten times.
use Rattle.std.specs.Prelude.{◌≡◌, ◌<◌, ℕ, List, Option, Result, Ok, Err, length}
use Rattle.lake_model.specs.declared.fault.StepFault.TheVariants as step
use Rattle.lake_model.specs.declared.history.HistoryEntry.{HistoryEntry}
use Rattle.lake_core.specs.declared.standing.LakeOrigin.{LakeOrigin}
use Rattle.shared_lake.specs.SeatSteps.{LakeSeat}
use Rattle.call_placement.specs.Rules.{Caller}
use Rattle.call_placement.specs.Points.{Came}
use Rattle.call_placement.specs.Sessions.{caller}
use Rattle.lake_calls.specs.LakeRules.{lake_rules}
use Rattle.flow_steps.specs.FlowSeats.{GoesOn}
use Rattle.flow_steps.specs.Retries.{AreEnds, FoundInTurn, HasPaused}
use Rattle.head_drafts.specs.declared.fault.DraftFault.TheVariants.{Refused as NotDrafted}
use Rattle.head_drafts.specs.declared.fault.HeadFault.{HeadFault}
use Rattle.head_drafts.specs.declared.fault.HeadFault.TheVariants as attempt
use Rattle.head_steps.specs.HeadTries.{FoundHeadVersions, HeadTryEnds, MadeHead}
use Rattle.head_steps.specs.NewHeads.{NewHead}
use Rattle.commit_flow.specs.declared.answer.CommitFault.{CommitFault}
use Rattle.commit_flow.specs.declared.answer.CommitFault.TheVariants.{Step, TooManyTries, Head, NoMemory}
use Rattle.commit_flow.specs.declared.tries.TriedHead.{TriedHead}
use Rattle.commit_flow.specs.declared.tries.TriedHead.TheVariants.{Made, Changed, Refused}

module _ (origin : LakeOrigin) (by : Caller) (head : NewHead) where
  -- what came of the last of tries, as a flow answers it
  abbrev pub LastAnswers : Result MadeHead CommitFault → (from next : List HistoryEntry) → Type 0
  LastAnswers (Ok made) from next = HeadTryEnds origin by head (Ok made) from next
  LastAnswers (Err (Head cause)) from next = HeadTryEnds origin by head (Err (attempt.Draft (NotDrafted cause))) from next
  LastAnswers (Err NoMemory) from next = Came lake_rules by from next
  LastAnswers (Err (Step (step.Changed version settings))) from next = ⊥
  LastAnswers (Err (Step step.NoMemory)) from next = ⊥
  LastAnswers (Err (Step fault)) from next = HeadTryEnds origin by head (Err (attempt.Step fault)) from next
  LastAnswers (Err _) from next = ⊥

  -- HOW TRIES ENDED of which the first found these versions of the branch, where it or the settings had another one than at
  -- their readings: they were ten, and none more came; or they were fewer, and the last one came to this.
  abbrev pub HeadTriesEnd : (versions : List ℕ) → Result MadeHead CommitFault → (from next : List HistoryEntry) → Type 0
  HeadTriesEnd versions (Err (TooManyTries first last)) from next = (length versions ≡ 10) × AreEnds first last versions × (next ≡ from)
  HeadTriesEnd versions result from next = (length versions < 10) × LastAnswers result from next

-- A CALL'S NEW HEAD WAS TRIED at most ten times, between its seat before the tries and after them: some tries found these
-- versions, one after the other; and so they ended. A pause that tells it was called at most ten times, and as often at least
-- as a try found other versions.
pub record HaveTriedHead (head : NewHead) (call : ℕ) (old new : LakeSeat) (paused pauses : Option ℕ) (result : Result MadeHead CommitFault) : Type 0 where
  pub origin : LakeOrigin
  pub goes : GoesOn origin call old new
  pub versions : List ℕ
  pub between : List HistoryEntry
  pub found : FoundInTurn (FoundHeadVersions origin (caller old.number call) head) versions old.seen between
  pub ends : HeadTriesEnd origin (caller old.number call) head versions result between new.seen
  pub pause : HasPaused 10 (length versions) paused pauses

-- what came of a try, told apart
abbrev pub tried_of : Result MadeHead HeadFault → TriedHead
tried_of (Ok made) = Made made
tried_of (Err (attempt.Step (step.Changed version settings))) = Changed version
tried_of (Err fault) = Refused fault
