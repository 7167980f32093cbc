-- A guarded change, tried at most ten times.
use Rattle.std.specs.Prelude.{◌≡◌, ◌<◌, ℕ, List, Option, None, Result, Ok, Err, length}
use Rattle.lake_values.specs.Entry.{EntryValue}
use Rattle.lake_model.specs.declared.fault.StepFault.TheVariants as step
use Rattle.lake_model.specs.declared.fault.StepFault.{StepFault}
use Rattle.lake_model.specs.declared.history.HistoryEntry.{HistoryEntry}
use Rattle.lake_core.specs.declared.standing.LakeOrigin.{LakeOrigin}
use Rattle.shared_lake.specs.SeatSteps.{LakeSeat}
use Rattle.call_placement.specs.Rules.{Caller}
use Rattle.call_placement.specs.Sessions.{caller}
use Rattle.flow_steps.specs.FlowSeats.{GoesOn}
use Rattle.flow_steps.specs.FlowTries.{FoundVersion, Guarded, TryEnds, copying, staging}
use Rattle.flow_steps.specs.Retries.{AreEnds, FoundInTurn, HasPaused}
use Rattle.lake_model.specs.Uncommitted.{put_number}
use Rattle.write_flow.specs.declared.tries.What.{What}
use Rattle.write_flow.specs.declared.tries.What.TheVariants.{Change as WhatChange, Copy as WhatCopy}
use Rattle.write_flow.specs.declared.tries.Tried.{Tried}
use Rattle.write_flow.specs.declared.tries.Tried.TheVariants.{Told, Changed as FoundAnother, Refused}
use Rattle.write_flow.specs.declared.answer.FlowFault.{FlowFault}
use Rattle.write_flow.specs.declared.answer.FlowFault.TheVariants.{Step, TooManyTries, NoPath, NoMemory}

-- how many versions a try found: one, where another version is its refusal
abbrev pub version_found : {X : Type 0} → Result X StepFault → ℕ
version_found (Err (step.Changed version settings)) = 1
version_found result = 0

module _ (origin : LakeOrigin) (by : Caller) (guarded : Guarded) where
  -- what came of the last of tries, as a flow answers it
  abbrev pub LastAnswers : Result (Option EntryValue) FlowFault → (from next : List HistoryEntry) → Type 0
  LastAnswers (Ok told) from next = TryEnds origin by guarded (Ok told) from next
  LastAnswers (Err NoPath) from next = TryEnds origin by guarded (Err step.NoPath) from next
  LastAnswers (Err NoMemory) from next = TryEnds origin by guarded (Err step.NoMemory) from next
  LastAnswers (Err (Step (step.Changed version settings))) from next = ⊥
  LastAnswers (Err (Step step.NoPath)) from next = ⊥
  LastAnswers (Err (Step step.NoMemory)) from next = ⊥
  LastAnswers (Err (Step fault)) from next = TryEnds origin by guarded (Err fault) from next
  LastAnswers (Err _) from next = ⊥

  -- HOW TRIES ENDED of which the first found these versions, each another one than its reading: they were ten, and none more
  -- came; or they were fewer, and the last one came to this.
  abbrev pub TriesEnd : (versions : List ℕ) → Result (Option EntryValue) FlowFault → (from next : List HistoryEntry) → Type 0
  TriesEnd versions (Err (TooManyTries first last)) from next = (length versions ≡ 10) × AreEnds first last versions × (next ≡ from)
  TriesEnd versions result from next = (length versions < 10) × LastAnswers result from next

-- A CALL'S GUARDED CHANGE WAS TRIED at most ten times, between its seat before the tries and after them: some tries found
-- these versions, one after the other, each another one than its reading; and so they ended. A pause that tells it was called
-- at most ten times, and as often at least as a try found another version.
pub record HaveTried (guarded : Guarded) (call : ℕ) (old new : LakeSeat) (paused pauses : Option ℕ) (result : Result (Option EntryValue) FlowFault)
    : Type 0 where
  pub origin : LakeOrigin
  pub goes : GoesOn origin call old new
  pub versions : List ℕ
  pub between : List HistoryEntry
  pub found : FoundInTurn (FoundVersion origin (caller old.number call) guarded) versions old.seen between
  pub ends : TriesEnd origin (caller old.number call) guarded versions result between new.seen
  pub pause : HasPaused 10 (length versions) paused pauses

-- what is made at a path
abbrev pub guarded_of : (repo branch path : List ℕ) → What → Guarded
guarded_of repo branch path (WhatChange change) = staging repo branch path change.now
guarded_of repo branch path (WhatCopy e from) = copying repo branch path e.now from.now

-- the number of an own object that is put there
abbrev pub staged_number : What → Option ℕ
staged_number (WhatChange change) = put_number change.now
staged_number (WhatCopy e from) = None

-- what came of a try, told apart
abbrev pub tried_of : Result (Option EntryValue) StepFault → Tried
tried_of (Ok copied) = Told copied
tried_of (Err (step.Changed version settings)) = FoundAnother version
tried_of (Err fault) = Refused fault
