-- The condition of each kind of entry, and what it changes; legal histories, and their replay.
use Rattle.std.specs.Prelude.{◌≡◌, ◌<◌, ◌+◌, true, false, ℕ, List, [], ◌∷◌}
use Rattle.lake_model.specs.declared.history.By.{By}
use Rattle.lake_model.specs.declared.history.HistoryEntry.{HistoryEntry}
use Rattle.lake_model.specs.declared.history.EntryKind.{EntryKind}
use Rattle.lake_model.specs.declared.history.EntryKind.TheVariants.{Accepted, Faulted}
use Rattle.lake_model.specs.declared.history.Operation.{Operation}
use Rattle.lake_model.specs.declared.history.Operation.TheVariants.{RepoCreate, BranchCreate, BranchDelete, TagCreate, TagDelete, TicketTake, TicketDrop, Stage}
use Rattle.lake_model.specs.declared.history.Operation.TheVariants.{Copy, Reset, Seal, Commit, Merge, Pick, NoteSet, Expire, Condemn}
use Rattle.lake_model.specs.State.{State}
use Rattle.lake_model.specs.Branches.{MayCreateBranch, after_branch_create, MayDeleteBranch, after_branch_delete, MayCreateTag, after_tag_create, MayDeleteTag}
use Rattle.lake_model.specs.Branches.{after_tag_delete}
use Rattle.lake_model.specs.Uncommitted.{MayTakeTicket, after_ticket_take, MayDropTicket, after_ticket_drop, MayStage, after_stage, MayCopy, after_copy}
use Rattle.lake_model.specs.Uncommitted.{MayReset, after_reset, MaySeal, after_seal}
use Rattle.lake_model.specs.Commits.{MayCreateRepository, after_repository_create, MayCommit, after_commit, MayMerge, after_merge, MayPick, after_pick}
use Rattle.lake_model.specs.NoteChanges.{MaySetNote, after_note_set}
use Rattle.lake_model.specs.Removal.{MayExpire, after_expire, MayCondemn, after_condemn}

-- an operation of a seat is possible in a state
abbrev pub IsPossible : State → ℕ → Operation → Type 0
IsPossible state seat (RepoCreate repo branch date) = MayCreateRepository state repo branch date
IsPossible state seat (BranchCreate repo branch commit) = MayCreateBranch state repo branch commit
IsPossible state seat (BranchDelete repo branch) = MayDeleteBranch state repo branch
IsPossible state seat (TagCreate repo tag commit) = MayCreateTag state repo tag commit
IsPossible state seat (TagDelete repo tag) = MayDeleteTag state repo tag
IsPossible state seat (TicketTake repo branch number) = MayTakeTicket state repo branch number
IsPossible state seat (TicketDrop number) = MayDropTicket state seat number
IsPossible state seat (Stage repo branch path change) = MayStage state seat repo branch change
IsPossible state seat (Copy repo branch path from from_path entry) = MayCopy state repo branch from from_path entry
IsPossible state seat (Reset repo branch what) = MayReset state repo branch
IsPossible state seat (Seal repo branch why) = MaySeal state repo branch why
IsPossible state seat (Commit repo branch about) = MayCommit state repo branch about
IsPossible state seat (Merge repo branch source strategy about) = MayMerge state repo branch source strategy about
IsPossible state seat (Pick repo branch base source strategy about) = MayPick state repo branch base source strategy about
IsPossible state seat (NoteSet repo name note) = MaySetNote state repo name note
IsPossible state seat (Expire now commits) = MayExpire state now commits
IsPossible state seat (Condemn numbers) = MayCondemn state numbers

-- the entry of an operation that was accepted, and who made it
abbrev pub accepted_entry : By → Operation → HistoryEntry
accepted_entry by operation = record { by = by; kind = Accepted operation }

-- the entry of an operation that was possible when the store failed
abbrev pub faulted_entry : By → Operation → HistoryEntry
faulted_entry by operation = record { by = by; kind = Faulted operation }

-- what an operation of a seat changes
abbrev pub after_operation : ℕ → Operation → State → State
after_operation seat (RepoCreate repo branch date) = after_repository_create repo branch date
after_operation seat (BranchCreate repo branch commit) = after_branch_create repo branch commit
after_operation seat (BranchDelete repo branch) = after_branch_delete repo branch
after_operation seat (TagCreate repo tag commit) = after_tag_create repo tag commit
after_operation seat (TagDelete repo tag) = after_tag_delete repo tag
after_operation seat (TicketTake repo branch number) = after_ticket_take seat number
after_operation seat (TicketDrop number) = after_ticket_drop number
after_operation seat (Stage repo branch path change) = after_stage repo branch path change
after_operation seat (Copy repo branch path from from_path entry) = after_copy repo branch path entry
after_operation seat (Reset repo branch what) = after_reset repo branch what
after_operation seat (Seal repo branch why) = after_seal repo branch
after_operation seat (Commit repo branch about) = after_commit repo branch about
after_operation seat (Merge repo branch source strategy about) = after_merge repo branch source strategy about
after_operation seat (Pick repo branch base source strategy about) = after_pick repo branch base source strategy about
after_operation seat (NoteSet repo name note) = after_note_set repo name note
after_operation seat (Expire now commits) = after_expire commits
after_operation seat (Condemn numbers) = after_condemn numbers

-- the store failed: nothing else changes from then on
abbrev pub after_fault : State → State
after_fault state = record state { stopped = true }

-- what an entry is about: an operation that was accepted, or one that was tried when the store failed
abbrev pub operation_of : EntryKind → Operation
operation_of (Accepted operation) = operation
operation_of (Faulted operation) = operation

-- what an entry of a seat changes, but for the number of entries
abbrev pub after_kind : ℕ → EntryKind → State → State
after_kind seat (Accepted operation) = after_operation seat operation
after_kind seat (Faulted operation) = after_fault

-- the state after an entry: one more
abbrev pub after : State → HistoryEntry → State
after state entry = record (after_kind entry.by.seat entry.kind state) { entries = state.entries + 1 }

-- An entry may come next: the lake isn't stopped, the history has room, and the operation is possible.
pub record Allows (state : State) (entry : HistoryEntry) : Type 0 where
  pub running : state.stopped ≡ false
  pub room : state.entries < 4194304
  pub possible : IsPossible state entry.by.seat (operation_of entry.kind)

-- the state after entries, one after the other
abbrev pub replay : State → List HistoryEntry → State
replay state [] = state
replay state (entry ∷ entries) = replay (after state entry) entries

-- a history is legal from a state on: each entry may come next in the state before it
abbrev pub IsLegal : State → List HistoryEntry → Type 0
IsLegal state [] = Unit {0}
IsLegal state (entry ∷ entries) = Allows state entry × IsLegal (after state entry) entries
