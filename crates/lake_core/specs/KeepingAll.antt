-- Lakes of which nothing was removed.
use Rattle.std.specs.Prelude.{◌≡◌, ℕ, List, Option, Some, None, IfSome}
use Rattle.std.specs.FinMap.{empty, get}
use Rattle.std.specs.List.{AllByRecursion}
use Rattle.lake_base.specs.declared.digest.Digest.{Digest}
use Rattle.lake_values.specs.Commit.{AboutValue}
use Rattle.lake_values.specs.Entry.{EntryValue}
use Rattle.lake_values.specs.declared.commit.ResetWhat.{ResetWhat}
use Rattle.lake_values.specs.declared.entry.Change.{Change}
use Rattle.lake_values.specs.declared.settings.Note.{Note}
use Rattle.lake_values.specs.declared.settings.Note.TheVariants.{Retention}
use Rattle.lake_values.specs.declared.settings.NoteName.{NoteName}
use Rattle.lake_model.specs.declared.history.CopySource.{CopySource}
use Rattle.lake_model.specs.declared.history.HistoryEntry.{HistoryEntry}
use Rattle.lake_model.specs.declared.history.Operation.{Operation}
use Rattle.lake_model.specs.declared.history.Operation.TheVariants.{Condemn, Expire, NoteSet}
use Rattle.lake_model.specs.declared.history.SealFor.{SealFor}
use Rattle.lake_model.specs.declared.reply.SwapKind.{SwapKind}
use Rattle.lake_model.specs.State.{Repository, State}
use Rattle.lake_model.specs.History.{operation_of}
use Rattle.lake_model.specs.Steps.{swap_operation}
use Rattle.core_state.specs.LakeStates.{LakeStateValue}
use Rattle.core_puts.specs.Puts.{HasText}
use Rattle.lake_core.specs.Makings.{branch_making, copy_making, create_repo, delete_branch, delete_tag, drop_ticket, reset, seal, set_note, stage}
use Rattle.lake_core.specs.Makings.{tag_making, take_ticket}

-- no commit of a repository is expired, and no retention is set
pub record KeepsAllCommits (r : Repository) : Type 0 where
  pub expired : r.expired ≡ empty
  pub retention : r.notes.retention ≡ None

-- nothing of a lake was removed: no number is gone, and each repository keeps all of its commits
pub record KeepsAll (state : State) : Type 0 where
  pub gone : state.gone ≡ empty
  pub repositories : (name : List ℕ) (r : Repository) → get state.repositories name ≡ Some r → KeepsAllCommits r

-- an operation expires no commit, condemns no number, and sets no retention
abbrev pub RemovesNothing : Operation → Type 0
RemovesNothing (Expire now commits) = ⊥
RemovesNothing (Condemn numbers) = ⊥
RemovesNothing (NoteSet repo name (Some (Retention rules))) = ⊥
RemovesNothing operation = Unit {0}

-- nor does any entry of a history
abbrev pub RemoveNothing : List HistoryEntry → Type 0
RemoveNothing history = AllByRecursion (λ entry. RemovesNothing (operation_of entry.kind)) history

-- no step's operation removes anything; of settings those that are set have a text, which a retention hasn't
pub record StepsRemoveNothing : Type 0 where
  pub of_take_ticket : (seat : ℕ) (repo branch : List ℕ) (l : LakeStateValue) → RemovesNothing (take_ticket seat repo branch l).operation
  pub of_drop_ticket : (number : ℕ) → RemovesNothing (drop_ticket number).operation
  pub of_stage : (repo branch path : List ℕ) (change : Change) (l : LakeStateValue) → RemovesNothing (stage repo branch path change l).operation
  pub of_copy : (repo branch path : List ℕ) (source : CopySource) (from : List ℕ) (entry : EntryValue) (l : LakeStateValue)
      → RemovesNothing (copy_making repo branch path source from entry l).operation
  pub of_reset : (repo branch : List ℕ) (what : ResetWhat) (l : LakeStateValue) → RemovesNothing (reset repo branch what l).operation
  pub of_seal : (repo branch : List ℕ) (why : SealFor) (l : LakeStateValue) → RemovesNothing (seal repo branch why l).operation
  pub of_create_repo : (repo branch : List ℕ) (date : ℕ) (l : LakeStateValue) → RemovesNothing (create_repo repo branch date l).operation
  pub of_create_branch : (repo name : List ℕ) (commit : Digest) (l : LakeStateValue) → RemovesNothing (branch_making repo name commit l).operation
  pub of_delete_branch : (repo name : List ℕ) (l : LakeStateValue) → RemovesNothing (delete_branch repo name l).operation
  pub of_create_tag : (repo name : List ℕ) (commit : Digest) → RemovesNothing (tag_making repo name commit).operation
  pub of_delete_tag : (repo name : List ℕ) → RemovesNothing (delete_tag repo name).operation
  pub of_set_note : (repo : List ℕ) (which : NoteName) (note : Option Note) (l : LakeStateValue) → IfSome note HasText
      → RemovesNothing (set_note repo which note l).operation
  pub of_swap : (repo branch : List ℕ) (kind : SwapKind) (about : AboutValue) → RemovesNothing (swap_operation repo branch kind about)
