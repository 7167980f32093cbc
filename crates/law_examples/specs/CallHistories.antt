-- Histories that two seats make, and a call of one of them.
use Rattle.std.specs.Prelude.{ℕ, List, [], ◌∷◌, ◌++◌, Some}
use Rattle.lake_values.specs.Commit.{AboutValue}
use Rattle.lake_values.specs.declared.settings.NoteName.TheVariants as name
use Rattle.lake_format.specs.declared.cut.Cut.{Cut}
use Rattle.lake_model.specs.declared.history.HistoryEntry.{HistoryEntry}
use Rattle.lake_model.specs.declared.history.Operation.{Operation}
use Rattle.lake_model.specs.declared.history.Operation.TheVariants.{BranchDelete, TicketTake, TicketDrop, Stage, Seal, Commit, NoteSet}
use Rattle.lake_model.specs.declared.history.SealFor.TheVariants as seal
use Rattle.lake_model.specs.State.{State}
use Rattle.lake_model.specs.History.{accepted_entry, faulted_entry, replay}
use Rattle.lake_model.specs.Soundness.{fresh}
use Rattle.lake_values.specs.declared.entry.Change.TheVariants.{Put}
use Rattle.call_placement.specs.Rules.{Caller}
use Rattle.lake_calls.specs.Calls.{UploadCall}
use Rattle.lake_calls.specs.LakeRules.{by_caller}
use Rattle.lake_calls.specs.declared.call.Call.{Call}
use Rattle.lake_calls.specs.declared.call.Call.TheVariants.{Heads, Objects}
use Rattle.lake_calls.specs.declared.heads.HeadCall.TheVariants as head
use Rattle.lake_calls.specs.declared.objects.ObjectCall.TheVariants as object
use Rattle.law_examples.specs.HistoryWords.{quickstart, main, outside, a}
use Rattle.law_examples.specs.Merges.{dev}
use Rattle.law_examples.specs.RefusedLakes.{ma_protected}
use Rattle.law_examples.specs.UploadSteps.{staging, taking}

-- the call that is looked at, of the seat 0, and one of the seat 1
abbrev pub own_call : Caller
own_call = record { seat = 0; call = 1 }

abbrev pub other_call : Caller
other_call = record { seat = 1; call = 1 }

-- their entries
abbrev pub own_entry : Operation → HistoryEntry
own_entry operation = accepted_entry (by_caller own_call) operation

abbrev pub other_entry : Operation → HistoryEntry
other_entry operation = accepted_entry (by_caller other_call) operation

-- a body that is to stand at `a` of `main`
abbrev pub upload_to_a : (body : List ℕ) → UploadCall
upload_to_a body = record { repo = quickstart; branch = main; path = a; content_type = []; body = body }

-- `a` of a branch is to go
abbrev pub delete_of_a : (branch : List ℕ) → Call
delete_of_a branch = Objects (object.Delete (record { repo = quickstart; branch = branch; path = a }))

-- what is sealed on `main` is to be committed
abbrev pub commit_of_main : AboutValue → Call
commit_of_main about = Heads (head.Commit (record {
  repo = quickstart;
  branch = main;
  committer = about.committer;
  message = about.message;
  metadata = about.metadata;
}))

-- ---- an upload beside another seat's ticket

-- the other seat takes the number 0, this one the number 1, and puts its body
abbrev pub numbers_beside : (body : List ℕ) (moment : ℕ) → List HistoryEntry
numbers_beside body moment =
    other_entry (TicketTake quickstart main 0) ∷ own_entry (taking (upload_to_a body) 1) ∷ own_entry (staging (upload_to_a body) moment 1) ∷ []

-- ---- a branch that went, and a fault

-- the store fails as the other seat seals `main`
abbrev pub other_fault : HistoryEntry
other_fault = faulted_entry (by_caller other_call) (Seal quickstart main seal.Other)

-- the other seat deletes `dev`, and then the store fails
abbrev pub deleted_and_stopped : List HistoryEntry
deleted_and_stopped = other_entry (BranchDelete quickstart dev) ∷ other_fault ∷ []

-- ---- a commit of what another committed

-- the other seat puts the outside object at `a`
abbrev pub put_by_other : List HistoryEntry
put_by_other = other_entry (Stage quickstart main a (Put outside)) ∷ []

-- this one seals `main`
abbrev pub own_seal : HistoryEntry
own_seal = own_entry (Seal quickstart main seal.Commit)

-- and the other seals it too
abbrev pub other_seal : HistoryEntry
other_seal = other_entry (Seal quickstart main seal.Commit)

abbrev pub sealed_by_both : List HistoryEntry
sealed_by_both = put_by_other ++ own_seal ∷ other_seal ∷ []

-- and the other commits
abbrev pub taken_by_other : AboutValue → List HistoryEntry
taken_by_other about = sealed_by_both ++ other_entry (Commit quickstart main about) ∷ []

abbrev pub lake_of_both : Cut → State
lake_of_both cut = replay (fresh cut) sealed_by_both

-- ---- an upload that gave up

-- the number 0 is taken, and given back
abbrev pub taken_and_dropped : (body : List ℕ) → List HistoryEntry
taken_and_dropped body = own_entry (taking (upload_to_a body) 0) ∷ own_entry (TicketDrop 0) ∷ []

-- ---- a branch that is protected

-- the other seat protects the branches whose names begin with `ma`
abbrev pub protected_by_other : List HistoryEntry
protected_by_other = other_entry (NoteSet quickstart name.Protection (Some ma_protected)) ∷ []
