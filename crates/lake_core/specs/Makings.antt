-- What each change makes of a lake in memory; what a new head makes of it is `head_making` of `core_commits`.
use Rattle.std.specs.Prelude.{ℕ, List, [], Option, option_and_then, option_map}
use Rattle.lake_base.specs.declared.digest.Digest.{Digest}
use Rattle.lake_values.specs.Entry.{EntryValue}
use Rattle.lake_values.specs.declared.commit.ResetWhat.{ResetWhat}
use Rattle.lake_values.specs.declared.entry.Change.{Change}
use Rattle.lake_values.specs.declared.entry.Change.TheVariants.{Put}
use Rattle.lake_values.specs.declared.settings.Note.{Note}
use Rattle.lake_values.specs.declared.settings.NoteName.{NoteName}
use Rattle.commit_graph.specs.Expressions.{RefExprValue}
use Rattle.lake_model.specs.declared.history.CopySource.{CopySource}
use Rattle.lake_model.specs.declared.history.Operation.TheVariants.{BranchCreate, BranchDelete, Copy, NoteSet, RepoCreate, Reset, Seal, Stage, TagCreate}
use Rattle.lake_model.specs.declared.history.Operation.TheVariants.{TagDelete, TicketDrop, TicketTake}
use Rattle.lake_model.specs.declared.history.SealFor.{SealFor}
use Rattle.lake_model.specs.Steps.{copied_entry, copy_source, in_it, target_in}
use Rattle.core_state.specs.LakeStates.{LakeStateValue, state_of}
use Rattle.core_changes.specs.LakeChanges.{after_branch_create, after_branch_delete, after_copy, after_note_set, after_repository_create, after_reset}
use Rattle.core_changes.specs.LakeChanges.{after_seal, after_stage, after_tag_create, after_tag_delete, after_ticket_drop, after_ticket_take}
use Rattle.core_puts.specs.KeptChanges.{Making}
use Rattle.core_puts.specs.Puts.{create_branch_puts, create_repository_puts, create_tag_puts, delete_branch_puts, delete_tag_puts, reset_puts, seal_puts}
use Rattle.core_puts.specs.Puts.{set_note_puts, stage_puts, ticket_puts}

-- a number is given out to a seat
abbrev pub take_ticket : ℕ → List ℕ → List ℕ → LakeStateValue → Making
take_ticket seat repo branch l = record {
  operation = TicketTake repo branch l.next_number;
  after = after_ticket_take seat;
  puts = ticket_puts l;
}

-- an upload is given up; tickets aren't kept
abbrev pub drop_ticket : ℕ → Making
drop_ticket number = record { operation = TicketDrop number; after = after_ticket_drop number; puts = [] }

-- a change is staged
abbrev pub stage : List ℕ → List ℕ → List ℕ → Change → LakeStateValue → Making
stage repo branch path change l = record {
  operation = Stage repo branch path change;
  after = after_stage repo branch path change;
  puts = stage_puts repo branch path change l;
}

-- an entry is copied
abbrev pub copy_making : List ℕ → List ℕ → List ℕ → CopySource → List ℕ → EntryValue → LakeStateValue → Making
copy_making repo branch path source from entry l = record {
  operation = Copy repo branch path source from entry;
  after = after_copy repo branch path entry;
  puts = stage_puts repo branch path (Put entry) l;
}

-- the entry that an expression has at a path is copied, from what the expression leads to, where both are there
abbrev pub copy : List ℕ → List ℕ → List ℕ → RefExprValue → List ℕ → LakeStateValue → Option Making
copy repo branch path e from l =
    option_and_then (λ source. option_map (λ entry. copy_making repo branch path source from entry l)
    (copied_entry (state_of l) repo e from)) (in_it (state_of l) repo (λ r. copy_source r e))

-- changes are dropped
abbrev pub reset : List ℕ → List ℕ → ResetWhat → LakeStateValue → Making
reset repo branch what l = record {
  operation = Reset repo branch what;
  after = after_reset repo branch what;
  puts = reset_puts repo branch what l;
}

-- staged changes are sealed
abbrev pub seal : List ℕ → List ℕ → SealFor → LakeStateValue → Making
seal repo branch why l = record {
  operation = Seal repo branch why;
  after = after_seal repo branch;
  puts = seal_puts repo branch l;
}

-- a repository is made at a date
abbrev pub create_repo : List ℕ → List ℕ → ℕ → LakeStateValue → Making
create_repo repo branch date l = record {
  operation = RepoCreate repo branch date;
  after = after_repository_create repo branch date;
  puts = create_repository_puts repo branch date l;
}

-- a branch is made at a commit
abbrev pub branch_making : List ℕ → List ℕ → Digest → LakeStateValue → Making
branch_making repo name commit l = record {
  operation = BranchCreate repo name commit;
  after = after_branch_create repo name commit;
  puts = create_branch_puts repo name commit l;
}

-- a branch is made at the commit of an expression, where it leads to one
abbrev pub create_branch : List ℕ → List ℕ → RefExprValue → LakeStateValue → Option Making
create_branch repo name e l =
    option_map (λ commit. branch_making repo name commit l) (in_it (state_of l) repo (λ r. target_in r e))

-- a branch goes
abbrev pub delete_branch : List ℕ → List ℕ → LakeStateValue → Making
delete_branch repo name l = record {
  operation = BranchDelete repo name;
  after = after_branch_delete repo name;
  puts = delete_branch_puts repo name l;
}

-- a tag names a commit
abbrev pub tag_making : List ℕ → List ℕ → Digest → Making
tag_making repo name commit = record {
  operation = TagCreate repo name commit;
  after = after_tag_create repo name commit;
  puts = create_tag_puts repo name commit;
}

-- a tag names the commit of an expression, where it leads to one
abbrev pub create_tag : List ℕ → List ℕ → RefExprValue → LakeStateValue → Option Making
create_tag repo name e l =
    option_map (tag_making repo name) (in_it (state_of l) repo (λ r. target_in r e))

-- a tag goes
abbrev pub delete_tag : List ℕ → List ℕ → Making
delete_tag repo name = record {
  operation = TagDelete repo name;
  after = after_tag_delete repo name;
  puts = delete_tag_puts repo name;
}

-- a setting is set, or deleted where no new one is given
abbrev pub set_note : List ℕ → NoteName → Option Note → LakeStateValue → Making
set_note repo name note l = record {
  operation = NoteSet repo name note;
  after = after_note_set repo name note;
  puts = set_note_puts repo name note l;
}
