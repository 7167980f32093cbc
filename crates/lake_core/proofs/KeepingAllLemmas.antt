-- What removes nothing leaves all of a lake.
use Rattle.std.proofs.Common.{◌≡◌, ℕ, Bool, true, false, cond, List, [], ◌∷◌, refl, sym, ap, subst, ◌∙◌, inl, inr}
use Rattle.std.specs.Prelude.{Option, Some, None, IfSome, option_map, Ok, Err, codes}
use Rattle.std.specs.Option.{option_map_or, option_or}
use Rattle.std.specs.FinMap.{empty, get}
use Rattle.lake_values.specs.declared.settings.Note.{Note}
use Rattle.lake_values.specs.declared.settings.Note.TheVariants.{Retention, Protection, Hooks}
use Rattle.lake_values.specs.declared.settings.NoteName.{NoteName}
use Rattle.lake_values.specs.declared.settings.NoteName.TheVariants as name
use Rattle.lake_format.specs.declared.cut.Cut.{Cut}
use Rattle.lake_model.specs.declared.fault.StepFault.TheVariants.{NoRepo, NoNote}
use Rattle.lake_model.specs.declared.history.EntryKind.{EntryKind}
use Rattle.lake_model.specs.declared.history.EntryKind.TheVariants.{Accepted, Faulted}
use Rattle.lake_model.specs.declared.history.HistoryEntry.{HistoryEntry}
use Rattle.lake_model.specs.declared.history.Operation.{Operation}
use Rattle.lake_model.specs.declared.history.Operation.TheVariants.{RepoCreate, Stage, Commit, Merge, Pick, NoteSet, Expire, Condemn}
use Rattle.lake_model.specs.State.{Notes, Repository, State}
use Rattle.lake_model.specs.Uncommitted.{put_number}
use Rattle.lake_model.specs.Commits.{new_repository, commit_draft, merge_draft, pick_draft}
use Rattle.lake_model.specs.NoteChanges.{note_at, notes_after}
use Rattle.lake_model.specs.Readings.{NoteReply, note_reply}
use Rattle.lake_model.specs.Soundness.{fresh}
use Rattle.lake_model.specs.Steps.{swap_operation}
use Rattle.lake_model.specs.declared.reply.SwapKind.{SwapKind}
use Rattle.lake_model.specs.declared.reply.SwapKind.TheVariants as kind
use Rattle.lake_values.specs.Commit.{AboutValue}
use Rattle.core_puts.specs.Puts.{HasText}
use Rattle.lake_model.specs.Versions.{VersionsGiven, settings_version}
use Rattle.lake_model.specs.History.{after, after_kind, after_operation, operation_of, replay}
use Rattle.lake_laws.proofs.ChangeLemmas.{insert_cases, nothing_stands}
use Rattle.lake_laws.proofs.KeepingLemmas.{kept_draft}
use Rattle.lake_laws.proofs.NamingLemmas.{left_without}
use Rattle.lake_laws.proofs.OperationLemmas.{change_of, changed_by, get_after, kept_if, made_repository, touches}
use Rattle.lake_laws.proofs.PartsLemmas.{ties}
use Rattle.lake_core.specs.KeepingAll.{KeepsAll, KeepsAllCommits, RemoveNothing, RemovesNothing, StepsRemoveNothing}

-- ---- a repository

-- a retention is there only where it was set
notes_whole : (repo : List ℕ) (which : NoteName) (note : Option Note) (notes : Notes) → RemovesNothing (NoteSet repo which note)
    → notes.retention ≡ None → (notes_after which note notes).retention ≡ None
notes_whole repo which (Some (Retention rules)) notes nothing is = absurd nothing
notes_whole repo which (Some (Protection patterns)) notes nothing is = is
notes_whole repo which (Some (Hooks rules)) notes nothing is = is
notes_whole repo name.Retention None notes nothing is = refl
notes_whole repo name.Protection None notes nothing is = is
notes_whole repo name.Hooks None notes nothing is = is

-- what an operation makes of one
change_whole : (cut : Cut) (operation : Operation) (q : List ℕ) (r : Repository) → RemovesNothing operation
    → KeepsAllCommits r → KeepsAllCommits (change_of cut operation q r)
change_whole cut (Commit repo branch about) q r nothing whole =
    kept_draft KeepsAllCommits cut branch (λ r b. commit_draft r b about) r
    (λ b is. record { expired = whole.expired; retention = whole.retention }) whole
change_whole cut (Merge repo branch source strategy about) q r nothing whole =
    kept_draft KeepsAllCommits cut branch (merge_draft source strategy about) r
    (λ b is. record { expired = whole.expired; retention = whole.retention }) whole
change_whole cut (Pick repo branch base source strategy about) q r nothing whole =
    kept_draft KeepsAllCommits cut branch (pick_draft base source strategy about) r
    (λ b is. record { expired = whole.expired; retention = whole.retention }) whole
change_whole cut (NoteSet repo which note) q r nothing whole =
    record { expired = whole.expired; retention = notes_whole repo which note r.notes nothing whole.retention }
change_whole cut (Expire now commits) q r nothing whole = absurd nothing
change_whole cut _ q r nothing whole = record { expired = whole.expired; retention = whole.retention }

new_whole : (cut : Cut) (date : ℕ) (branch : List ℕ) → KeepsAllCommits (new_repository cut date branch)
new_whole cut date branch = record { expired = refl; retention = refl }

made_by : (test : Bool) (new m : Repository) → KeepsAllCommits new → cond test (Some new) None ≡ Some m → KeepsAllCommits m
made_by true new m whole is = let same : new ≡ m = cc in subst KeepsAllCommits same whole
made_by false new m whole is = absurd cc

-- the one that an operation makes
made_whole : (cut : Cut) (operation : Operation) (q : List ℕ) (m : Repository) → made_repository cut operation q ≡ Some m
    → KeepsAllCommits m
made_whole cut (RepoCreate repo branch date) q m is =
    made_by (ties q repo) (new_repository cut date branch) m (new_whole cut date branch) is
made_whole cut _ q m is = absurd cc

-- ---- a lake

from_parts : (made here : Option Repository) (f : Repository → Repository) (r : Repository)
    → ((m : Repository) → made ≡ Some m → KeepsAllCommits m)
    → ((x : Repository) → here ≡ Some x → KeepsAllCommits (f x))
    → option_or made (option_map f here) ≡ Some r → KeepsAllCommits r
from_parts None None f r made_is here_is is = absurd cc
from_parts None (Some x) f r made_is here_is is = let same : f x ≡ r = cc in subst KeepsAllCommits same (here_is x refl)
from_parts (Some m) here f r made_is here_is is = let same : m ≡ r = cc in subst KeepsAllCommits same (made_is m refl)

gone_whole : (state : State) (seat : ℕ) (operation : Operation) → RemovesNothing operation → state.gone ≡ empty
    → (after_operation seat operation state).gone ≡ empty
gone_whole state seat (Stage repo branch path change) nothing is = (left_without (put_number change) state).1 ∙ is
gone_whole state seat (Expire now commits) nothing is = absurd nothing
gone_whole state seat (Condemn numbers) nothing is = absurd nothing
gone_whole state seat _ nothing is = is

operation_whole : (state : State) (seat : ℕ) (operation : Operation) → RemovesNothing operation → KeepsAll state
    → KeepsAll (after_operation seat operation state)
operation_whole state seat operation nothing whole = record {
  gone = gone_whole state seat operation nothing whole.gone;
  repositories = λ q r is.
      from_parts (made_repository state.cut operation q) (get state.repositories q) (changed_by state.cut operation q) r
      (made_whole state.cut operation q)
      (λ x was. kept_if KeepsAllCommits (touches operation q) (change_of state.cut operation q) x
      (λ touched. change_whole state.cut operation q x nothing (whole.repositories q x was)) (whole.repositories q x was))
      (sym (get_after state seat operation q) ∙ is);
}

kind_whole : (state : State) (seat : ℕ) (kind : EntryKind) → RemovesNothing (operation_of kind) → KeepsAll state
    → KeepsAll (after_kind seat kind state)
kind_whole state seat (Accepted operation) nothing whole = operation_whole state seat operation nothing whole
kind_whole state seat (Faulted tried) nothing whole = record { gone = whole.gone; repositories = whole.repositories }

-- after a history
pub history_whole : (state : State) (history : List HistoryEntry) → RemoveNothing history → KeepsAll state
    → KeepsAll (replay state history)
history_whole state [] nothing whole = whole
history_whole state (entry ∷ history) nothing whole =
    let next : KeepsAll (after_kind entry.by.seat entry.kind state) = kind_whole state entry.by.seat entry.kind nothing.0 whole in
    history_whole (after state entry) history nothing.1 (record { gone = next.gone; repositories = next.repositories })

-- before it
pub fresh_whole : (cut : Cut) → KeepsAll (fresh cut)
fresh_whole cut = record {
  gone = refl;
  repositories = λ q r is. elim (insert_cases empty (codes "quickstart") (new_repository cut 0 (codes "main")) q r is) [
    | inl put ↦ subst KeepsAllCommits (sym put.1) (new_whole cut 0 (codes "main"))
    | inr was ↦ absurd (nothing_stands q r was)
  ];
}

-- and no retention is told there
pub no_retention : (state : State) (given : VersionsGiven) (repo : List ℕ) (r : Repository) → KeepsAll state
    → get state.repositories repo ≡ Some r → note_reply state given repo name.Retention ≡ Err NoNote
no_retention state given repo r whole is =
    let told : Note → NoteReply = λ note. record { at = state.entries; settings = settings_version given repo; note = note } in
    ap (λ o. option_map_or (λ (r : Repository). option_map_or (λ note. Ok (told note)) (note_at name.Retention r.notes) (Err NoNote)) o (Err NoRepo)) is
    ∙ ap (λ o. option_map_or (λ note. Ok (told note)) (option_map Retention o) (Err NoNote)) (whole.repositories repo r is).retention

-- ---- the steps

note_keeps : (repo : List ℕ) (which : NoteName) (note : Option Note) → IfSome note HasText → RemovesNothing (NoteSet repo which note)
note_keeps repo which None text = tt
note_keeps repo which (Some (Retention rules)) text = absurd text
note_keeps repo which (Some (Protection patterns)) text = tt
note_keeps repo which (Some (Hooks rules)) text = tt

swap_keeps : (repo branch : List ℕ) (swap : SwapKind) (about : AboutValue) → RemovesNothing (swap_operation repo branch swap about)
swap_keeps repo branch kind.Commit about = tt
swap_keeps repo branch (kind.Merge source strategy) about = tt
swap_keeps repo branch (kind.Pick base source strategy) about = tt

pub steps_keep : StepsRemoveNothing
steps_keep = record {
  of_take_ticket = λ seat repo branch l. tt;
  of_drop_ticket = λ number. tt;
  of_stage = λ repo branch path change l. tt;
  of_copy = λ repo branch path source from entry l. tt;
  of_reset = λ repo branch what l. tt;
  of_seal = λ repo branch why l. tt;
  of_create_repo = λ repo branch date l. tt;
  of_create_branch = λ repo name commit l. tt;
  of_delete_branch = λ repo name l. tt;
  of_create_tag = λ repo name commit. tt;
  of_delete_tag = λ repo name. tt;
  of_set_note = λ repo which note l text. note_keeps repo which note text;
  of_swap = swap_keeps;
}
