-- Why uploads, changes, seals and settings are allowed and refused.
use Rattle.std.proofs.Common.{◌≡◌, ℕ, true, false, List, refl, sym, ap, subst, ◌∙◌, arith}
use Rattle.std.specs.Prelude.{◌↔◌, Option, Some, None, option_map, option_and_then}
use Rattle.std.specs.Option.{unwrap_or}
use Rattle.std.specs.FinMap.{get, empty, get-insert, get-empty}
use Rattle.std.specs.Cmp.{nat_cmp_total}
use Rattle.std.specs.Ordering.{nat_cmp}
use Rattle.lake_base.specs.declared.digest.Digest.{Digest}
use Rattle.lake_values.specs.Commit.{AboutValue}
use Rattle.lake_values.specs.Entry.{EntryValue}
use Rattle.lake_values.specs.KeyMap.{KeyMapValue, value_after}
use Rattle.lake_values.specs.declared.commit.ResetWhat.TheVariants as what
use Rattle.lake_values.specs.declared.entry.Change.TheVariants.{Put, Delete}
use Rattle.lake_values.specs.declared.settings.NoteName.TheVariants as name
use Rattle.lake_format.specs.declared.cut.Cut.{Cut}
use Rattle.lake_model.specs.declared.history.By.{By}
use Rattle.lake_model.specs.declared.history.CopySource.TheVariants as source
use Rattle.lake_model.specs.declared.history.HistoryEntry.{HistoryEntry}
use Rattle.lake_model.specs.declared.history.Operation.{Operation}
use Rattle.lake_model.specs.declared.history.Operation.TheVariants.{Copy, NoteSet, Reset, Seal, Stage, TicketDrop, TicketTake}
use Rattle.lake_model.specs.declared.history.SealFor.TheVariants as seal
use Rattle.lake_model.specs.State.{Branch, Repository, State, HasBranch, head_map, now_map, sealed_map}
use Rattle.lake_model.specs.Branches.{IsUnprotected}
use Rattle.lake_model.specs.Commits.{IsCommittable}
use Rattle.lake_model.specs.NoteChanges.{IsNoteChange}
use Rattle.lake_model.specs.Uncommitted.{MaySeal, after_ticket_take, copied_map}
use Rattle.lake_model.specs.History.{Allows, IsPossible, accepted_entry, after, faulted_entry}
use Rattle.lake_model.specs.Soundness.{fresh}
use Rattle.law_examples.specs.HistoryWords.{quickstart, main, outside, own, entry_of, entry_by, ticket_entry, put_entry, delete_entry, seal_entry, commit_entry}
use Rattle.law_examples.specs.HistoryWords.{IsCommitAdmissible, a, b}
use Rattle.law_examples.specs.RefusedLakes.{fault_of, mail, one_day, stopped_lake, lake_of_entries, ticket_lake, retaining_lake, ready_lake}
use Rattle.law_examples.specs.RefusedLakes.{protected_lake}
use Rattle.law_examples.proofs.SceneLemmas.{scene, of_main, counted, get_one, main_there, on_main, the_main}
use Rattle.law_examples.proofs.EntriesLemmas.{first_repository, first_branch, may}
use Rattle.law_examples.proofs.CommitsLemmas.{may_commit, apart_at}
use Rattle.law_examples.proofs.MapsLemmas.{first_map, get_now, no_change, no_entry}
use Rattle.law_examples.proofs.StaysStagedLemmas.{a_sealed, second_state, has_a, lacks_a}
use Rattle.law_examples.proofs.LakesLemmas.{on_quickstart, the_quickstart, allows_by, refuses_by, with_notes, retaining_scene, ready_scene, guarded}
use Rattle.law_examples.proofs.LakesLemmas.{protected_scene, main_matches}

-- what a copy from `main` finds
copied : (r : Repository) (x : Branch) (path : List ℕ)
    → option_and_then (λ (map : KeyMapValue). get map path) (copied_map (of_main r x) (source.Branch main))
    ≡ value_after (get x.staged path) (value_after (get x.sealed path) (get (head_map r x) path))
copied r x path =
    ap (λ (o : Option Branch). option_and_then (λ (map : KeyMapValue). get map path) (option_map (now_map (of_main r x)) o)) (main_there x)
    ∙ get_now x.staged x.sealed (head_map r x) path

-- an operation that was tried asks what it asks where it is accepted, and nothing comes after it
pub same_condition : (state : State) (by : By) (operation : Operation) → Allows state (faulted_entry by operation) ↔ Allows state (accepted_entry by operation)
same_condition state by operation = (
  λ may. record { running = may.running; room = may.room; possible = may.possible },
  λ may. record { running = may.running; room = may.room; possible = may.possible },
)

pub nothing_after : (state : State) (by : By) (operation : Operation) (entry : HistoryEntry) → Allows (after state (faulted_entry by operation)) entry → ⊥
nothing_after state by operation entry may = let running = may.running in absurd cc

module _ (cut : Cut) where
  abbrev r0 : Repository
  r0 = first_repository cut

  abbrev b0 : Branch
  b0 = first_branch cut

  pub stopped_others : MaySeal (stopped_lake cut) quickstart main seal.Commit
  stopped_others = on_main (λ r x. IsUnprotected r main) (record (counted (fresh cut)) { stopped = true }) r0 b0 refl

  pub stopped_refused : Allows (stopped_lake cut) seal_entry → ⊥
  stopped_refused may = let running = may.running in absurd cc

  pub running_allowed : Allows (record (stopped_lake cut) { stopped = false }) seal_entry
  running_allowed = may (counted (fresh cut)) r0 b0 1 (Seal quickstart main seal.Commit) refl (omega arith)
      (on_main (λ r x. IsUnprotected r main) (counted (fresh cut)) r0 b0 refl)

  abbrev numbered : ℕ → State
  numbered entries = record (fresh cut) { entries = entries }

  pub last_allowed : Allows (lake_of_entries 4194303 cut) seal_entry
  last_allowed =
      may (numbered 4194303) r0 b0 1 (Seal quickstart main seal.Commit) refl (omega arith) (on_main (λ r x. IsUnprotected r main) (numbered 4194303) r0 b0 refl)

  pub full_refused : Allows (lake_of_entries 4194304 cut) seal_entry → ⊥
  full_refused may = let room = may.room in absurd (omega arith)

  pub take_allowed : Allows (fresh cut) (ticket_entry 0)
  take_allowed = may (fresh cut) r0 b0 1 (TicketTake quickstart main 0) refl (omega arith) (on_main (λ r x. IsUnprotected r main) (fresh cut) r0 b0 refl, refl)

  pub take_refused : Allows (fresh cut) (ticket_entry 1) → ⊥
  take_refused may = let next : 1 ≡ 0 = may.possible.1 in absurd (omega arith)

  -- where a number may be given out, the store may fail at it
  pub fault_allowed : Allows (fresh cut) (fault_of (TicketTake quickstart main 0))
  fault_allowed = (same_condition (fresh cut) (record { seat = 1; call = 0 }) (TicketTake quickstart main 0)).1 take_allowed

  pub fault_refused : Allows (fresh cut) (fault_of (TicketTake quickstart main 1)) → ⊥
  fault_refused may = take_refused ((same_condition (fresh cut) (record { seat = 1; call = 0 }) (TicketTake quickstart main 1)).0 may)

  -- tickets
  abbrev ticketed : State
  ticketed = counted (after_ticket_take 1 0 (fresh cut))

  on_ticket : get ticketed.tickets 0 ≡ Some 1
  on_ticket = get-insert nat_cmp_total empty 0 1 0

  not_on_other : get ticketed.tickets 0 ≡ Some 2 → ⊥
  not_on_other is = let n : ◌≡◌ {A = ℕ} 1 2 = ap (λ (o : Option ℕ). unwrap_or o 0) (sym on_ticket ∙ is) in absurd (omega (arith, n))

  pub second_allowed : Allows (ticket_lake cut) (ticket_entry 1)
  second_allowed = may ticketed r0 b0 1 (TicketTake quickstart main 1) refl (omega arith) (on_main (λ r x. IsUnprotected r main) ticketed r0 b0 refl, refl)

  pub first_again : Allows (ticket_lake cut) (ticket_entry 0) → ⊥
  first_again may = let next : 0 ≡ 1 = may.possible.1 in absurd (omega (arith, next))

  pub put_allowed : (digest : Digest) → Allows (ticket_lake cut) (put_entry a (own digest 0))
  put_allowed digest = may ticketed r0 b0 1 (Stage quickstart main a (Put (own digest 0))) refl (omega arith)
      (on_main (λ r x. IsUnprotected r main) ticketed r0 b0 refl, on_ticket)

  pub put_by_other : (digest : Digest) → Allows (ticket_lake cut) (entry_by 2 (Stage quickstart main a (Put (own digest 0)))) → ⊥
  put_by_other digest may = not_on_other may.possible.1

  pub put_without : (digest : Digest) → Allows (fresh cut) (put_entry a (own digest 0)) → ⊥
  put_without digest may = let has : get (fresh cut).tickets 0 ≡ Some 1 = may.possible.1 in absurd (cc (sym (get-empty {X = ℕ} nat_cmp 0) ∙ has))

  pub drop_allowed : Allows (ticket_lake cut) (entry_of (TicketDrop 0))
  drop_allowed = may ticketed r0 b0 1 (TicketDrop 0) refl (omega arith) on_ticket

  pub drop_by_other : Allows (ticket_lake cut) (entry_by 2 (TicketDrop 0)) → ⊥
  drop_by_other may = not_on_other may.possible

  no_second : get ticketed.tickets 1 ≡ None
  no_second = get-insert nat_cmp_total empty 0 1 1 ∙ get-empty {X = ℕ} nat_cmp 1

  pub drop_without : Allows (ticket_lake cut) (entry_of (TicketDrop 1)) → ⊥
  drop_without may = let has : get ticketed.tickets 1 ≡ Some 1 = may.possible in absurd (cc (sym no_second ∙ has))

  -- copies
  abbrev Copied : List ℕ → EntryValue → Repository → Branch → Type 0
  Copied path entry r x = IsUnprotected r main × (option_and_then (λ (map : KeyMapValue). get map path) (copied_map r (source.Branch main)) ≡ Some entry)

  at_a : option_and_then (λ (map : KeyMapValue). get map a) (copied_map (of_main r0 (a_sealed cut)) (source.Branch main)) ≡ Some outside
  at_a = copied r0 (a_sealed cut) a ∙ simp (no_change, get_one a (Put outside) a)

  at_b : option_and_then (λ (map : KeyMapValue). get map b) (copied_map (of_main r0 (a_sealed cut)) (source.Branch main)) ≡ None
  at_b = copied r0 (a_sealed cut) b ∙ simp (no_change, get_one a (Put outside) b, first_map cut, no_entry)

  pub copy_allowed : Allows (ready_lake cut) (entry_of (Copy quickstart main b (source.Branch main) a outside))
  copy_allowed = allows_by (entry_of (Copy quickstart main b (source.Branch main) a outside)) (ready_scene cut)
      (may (second_state cut) r0 (a_sealed cut) 1 (Copy quickstart main b (source.Branch main) a outside) refl (omega arith)
      (on_main (Copied a outside) (second_state cut) r0 (a_sealed cut) (refl, at_a)))

  pub copy_of_nothing : Allows (ready_lake cut) (entry_of (Copy quickstart main a (source.Branch main) b outside)) → ⊥
  copy_of_nothing = refuses_by (entry_of (Copy quickstart main a (source.Branch main) b outside)) (ready_scene cut) (λ may.
      let has = (the_main (Copied b outside) (second_state cut) r0 (a_sealed cut) may.possible).1 in absurd (cc (sym at_b ∙ has)))

  pub copy_of_another : (digest : Digest) → Allows (ready_lake cut) (entry_of (Copy quickstart main b (source.Branch main) a (own digest 0))) → ⊥
  copy_of_another digest = refuses_by (entry_of (Copy quickstart main b (source.Branch main) a (own digest 0))) (ready_scene cut) (λ may.
      let has = (the_main (Copied a (own digest 0)) (second_state cut) r0 (a_sealed cut) may.possible).1 in
      let same : outside ≡ own digest 0 = cc (sym at_a ∙ has) in
      let places = ap (λ (x : EntryValue). x.place) same in absurd cc)

  from_mail : option_and_then (λ (map : KeyMapValue). get map a) (copied_map (of_main r0 (a_sealed cut)) (source.Branch mail)) ≡ None
  from_mail = ap (λ (o : Option Branch). option_and_then (λ (map : KeyMapValue). get map a) (option_map (now_map (of_main r0 (a_sealed cut))) o))
      (get_one main (a_sealed cut) mail)

  abbrev OfMail : Repository → Branch → Type 0
  OfMail r x = IsUnprotected r main × (option_and_then (λ (map : KeyMapValue). get map a) (copied_map r (source.Branch mail)) ≡ Some outside)

  pub copy_from_none : Allows (ready_lake cut) (entry_of (Copy quickstart main b (source.Branch mail) a outside)) → ⊥
  copy_from_none = refuses_by (entry_of (Copy quickstart main b (source.Branch mail) a outside)) (ready_scene cut) (λ may.
      let has = (the_main OfMail (second_state cut) r0 (a_sealed cut) may.possible).1 in absurd (cc (sym from_mail ∙ has)))

  -- settings
  pub deletion_allowed : Allows (retaining_lake cut) (entry_of (NoteSet quickstart name.Retention None))
  deletion_allowed = allows_by (entry_of (NoteSet quickstart name.Retention None)) (retaining_scene cut)
      (may (counted (fresh cut)) (with_notes one_day name.Retention r0) b0 1 (NoteSet quickstart name.Retention None) refl (omega arith)
      (on_quickstart (IsNoteChange name.Retention None) (counted (fresh cut)) (of_main (with_notes one_day name.Retention r0) b0) refl))

  pub deletion_refused : Allows (fresh cut) (entry_of (NoteSet quickstart name.Retention None)) → ⊥
  deletion_refused may = let there = the_quickstart (IsNoteChange name.Retention None) (fresh cut) r0 may.possible in absurd cc

  pub setting_allowed : Allows (fresh cut) (entry_of (NoteSet quickstart name.Retention (Some one_day)))
  setting_allowed = may (fresh cut) r0 b0 1 (NoteSet quickstart name.Retention (Some one_day)) refl (omega arith)
      (on_quickstart (IsNoteChange name.Retention (Some one_day)) (fresh cut) r0 refl)

  pub setting_refused : Allows (fresh cut) (entry_of (NoteSet quickstart name.Hooks (Some one_day))) → ⊥
  setting_refused may = let named = the_quickstart (IsNoteChange name.Hooks (Some one_day)) (fresh cut) r0 may.possible in absurd cc

  -- what is possible in the ready lake, and isn't where it is protected
  ready : (operation : Operation) → IsPossible (scene (second_state cut) r0 (a_sealed cut)) 1 operation → Allows (ready_lake cut) (entry_of operation)
  ready operation possible = allows_by (entry_of operation) (ready_scene cut) (may (second_state cut) r0 (a_sealed cut) 1 operation refl (omega arith) possible)

  ready_free : HasBranch (scene (second_state cut) r0 (a_sealed cut)) quickstart main (λ r x. IsUnprotected r main)
  ready_free = on_main (λ r x. IsUnprotected r main) (second_state cut) r0 (a_sealed cut) refl

  not_free : IsUnprotected (of_main (guarded cut) (a_sealed cut)) main → ⊥
  not_free is = absurd (cc (sym main_matches ∙ is))

  barred : (P : Repository → Branch → Type 0) → ((r : Repository) (x : Branch) → P r x → IsUnprotected r main)
      → HasBranch (scene (counted (second_state cut)) (guarded cut) (a_sealed cut)) quickstart main P → ⊥
  barred P free has = not_free (free _ _ (the_main P (counted (second_state cut)) (guarded cut) (a_sealed cut) has))

  pub ready_take : Allows (ready_lake cut) (ticket_entry 0)
  ready_take = ready (TicketTake quickstart main 0) (ready_free, refl)

  pub barred_take : Allows (protected_lake cut) (ticket_entry 0) → ⊥
  barred_take = refuses_by (ticket_entry 0) (protected_scene cut) (λ may. barred (λ r x. IsUnprotected r main) (λ r x is. is) may.possible.0)

  pub ready_put : Allows (ready_lake cut) (put_entry b outside)
  ready_put = ready (Stage quickstart main b (Put outside)) (ready_free, tt)

  pub barred_put : Allows (protected_lake cut) (put_entry b outside) → ⊥
  barred_put = refuses_by (put_entry b outside) (protected_scene cut) (λ may. barred (λ r x. IsUnprotected r main) (λ r x is. is) may.possible.0)

  pub ready_deletion : Allows (ready_lake cut) (delete_entry a)
  ready_deletion = ready (Stage quickstart main a Delete) (ready_free, tt)

  pub barred_deletion : Allows (protected_lake cut) (delete_entry a) → ⊥
  barred_deletion = refuses_by (delete_entry a) (protected_scene cut) (λ may. barred (λ r x. IsUnprotected r main) (λ r x is. is) may.possible.0)

  pub barred_copy : Allows (protected_lake cut) (entry_of (Copy quickstart main b (source.Branch main) a outside)) → ⊥
  barred_copy = refuses_by (entry_of (Copy quickstart main b (source.Branch main) a outside)) (protected_scene cut)
      (λ may. barred (Copied a outside) (λ r x is. is.0) may.possible)

  pub ready_reset : Allows (ready_lake cut) (entry_of (Reset quickstart main what.All))
  ready_reset = ready (Reset quickstart main what.All) ready_free

  pub barred_reset : Allows (protected_lake cut) (entry_of (Reset quickstart main what.All)) → ⊥
  barred_reset =
      refuses_by (entry_of (Reset quickstart main what.All)) (protected_scene cut) (λ may. barred (λ r x. IsUnprotected r main) (λ r x is. is) may.possible)

  pub ready_seal : Allows (ready_lake cut) seal_entry
  ready_seal = ready (Seal quickstart main seal.Commit) ready_free

  pub barred_seal : Allows (protected_lake cut) seal_entry → ⊥
  barred_seal = refuses_by seal_entry (protected_scene cut) (λ may. barred (λ r x. IsUnprotected r main) (λ r x is. is) may.possible)

  pub ready_commit : (about : AboutValue) → IsCommitAdmissible (ready_lake cut) about → Allows (ready_lake cut) (commit_entry about)
  ready_commit about admissible = allows_by (commit_entry about) (ready_scene cut)
      (may_commit (second_state cut) r0 (a_sealed cut) about refl (omega arith) refl refl
      (apart_at (sealed_map r0 (a_sealed cut)) (head_map r0 (a_sealed cut)) a outside (has_a cut) (lacks_a cut))
      (subst (λ (x : State). IsCommitAdmissible x about) (ready_scene cut) admissible))

  pub barred_commit : (about : AboutValue) → Allows (protected_lake cut) (commit_entry about) → ⊥
  barred_commit about = refuses_by (commit_entry about) (protected_scene cut) (λ may.
      barred (IsCommittable (scene (counted (second_state cut)) (guarded cut) (a_sealed cut)) main about) (λ r x is. is.unprotected) may.possible)

  pub other_seal : Allows (protected_lake cut) (entry_of (Seal quickstart main seal.Other))
  other_seal = allows_by (entry_of (Seal quickstart main seal.Other)) (protected_scene cut)
      (may (counted (second_state cut)) (guarded cut) (a_sealed cut) 1 (Seal quickstart main seal.Other) refl (omega arith)
      (on_main (λ r x. Unit {0}) (counted (second_state cut)) (guarded cut) (a_sealed cut) tt))
