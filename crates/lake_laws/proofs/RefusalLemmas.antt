-- An entry that may come next has no cause against it.
use Rattle.std.proofs.Common.{◌≡◌, ℕ, true, false, List, refl, ap, ◌∙◌}
use Rattle.std.proofs.lemmas.Bool.{eq-eqb, false_from_ne_true, not_from_true}
use Rattle.std.proofs.lemmas.Slice.Eq.{bytes_eq-Decides}
use Rattle.std.specs.Prelude.{◌&&◌, Option, Some, None, IsSome, is_none, is_some, option_and_then, Ok}
use Rattle.std.specs.Result.{result_err}
use Rattle.std.specs.Str.{bytes_eq}
use Rattle.std.specs.FinMap.{get, contains_key}
use Rattle.lake_base.specs.declared.digest.Digest.{Digest}
use Rattle.lake_values.specs.declared.settings.Note.{Note}
use Rattle.lake_values.specs.declared.settings.NoteName.{NoteName}
use Rattle.commit_graph.specs.Expressions.{RefExprValue}
use Rattle.lake_model.specs.declared.fault.StepFault.TheVariants.{DefaultBranch, Exists, Expired, NoNote, NoRef}
use Rattle.lake_model.specs.declared.fault.Reference.TheVariants.{Named, Expression}
use Rattle.lake_model.specs.declared.history.HistoryEntry.{HistoryEntry}
use Rattle.lake_model.specs.declared.history.SealFor.{SealFor}
use Rattle.lake_model.specs.declared.history.SealFor.TheVariants as seal
use Rattle.lake_model.specs.State.{Repository, State, HasBranch, HasRepository, is_expired}
use Rattle.lake_model.specs.Branches.{IsUnprotected, MayBegin, MayEnd, MayName}
use Rattle.lake_model.specs.History.{Allows}
use Rattle.lake_model.specs.NoteChanges.{IsNoteChange, note_at}
use Rattle.lake_model.specs.Refusals.{cause_if, first_cause}
use Rattle.lake_model.specs.Resolving.{expression_target, moved_target, name_target}
use Rattle.lake_model.specs.Steps.{create_branch_causes, create_tag_causes, delete_branch_causes, delete_tag_causes, expired_fault, holds_in, in_it}
use Rattle.lake_model.specs.Steps.{is_expected, move_fault, seal_causes, set_note_causes, stage_causes, target_in, write_causes}
use Rattle.lake_model.specs.Uncommitted.{IsSealable}
use Rattle.lake_model.specs.Versions.{VersionsGiven, branch_version}
use Rattle.lake_laws.proofs.CauseLemmas.{cause_fails, cause_not, none_holds, not_full, not_stopped}
use Rattle.lake_laws.proofs.PlaceLemmas.{answered, asked, branch_none, repository_none, test_answered, unprotected_is}
use Rattle.lake_laws.proofs.TargetLemmas.{taken}

-- an expression that leads to a commit has a name that does
name_leads : (r : Repository) (e : RefExprValue) (id : Digest) (o : Option Digest) → moved_target r e o ≡ Ok id → is_none o ≡ false
name_leads r e id None is = absurd cc
name_leads r e id (Some at) is = refl

module _ (state : State) (repo : List ℕ) (r : Repository) (is : get state.repositories repo ≡ Some r) (e : RefExprValue) (id : Digest)
    (leads : target_in r e ≡ Some id) where
  -- so the name is no cause
  pub reference_none : cause_if (holds_in state repo (λ x. is_none (name_target x e.name))) (NoRef Expression) ≡ None
  reference_none =
      cause_fails _ (NoRef Expression) (test_answered state repo (λ x. is_none (name_target x e.name)) r false is
      (name_leads r e id (name_target r e.name) (taken (expression_target r e) id leads)))

  -- nor are the moves
  pub parent_none : in_it state repo (λ x. move_fault (result_err (expression_target x e))) ≡ None
  parent_none =
      answered state repo (λ x. move_fault (result_err (expression_target x e))) r None is
      (ap (λ answer. move_fault (result_err answer)) (taken (expression_target r e) id leads))

  -- nor is the expiry of the commit, if it isn't expired
  pub expired_none : is_expired r id ≡ false → in_it state repo (λ x. option_and_then (expired_fault x) (target_in x e)) ≡ None
  expired_none live =
      answered state repo (λ x. option_and_then (expired_fault x) (target_in x e)) r None is
      (ap (option_and_then (expired_fault r)) leads ∙ cause_fails (is_expired r id) (Expired id) live)

module _ (state : State) (entry : HistoryEntry) (may : Allows state entry) (repo : List ℕ) where
  -- ---- branches

  pub write_none : (branch : List ℕ) → HasBranch state repo branch (λ r b. IsUnprotected r branch)
      → first_cause (write_causes state repo branch) ≡ None
  write_none branch at =
      none_holds (write_causes state repo branch) (not_stopped state entry may) (not_full state entry may)
      (repository_none state repo at.0 at.1) (branch_none state repo branch at.0 at.2.0 at.1 at.2.1) refl refl refl refl
      (unprotected_is state repo branch at.0 at.1 at.2.2) refl refl refl refl

  pub stage_none : (given : VersionsGiven) (branch : List ℕ) → HasBranch state repo branch (λ r b. IsUnprotected r branch)
      → first_cause (stage_causes state given repo branch (branch_version given repo branch)) ≡ None
  stage_none given branch at =
      none_holds (stage_causes state given repo branch (branch_version given repo branch)) (not_stopped state entry may) (not_full state entry may)
      (repository_none state repo at.0 at.1) (branch_none state repo branch at.0 at.2.0 at.1 at.2.1) refl refl refl refl
      (unprotected_is state repo branch at.0 at.1 at.2.2)
      (cause_not _ _ (eq-eqb (branch_version given repo branch) (branch_version given repo branch) refl)) refl refl refl

  pub seal_none : (branch : List ℕ) (why : SealFor) → HasBranch state repo branch (λ r b. IsSealable why r branch)
      → first_cause (seal_causes why state repo branch) ≡ None
  seal_none branch seal.Commit at = write_none branch at
  seal_none branch seal.Other at =
      none_holds (seal_causes seal.Other state repo branch) (not_stopped state entry may) (not_full state entry may)
      (repository_none state repo at.0 at.1) (branch_none state repo branch at.0 at.2.0 at.1 at.2.1) refl refl refl refl refl refl refl refl refl

  -- ---- names

  pub create_branch_none : (name : List ℕ) (e : RefExprValue) (id : Digest) → HasRepository state repo (MayBegin name id)
      → in_it state repo (λ r. target_in r e) ≡ Some id → first_cause (create_branch_causes state repo name e) ≡ None
  create_branch_none name e id at target =
      let leads = asked state repo (λ x. target_in x e) at.0 (Some id) at.1 target in
      none_holds (create_branch_causes state repo name e) (not_stopped state entry may) (not_full state entry may)
      (repository_none state repo at.0 at.1) (reference_none state repo at.0 at.1 e id leads) (parent_none state repo at.0 at.1 e id leads) refl
      (cause_fails _ Exists (ap is_some (answered state repo (λ x. get x.branches name) at.0 None at.1 at.2.fresh))) refl
      refl refl refl (expired_none state repo at.0 at.1 e id leads at.2.live.1) refl

  pub delete_branch_none : (name : List ℕ) → HasBranch state repo name (λ r b. MayEnd name r)
      → first_cause (delete_branch_causes state repo name) ≡ None
  delete_branch_none name at =
      let differ = false_from_ne_true (bytes_eq at.0.default_branch name)
      (λ same. at.2.2.other ((bytes_eq-Decides at.0.default_branch name).0 same)) in
      none_holds (delete_branch_causes state repo name) (not_stopped state entry may) (not_full state entry may)
      (repository_none state repo at.0 at.1) (branch_none state repo name at.0 at.2.0 at.1 at.2.1) refl refl refl
      (cause_fails _ DefaultBranch (test_answered state repo (λ x. bytes_eq x.default_branch name) at.0 false at.1 differ))
      (unprotected_is state repo name at.0 at.1 at.2.2.unprotected) refl refl refl refl

  pub create_tag_none : (name : List ℕ) (e : RefExprValue) (id : Digest) → HasRepository state repo (MayName name id)
      → in_it state repo (λ r. target_in r e) ≡ Some id → first_cause (create_tag_causes state repo name e) ≡ None
  create_tag_none name e id at target =
      let leads = asked state repo (λ x. target_in x e) at.0 (Some id) at.1 target in
      none_holds (create_tag_causes state repo name e) (not_stopped state entry may) (not_full state entry may)
      (repository_none state repo at.0 at.1) (reference_none state repo at.0 at.1 e id leads) (parent_none state repo at.0 at.1 e id leads) refl
      (cause_fails _ Exists (test_answered state repo (λ x. contains_key x.tags name) at.0 false at.1 (ap is_some at.2.fresh))) refl
      refl refl refl (expired_none state repo at.0 at.1 e id leads at.2.live.1) refl

  pub delete_tag_none : (name : List ℕ) → HasRepository state repo (λ r. IsSome (get r.tags name))
      → first_cause (delete_tag_causes state repo name) ≡ None
  delete_tag_none name at =
      none_holds (delete_tag_causes state repo name) (not_stopped state entry may) (not_full state entry may)
      (repository_none state repo at.0 at.1)
      (cause_not _ (NoRef Named) (test_answered state repo (λ x. contains_key x.tags name) at.0 true at.1 at.2)) refl refl refl refl refl refl refl refl refl

  -- ---- settings

  note_none : (name : NoteName) (note : Option Note) → HasRepository state repo (IsNoteChange name note)
      → (is_none note && is_none (in_it state repo (λ x. note_at name x.notes))) ≡ false
  note_none name None at =
      not_from_true (is_some (in_it state repo (λ x. note_at name x.notes)))
      (ap is_some (answered state repo (λ x. note_at name x.notes) at.0 (note_at name at.0.notes) at.1 refl) ∙ at.2)
  note_none name (Some note) at = refl

  pub set_note_none : (given : VersionsGiven) (expected : Option ℕ) (name : NoteName) (note : Option Note)
      → HasRepository state repo (IsNoteChange name note) → is_expected given repo expected ≡ true
      → first_cause (set_note_causes state given repo expected name note) ≡ None
  set_note_none given expected name note at current =
      none_holds (set_note_causes state given repo expected name note) (not_stopped state entry may) (not_full state entry may)
      (repository_none state repo at.0 at.1) refl refl (cause_fails _ NoNote (note_none name note at)) refl refl refl
      (cause_not _ _ current) refl refl refl
