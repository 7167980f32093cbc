-- The causes of a step are refusals.
use Rattle.std.proofs.Common.{◌≡◌, ℕ, Bool, true, false, not, nat_lt, List, [], ◌∷◌, subst}
use Rattle.std.specs.Prelude.{Option, Some, None, IfSome, option_and_then, option_map, is_none, is_some, if◌then◌else◌, ◌&&◌, ◌==◌}
use Rattle.std.specs.FinMap.{contains_key, get}
use Rattle.std.specs.Option.{option_or}
use Rattle.std.specs.Result.{result_err}
use Rattle.std.specs.Str.{bytes_eq}
use Rattle.lake_base.specs.declared.digest.Digest.{Digest}
use Rattle.lake_values.specs.declared.settings.Note.{Note}
use Rattle.lake_values.specs.declared.settings.NoteName.{NoteName}
use Rattle.lake_format.specs.Spelling.{commit_id}
use Rattle.commit_graph.specs.Expressions.{RefExprValue}
use Rattle.lake_model.specs.declared.fault.StepFault.{StepFault}
use Rattle.lake_model.specs.declared.fault.StepFault.TheVariants.{Stopped, HistoryFull, NoRepo, NoRef, NoParent, NoNote, Exists, DefaultBranch, Protected}
use Rattle.lake_model.specs.declared.fault.StepFault.TheVariants.{Changed, NoPath, Expired, NameClash, StoreFault, NoMemory}
use Rattle.lake_model.specs.declared.fault.Reference.TheVariants.{Named, Expression}
use Rattle.lake_model.specs.declared.history.SealFor.{SealFor}
use Rattle.lake_model.specs.declared.history.SealFor.TheVariants as seal
use Rattle.lake_model.specs.State.{Repository, State, branch_of, is_expired}
use Rattle.lake_model.specs.Branches.{protected_by}
use Rattle.lake_model.specs.NoteChanges.{note_at}
use Rattle.lake_model.specs.Resolving.{expression_target, is_plain_branch, name_target}
use Rattle.lake_model.specs.Refusals.{Causes, Clash, IsRefusal, first_of, first_cause, cause_if, causes_of_change, clash_fault, protection_of, with_branch}
use Rattle.lake_model.specs.Refusals.{with_current_version}
use Rattle.lake_model.specs.Steps.{SwapRule, copied_entry, copy_causes, create_branch_causes, create_repository_causes, create_tag_causes, delete_branch_causes}
use Rattle.lake_model.specs.Steps.{delete_tag_causes, expire_causes, expired_fault, holds_in, in_it, is_current, is_expected, move_fault, new_commit}
use Rattle.lake_model.specs.Steps.{seal_causes, set_note_causes, source_fault, stage_causes, swap_causes, swap_expired, target_in, write_causes}
use Rattle.lake_model.specs.Versions.{VersionsGiven, branch_version, settings_version}

-- a cause, where it holds, is a refusal
abbrev IsTold : Option StepFault → Type 0
IsTold cause = IfSome cause IsRefusal

-- each cause of a list is
abbrev AreTold : List (Option StepFault) → Type 0
AreTold [] = Unit {0}
AreTold (cause ∷ later) = IsTold cause × AreTold later

-- ---- one cause

if_told : (holds : Bool) (fault : StepFault) → IsRefusal fault → IsTold (cause_if holds fault)
if_told true fault is = is
if_told false fault is = tt

or_told : (a b : Option StepFault) → IsTold a → IsTold b → IsTold (option_or a b)
or_told (Some fault) b is other = is
or_told None b is other = other

then_told : {X : Type 0} (f : X → Option StepFault) (o : Option X) → ((x : X) → IsTold (f x)) → IsTold (option_and_then f o)
then_told f (Some x) each = each x
then_told f None each = tt

protection_told : (pattern : Option ℕ) → IsTold (option_map Protected pattern)
protection_told (Some number) = tt
protection_told None = tt

clash_told : (clash : Option Clash) → IsTold (clash_fault clash)
clash_told (Some clash) = tt
clash_told None = tt

move_told : (fault : Option StepFault) → IsTold (move_fault fault)
move_told None = tt
move_told (Some Stopped) = tt
move_told (Some HistoryFull) = tt
move_told (Some NoRepo) = tt
move_told (Some (NoRef which)) = tt
move_told (Some (NoParent number)) = tt
move_told (Some NoNote) = tt
move_told (Some Exists) = tt
move_told (Some DefaultBranch) = tt
move_told (Some (Protected pattern)) = tt
move_told (Some (Changed version settings)) = tt
move_told (Some NoPath) = tt
move_told (Some (Expired id)) = tt
move_told (Some (NameClash name kept new)) = tt
move_told (Some StoreFault) = tt
move_told (Some NoMemory) = tt

expired_told : (r : Repository) (id : Digest) → IsTold (expired_fault r id)
expired_told r id = if_told (is_expired r id) (Expired id) tt

either_told : (plain : Bool) (o : Option StepFault) → IsTold o → IsTold (if plain then None else o)
either_told true o is = tt
either_told false o is = is

-- ---- the first of them

first_told : (causes : List (Option StepFault)) → AreTold causes → IsTold (first_of causes)
first_told [] are = tt
first_told (None ∷ later) are = first_told later are.1
first_told (Some fault ∷ later) are = are.0

-- the causes of a step in their order
abbrev list_of : Causes → List (Option StepFault)
list_of c =
    c.stopped ∷ c.full ∷ c.repository ∷ c.reference ∷ c.parent ∷ c.note ∷ c.exists ∷ c.default_branch ∷ c.protected
    ∷ c.version ∷ c.path ∷ c.expired ∷ c.clash ∷ []

refusal : (c : Causes) → AreTold (list_of c) → (fault : StepFault) → first_cause c ≡ Some fault → IsRefusal fault
refusal c are fault is = subst IsTold is (first_told (list_of c) are)

-- ---- each step

module _ (state : State) where
  stopped : IsTold (causes_of_change state).stopped
  stopped = if_told state.stopped Stopped tt

  full : IsTold (causes_of_change state).full
  full = if_told (not (nat_lt state.entries 4194304)) HistoryFull tt

  pub change_refused : (fault : StepFault) → first_cause (causes_of_change state) ≡ Some fault → IsRefusal fault
  change_refused = refusal (causes_of_change state)
      (stopped, (full, (tt, (tt, (tt, (tt, (tt, (tt, (tt, (tt, (tt, (tt, (tt, tt)))))))))))))

  pub expire_refused : (given : VersionsGiven) (version : ℕ) (fault : StepFault)
      → first_cause (expire_causes state given version) ≡ Some fault → IsRefusal fault
  expire_refused given version =
      let old = if_told (not (version == given.references)) (Changed given.references 0) tt in
      refusal (expire_causes state given version)
      (stopped, (full, (tt, (tt, (tt, (tt, (tt, (tt, (tt, (old, (tt, (tt, (tt, tt)))))))))))))

  module _ (repo : List ℕ) where
    there : IsTold (cause_if (not (contains_key state.repositories repo)) NoRepo)
    there = if_told (not (contains_key state.repositories repo)) NoRepo tt

    in_there : (f : Repository → Option StepFault) → ((r : Repository) → IsTold (f r)) → IsTold (in_it state repo f)
    in_there f each = then_told f (get state.repositories repo) each

    tests : (test : Repository → Bool) (fault : StepFault) → IsRefusal fault → IsTold (cause_if (holds_in state repo test) fault)
    tests test fault is = if_told (holds_in state repo test) fault is

    found : (name : List ℕ) → IsTold (cause_if (not (is_some (branch_of state repo name))) (NoRef Named))
    found name = if_told (not (is_some (branch_of state repo name))) (NoRef Named) tt

    guarded : (name : List ℕ) → IsTold (protection_of state repo name)
    guarded name = in_there (λ r. option_map Protected (protected_by r.notes.protection name)) (λ r. protection_told (protected_by r.notes.protection name))

    named : (e : RefExprValue) → IsTold (cause_if (holds_in state repo (λ r. is_none (name_target r e.name))) (NoRef Expression))
    named e = tests (λ r. is_none (name_target r e.name)) (NoRef Expression) tt

    moved : (e : RefExprValue) → IsTold (in_it state repo (λ r. move_fault (result_err (expression_target r e))))
    moved e = in_there (λ r. move_fault (result_err (expression_target r e))) (λ r. move_told (result_err (expression_target r e)))

    live_at : (r : Repository) (e : RefExprValue) → IsTold (option_and_then (expired_fault r) (target_in r e))
    live_at r e = then_told (expired_fault r) (target_in r e) (expired_told r)

    live : (e : RefExprValue) → IsTold (in_it state repo (λ r. option_and_then (expired_fault r) (target_in r e)))
    live e = in_there (λ r. option_and_then (expired_fault r) (target_in r e)) (λ r. live_at r e)

    pub write_refused : (branch : List ℕ) (fault : StepFault) → first_cause (write_causes state repo branch) ≡ Some fault → IsRefusal fault
    write_refused branch = refusal (write_causes state repo branch)
        (stopped, (full, (there, (found branch, (tt, (tt, (tt, (tt, (guarded branch, (tt, (tt, (tt, (tt, tt)))))))))))))

    pub seal_refused : (why : SealFor) (branch : List ℕ) (fault : StepFault) → first_cause (seal_causes why state repo branch) ≡ Some fault → IsRefusal fault
    seal_refused seal.Commit branch = write_refused branch
    seal_refused seal.Other branch = refusal (seal_causes seal.Other state repo branch)
        (stopped, (full, (there, (found branch, (tt, (tt, (tt, (tt, (tt, (tt, (tt, (tt, (tt, tt)))))))))))))

    module _ (given : VersionsGiven) (branch : List ℕ) (version : ℕ) where
      changed : IsTold (stage_causes state given repo branch version).version
      changed =
          if_told (not (version == branch_version given repo branch))
          (Changed (branch_version given repo branch) (settings_version given repo)) tt

      pub stage_refused : (fault : StepFault) → first_cause (stage_causes state given repo branch version) ≡ Some fault → IsRefusal fault
      stage_refused = refusal (stage_causes state given repo branch version)
          (stopped, (full, (there, (found branch, (tt, (tt, (tt, (tt, (guarded branch, (changed, (tt, (tt, (tt, tt)))))))))))))

      source_told : (e : RefExprValue) (r : Repository) → IsTold (source_fault r e)
      source_told e r = either_told (is_plain_branch r e) (option_and_then (expired_fault r) (target_in r e)) (live_at r e)

      pub copy_refused : (e : RefExprValue) (from : List ℕ) (fault : StepFault)
          → first_cause (copy_causes state given repo branch version e from) ≡ Some fault → IsRefusal fault
      copy_refused e from = refusal (copy_causes state given repo branch version e from) (
        stopped,
        (
          full,
          (
            there,
            (
              or_told (cause_if (not (is_some (branch_of state repo branch))) (NoRef Named))
                  (cause_if (holds_in state repo (λ r. is_none (name_target r e.name))) (NoRef Expression)) (found branch) (named e),
              (
                moved e,
                (
                  tt,
                  (
                    tt,
                    (
                      tt,
                      (
                        guarded branch,
                        (
                          changed,
                          (
                            if_told (is_none (copied_entry state repo e from)) NoPath tt,
                            (in_there (λ r. source_fault r e) (source_told e), (tt, tt)),
                          ),
                        ),
                      ),
                    ),
                  ),
                ),
              ),
            ),
          ),
        ),
      )

    -- a new head that is guarded by versions, where protection counts or not
    module _ (given : VersionsGiven) (branch : List ℕ) (version settings : ℕ) where
      old : IsTold (cause_if (not (is_current given repo branch version settings)) (Changed (branch_version given repo branch) (settings_version given repo)))
      old =
          if_told (not (is_current given repo branch version settings))
          (Changed (branch_version given repo branch) (settings_version given repo)) tt

      abbrev guard : Bool → Option StepFault → Option StepFault → Causes
      guard protects expired clash = record
          (with_current_version (is_current given repo branch version settings) (branch_version given repo branch) (settings_version given repo)
          (if protects then write_causes state repo branch else with_branch state repo branch (causes_of_change state))) {
            expired = expired;
            clash = clash;
          }

      guard_told : (protects : Bool) (expired clash : Option StepFault) → IsTold expired → IsTold clash → AreTold (list_of (guard protects expired clash))
      guard_told true expired clash is other =
          (stopped, (full, (there, (found branch, (tt, (tt, (tt, (tt, (guarded branch, (old, (tt, (is, (other, tt)))))))))))))
      guard_told false expired clash is other =
          (stopped, (full, (there, (found branch, (tt, (tt, (tt, (tt, (tt, (old, (tt, (is, (other, tt)))))))))))))

      head_told : (rule : SwapRule) → IsTold (swap_expired state repo branch rule)
      head_told rule = in_there
          (λ r. option_or (option_and_then (expired_fault r) rule.source)
          (option_and_then (λ commit. expired_fault r (commit_id commit)) (new_commit state repo branch rule)))
          (λ r. or_told (option_and_then (expired_fault r) rule.source)
          (option_and_then (λ commit. expired_fault r (commit_id commit)) (new_commit state repo branch rule))
          (then_told (expired_fault r) rule.source (expired_told r))
          (then_told (λ commit. expired_fault r (commit_id commit)) (new_commit state repo branch rule) (λ commit. expired_told r (commit_id commit))))

      pub swap_refused : (rule : SwapRule) (clash : Option Clash) (fault : StepFault)
          → first_cause (swap_causes state given repo branch version settings rule clash) ≡ Some fault → IsRefusal fault
      swap_refused rule clash =
          refusal (guard rule.protects (swap_expired state repo branch rule) (clash_fault clash))
          (guard_told rule.protects (swap_expired state repo branch rule) (clash_fault clash) (head_told rule) (clash_told clash))

    pub create_branch_refused : (name : List ℕ) (e : RefExprValue) (fault : StepFault)
        → first_cause (create_branch_causes state repo name e) ≡ Some fault → IsRefusal fault
    create_branch_refused name e = refusal (create_branch_causes state repo name e) (
      stopped,
      (
        full,
        (
          there,
          (
            named e,
            (
              moved e,
              (
                tt,
                (
                  if_told (is_some (branch_of state repo name)) Exists tt,
                  (tt, (tt, (tt, (tt, (live e, (tt, tt)))))),
                ),
              ),
            ),
          ),
        ),
      ),
    )

    pub create_tag_refused : (name : List ℕ) (e : RefExprValue) (fault : StepFault)
        → first_cause (create_tag_causes state repo name e) ≡ Some fault → IsRefusal fault
    create_tag_refused name e = refusal (create_tag_causes state repo name e) (
      stopped,
      (
        full,
        (
          there,
          (
            named e,
            (
              moved e,
              (
                tt,
                (
                  tests (λ r. contains_key r.tags name) Exists tt,
                  (tt, (tt, (tt, (tt, (live e, (tt, tt)))))),
                ),
              ),
            ),
          ),
        ),
      ),
    )

    pub delete_branch_refused : (name : List ℕ) (fault : StepFault)
        → first_cause (delete_branch_causes state repo name) ≡ Some fault → IsRefusal fault
    delete_branch_refused name = refusal (delete_branch_causes state repo name) (
      stopped,
      (
        full,
        (
          there,
          (
            found name,
            (
              tt,
              (
                tt,
                (
                  tt,
                  (
                    tests (λ r. bytes_eq r.default_branch name) DefaultBranch tt,
                    (guarded name, (tt, (tt, (tt, (tt, tt))))),
                  ),
                ),
              ),
            ),
          ),
        ),
      ),
    )

    pub delete_tag_refused : (name : List ℕ) (fault : StepFault)
        → first_cause (delete_tag_causes state repo name) ≡ Some fault → IsRefusal fault
    delete_tag_refused name = refusal (delete_tag_causes state repo name) (
      stopped,
      (
        full,
        (
          there,
          (
            if_told (not (holds_in state repo (λ r. contains_key r.tags name))) (NoRef Named) tt,
            (tt, (tt, (tt, (tt, (tt, (tt, (tt, (tt, (tt, tt))))))))),
          ),
        ),
      ),
    )

    pub set_note_refused : (given : VersionsGiven) (expected : Option ℕ) (name : NoteName) (note : Option Note) (fault : StepFault)
        → first_cause (set_note_causes state given repo expected name note) ≡ Some fault → IsRefusal fault
    set_note_refused given expected name note = refusal (set_note_causes state given repo expected name note) (
      stopped,
      (
        full,
        (
          there,
          (
            tt,
            (
              tt,
              (
                if_told (is_none note && is_none (in_it state repo (λ r. note_at name r.notes))) NoNote tt,
                (
                  tt,
                  (
                    tt,
                    (
                      tt,
                      (if_told (not (is_expected given repo expected)) (Changed 0 (settings_version given repo)) tt, (tt, (tt, (tt, tt)))),
                    ),
                  ),
                ),
              ),
            ),
          ),
        ),
      ),
    )

    pub create_repository_refused : (clash : Option Clash) (fault : StepFault)
        → first_cause (create_repository_causes state repo clash) ≡ Some fault → IsRefusal fault
    create_repository_refused clash = refusal (create_repository_causes state repo clash) (
      stopped,
      (
        full,
        (
          tt,
          (
            tt,
            (
              tt,
              (
                tt,
                (
                  if_told (contains_key state.repositories repo) Exists tt,
                  (tt, (tt, (tt, (tt, (tt, (clash_told clash, tt)))))),
                ),
              ),
            ),
          ),
        ),
      ),
    )
