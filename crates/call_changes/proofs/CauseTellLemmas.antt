-- The causes of the changes of one step are told as refusals.
use Rattle.std.proofs.Common.{◌≡◌, ◌&&◌, ℕ, Bool, true, false, not, nat_lt, List, [], ◌∷◌, Option, Some, None, subst}
use Rattle.std.specs.Prelude.{IfSome, is_none, is_some, option_and_then, option_map}
use Rattle.std.specs.FinMap.{contains_key, get}
use Rattle.std.specs.Result.{result_err}
use Rattle.std.specs.Str.{bytes_eq}
use Rattle.lake_values.specs.declared.settings.Note.{Note}
use Rattle.lake_values.specs.declared.settings.NoteName.{NoteName}
use Rattle.commit_graph.specs.Expressions.{RefExprValue}
use Rattle.lake_model.specs.declared.fault.Reference.TheVariants.{Named, Expression}
use Rattle.lake_model.specs.declared.fault.StepFault.{StepFault}
use Rattle.lake_model.specs.declared.fault.StepFault.TheVariants as step
use Rattle.lake_model.specs.State.{Repository, State, branch_of, is_expired}
use Rattle.lake_model.specs.Branches.{protected_by}
use Rattle.lake_model.specs.NoteChanges.{note_at}
use Rattle.lake_model.specs.Refusals.{Causes, Clash, cause_if, clash_fault, first_cause, first_of, protection_of}
use Rattle.lake_model.specs.Resolving.{expression_target, name_target}
use Rattle.lake_model.specs.Steps.{create_branch_causes, create_repository_causes, create_tag_causes, delete_branch_causes, delete_tag_causes, expired_fault}
use Rattle.lake_model.specs.Steps.{holds_in, in_it, move_fault, set_note_causes_of, target_in}
use Rattle.call_readings.proofs.ToldLemmas.{IsTellable}

-- a cause, where it holds, is told
abbrev Tells : Option StepFault → Type 0
Tells cause = IfSome cause IsTellable

abbrev AllTell : List (Option StepFault) → Type 0
AllTell [] = Unit {0}
AllTell (cause ∷ later) = Tells cause × AllTell later

-- the causes of a step in their order
abbrev list_of : Causes → List (Option StepFault)
list_of c =
    c.stopped ∷ c.full ∷ c.repository ∷ c.reference ∷ c.parent ∷ c.note ∷ c.exists ∷ c.default_branch ∷ c.protected
    ∷ c.version ∷ c.path ∷ c.expired ∷ c.clash ∷ []

-- each cause is
abbrev pub AreTold : Causes → Type 0
AreTold c = AllTell (list_of c)

first_tells : (causes : List (Option StepFault)) → AllTell causes → Tells (first_of causes)
first_tells [] all = tt
first_tells (None ∷ later) all = first_tells later all.1
first_tells (Some fault ∷ later) all = all.0

-- so the first is
pub first_told : (c : Causes) → AreTold c → (fault : StepFault) → first_cause c ≡ Some fault → IsTellable fault
first_told c all fault is = subst Tells is (first_tells (list_of c) all)

-- ---- one cause

if_told : (holds : Bool) (fault : StepFault) → IsTellable fault → Tells (cause_if holds fault)
if_told true fault is = is
if_told false fault is = tt

then_told : {X : Type 0} (f : X → Option StepFault) (o : Option X) → ((x : X) → Tells (f x)) → Tells (option_and_then f o)
then_told f (Some x) each = each x
then_told f None each = tt

pattern_told : (pattern : Option ℕ) → Tells (option_map step.Protected pattern)
pattern_told (Some number) = tt
pattern_told None = tt

clash_told : (clash : Option Clash) → Tells (clash_fault clash)
clash_told (Some clash) = tt
clash_told None = tt

move_told : (fault : Option StepFault) → Tells (move_fault fault)
move_told None = tt
move_told (Some (step.NoParent number)) = tt
move_told (Some _) = tt

-- ---- each step

module _ (state : State) where
  stopped : Tells (cause_if state.stopped step.Stopped)
  stopped = if_told state.stopped step.Stopped tt

  full : Tells (cause_if (not (nat_lt state.entries 4194304)) step.HistoryFull)
  full = if_told (not (nat_lt state.entries 4194304)) step.HistoryFull tt

  module _ (repo : List ℕ) where
    there : Tells (cause_if (not (contains_key state.repositories repo)) step.NoRepo)
    there = if_told (not (contains_key state.repositories repo)) step.NoRepo tt

    named : (e : RefExprValue) → Tells (cause_if (holds_in state repo (λ r. is_none (name_target r e.name))) (step.NoRef Expression))
    named e = if_told (holds_in state repo (λ r. is_none (name_target r e.name))) (step.NoRef Expression) tt

    moved : (e : RefExprValue) → Tells (in_it state repo (λ r. move_fault (result_err (expression_target r e))))
    moved e = then_told (λ (r : Repository). move_fault (result_err (expression_target r e))) (get state.repositories repo)
        (λ r. move_told (result_err (expression_target r e)))

    live : (e : RefExprValue) → Tells (in_it state repo (λ r. option_and_then (expired_fault r) (target_in r e)))
    live e = then_told (λ (r : Repository). option_and_then (expired_fault r) (target_in r e)) (get state.repositories repo)
        (λ r. then_told (expired_fault r) (target_in r e) (λ id. if_told (is_expired r id) (step.Expired id) tt))

    guarded : (branch : List ℕ) → Tells (protection_of state repo branch)
    guarded branch = then_told (λ (r : Repository). option_map step.Protected (protected_by r.notes.protection branch)) (get state.repositories repo)
        (λ r. pattern_told (protected_by r.notes.protection branch))

    pub create_branch_told : (name : List ℕ) (e : RefExprValue) → AreTold (create_branch_causes state repo name e)
    create_branch_told name e =
        let taken = if_told (is_some (branch_of state repo name)) step.Exists tt in
        (stopped, (full, (there, (named e, (moved e, (tt, (taken, (tt, (tt, (tt, (tt, (live e, (tt, tt)))))))))))))

    pub create_tag_told : (name : List ℕ) (e : RefExprValue) → AreTold (create_tag_causes state repo name e)
    create_tag_told name e =
        let taken = if_told (holds_in state repo (λ r. contains_key r.tags name)) step.Exists tt in
        (stopped, (full, (there, (named e, (moved e, (tt, (taken, (tt, (tt, (tt, (tt, (live e, (tt, tt)))))))))))))

    pub delete_branch_told : (name : List ℕ) → AreTold (delete_branch_causes state repo name)
    delete_branch_told name =
        let found = if_told (not (is_some (branch_of state repo name))) (step.NoRef Named) tt in
        let default = if_told (holds_in state repo (λ r. bytes_eq r.default_branch name)) step.DefaultBranch tt in
        (stopped, (full, (there, (found, (tt, (tt, (tt, (default, (guarded name, (tt, (tt, (tt, (tt, tt)))))))))))))

    pub delete_tag_told : (name : List ℕ) → AreTold (delete_tag_causes state repo name)
    delete_tag_told name =
        let found = if_told (not (holds_in state repo (λ r. contains_key r.tags name))) (step.NoRef Named) tt in
        (stopped, (full, (there, (found, (tt, (tt, (tt, (tt, (tt, (tt, (tt, (tt, (tt, tt)))))))))))))

    pub set_note_told : (name : NoteName) (note : Option Note) → AreTold (set_note_causes_of state repo name note)
    set_note_told name note =
        let unset = if_told (is_none note && is_none (in_it state repo (λ r. note_at name r.notes))) step.NoNote tt in
        (stopped, (full, (there, (tt, (tt, (unset, (tt, (tt, (tt, (tt, (tt, (tt, (tt, tt)))))))))))))

    pub create_repository_told : (clash : Option Clash) → AreTold (create_repository_causes state repo clash)
    create_repository_told clash =
        let taken = if_told (contains_key state.repositories repo) step.Exists tt in
        (stopped, (full, (tt, (tt, (tt, (tt, (taken, (tt, (tt, (tt, (tt, (tt, (clash_told clash, tt)))))))))))))
