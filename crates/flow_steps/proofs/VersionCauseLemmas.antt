-- A step that is guarded by versions is refused for them, or for what refuses it without them.
use Rattle.std.proofs.Common.{◌≡◌, ◌≢◌, ◌==◌, ℕ, Bool, true, false, not, nat_lt, List, [], ◌∷◌, ◌++◌, Option, Some, None, Result, Ok, Err, refl, sym, ap, ◌∙◌}
use Rattle.std.proofs.Common.{◌⊎◌, inl, inr, cond, subst}
use Rattle.std.specs.Prelude.{IfSome, option_and_then, option_map, is_none, is_some}
use Rattle.std.specs.FinMap.{contains_key, get}
use Rattle.std.specs.Option.{option_or}
use Rattle.std.specs.Result.{result_err}
use Rattle.commit_graph.specs.Expressions.{RefExprValue}
use Rattle.lake_base.specs.declared.digest.Digest.{Digest}
use Rattle.lake_model.specs.declared.fault.Reference.TheVariants.{Named, Expression}
use Rattle.lake_model.specs.declared.fault.StepFault.{StepFault}
use Rattle.lake_model.specs.declared.fault.StepFault.TheVariants.{Stopped, HistoryFull, NoRepo, NoRef, NoParent, NoNote, Exists, DefaultBranch, Protected}
use Rattle.lake_model.specs.declared.fault.StepFault.TheVariants.{Changed, NoPath, Expired, NameClash, StoreFault, NoMemory}
use Rattle.lake_model.specs.State.{Repository, State, branch_of, is_expired}
use Rattle.lake_model.specs.Branches.{protected_by}
use Rattle.lake_model.specs.Refusals.{Causes, GivesOrFails, cause_if, first_cause, first_of, protection_of, unless_refused, with_current_version}
use Rattle.lake_model.specs.Resolving.{expression_target, is_plain_branch, name_target}
use Rattle.lake_model.specs.Steps.{IsReplyOf, copied_entry, copy_causes_of, expired_fault, holds_in, in_it, move_fault, source_fault, target_in, write_causes}
use Rattle.lake_laws.proofs.CauseLemmas.{no_cause, test_holds}
use Rattle.flow_steps.specs.FlowTries.{first_before_versions}

-- WHAT AN ANSWER DECIDES of the causes: none holds where the change was accepted, or the store failed; and a refusal is the first
abbrev pub Decides : {X : Type 0} → Causes → Result X StepFault → Type 0
Decides c (Ok x) = first_cause c ≡ None
Decides c (Err NoMemory) = Unit {0}
Decides c (Err StoreFault) = first_cause c ≡ None
Decides c (Err fault) = first_cause c ≡ Some fault

-- ---- the first of causes

first_append : (front rest : List (Option StepFault)) (fault : StepFault) → first_of front ≡ Some fault → first_of (front ++ rest) ≡ Some fault
first_append [] rest fault is = absurd cc
first_append (None ∷ front) rest fault is = first_append front rest fault is
first_append (Some one ∷ front) rest fault is = is

-- the first cause stands before one that holds, or is it
before_or_it : (front rest : List (Option StepFault)) (one fault : StepFault) → first_of (front ++ Some one ∷ rest) ≡ Some fault
    → (first_of front ≡ Some fault) ⊎ ((first_of front ≡ None) × (fault ≡ one))
before_or_it [] rest one fault is = inr (refl, let same : Some one ≡ Some fault = is in cc)
before_or_it (None ∷ front) rest one fault is = before_or_it front rest one fault is
before_or_it (Some other ∷ front) rest one fault is = inl is

-- ---- causes that are no versions

-- a cause is no version
abbrev pub IsUnversioned : StepFault → Type 0
IsUnversioned (Changed version settings) = ⊥
IsUnversioned _ = Unit {0}

abbrev AreUnversioned : List (Option StepFault) → Type 0
AreUnversioned [] = Unit {0}
AreUnversioned (cause ∷ later) = IfSome cause IsUnversioned × AreUnversioned later

first_unversioned : (causes : List (Option StepFault)) (fault : StepFault) → AreUnversioned causes → first_of causes ≡ Some fault → IsUnversioned fault
first_unversioned [] fault are is = absurd cc
first_unversioned (None ∷ later) fault are is = first_unversioned later fault are.1 is
first_unversioned (Some one ∷ later) fault are is =
    let same : Some one ≡ Some fault = is in
    let one_is : one ≡ fault = cc (same) in
    subst IsUnversioned one_is are.0

-- the causes that are asked before the version, and those behind it
abbrev early_of : Causes → List (Option StepFault)
early_of c = c.stopped ∷ c.full ∷ c.repository ∷ c.reference ∷ c.parent ∷ c.note ∷ c.exists ∷ c.default_branch ∷ c.protected ∷ []

abbrev late_of : Causes → List (Option StepFault)
late_of c = c.path ∷ c.expired ∷ c.clash ∷ []

-- none of them is a version, and none is asked
pub record AsksNone (c : Causes) : Type 0 where
  pub unasked : c.version ≡ None
  pub early : AreUnversioned (early_of c)
  pub late : AreUnversioned (late_of c)

-- a cause that doesn't hold is no version
with_none : (front rest : List (Option StepFault)) → AreUnversioned front → AreUnversioned rest → AreUnversioned (front ++ None ∷ rest)
with_none [] rest are others = (tt, others)
with_none (cause ∷ front) rest are others = (are.0, with_none front rest are.1 others)

-- a refusal for versions that aren't these, or for what refuses it without them
pub refused_for : (c : Causes) (current : Bool) (version settings : ℕ) (fault : StepFault) → AsksNone c
    → first_cause (with_current_version current version settings c) ≡ Some fault
    → ((current ≡ false) × (first_before_versions c ≡ None) × (fault ≡ Changed version settings))
    ⊎ ((first_cause c ≡ Some fault) × IsUnversioned fault)
refused_for c true version settings fault asks is = inr (plainly c fault asks (as_asked c asks.unasked is))
  where
    as_asked : (c : Causes) → c.version ≡ None → first_of (early_of c ++ None ∷ late_of c) ≡ Some fault → first_cause c ≡ Some fault
    as_asked c unasked is = ap (λ v. first_of (early_of c ++ v ∷ late_of c)) unasked ∙ is

    plainly : (c : Causes) (fault : StepFault) → AsksNone c → first_cause c ≡ Some fault → (first_cause c ≡ Some fault) × IsUnversioned fault
    plainly c fault asks is = (
      is,
      first_unversioned (early_of c ++ None ∷ late_of c) fault (with_none (early_of c) (late_of c) asks.early asks.late)
          (ap (λ v. first_of (early_of c ++ v ∷ late_of c)) (sym asks.unasked) ∙ is),
    )
refused_for c false version settings fault asks is =
    elim (before_or_it (early_of c) (late_of c) (Changed version settings) fault is) [
      | inl first ↦ inr (first_append (early_of c) (c.version ∷ late_of c) fault first, first_unversioned (early_of c) fault asks.early first)
      | inr changed ↦ inl (refl, changed.0, changed.1)
    ]

-- where no cause holds by versions, they are these
pub current_where_none : (c : Causes) (current : Bool) (version settings : ℕ) → first_cause (with_current_version current version settings c) ≡ None
    → current ≡ true
current_where_none c current version settings none =
    test_holds current (Changed version settings) (no_cause (with_current_version current version settings c) none).version

-- ---- what writes to a branch asks no version

if_unversioned : (holds : Bool) (fault : StepFault) → IsUnversioned fault → IfSome (cause_if holds fault) IsUnversioned
if_unversioned true fault is = is
if_unversioned false fault is = tt

or_unversioned : (a b : Option StepFault) → IfSome a IsUnversioned → IfSome b IsUnversioned → IfSome (option_or a b) IsUnversioned
or_unversioned (Some fault) b is other = is
or_unversioned None b is other = other

then_unversioned : {X : Type 0} (f : X → Option StepFault) (o : Option X) → ((x : X) → IfSome (f x) IsUnversioned) → IfSome (option_and_then f o) IsUnversioned
then_unversioned f (Some x) each = each x
then_unversioned f None each = tt

pattern_unversioned : (pattern : Option ℕ) → IfSome (option_map Protected pattern) IsUnversioned
pattern_unversioned (Some number) = tt
pattern_unversioned None = tt

move_unversioned : (fault : Option StepFault) → IfSome (move_fault fault) IsUnversioned
move_unversioned None = tt
move_unversioned (Some (NoParent number)) = tt
move_unversioned (Some fault) = tt

module _ (state : State) (repo branch : List ℕ) where
  protection_unversioned : IfSome (protection_of state repo branch) IsUnversioned
  protection_unversioned =
      then_unversioned (λ (r : Repository). option_map Protected (protected_by r.notes.protection branch)) (get state.repositories repo)
      (λ r. pattern_unversioned (protected_by r.notes.protection branch))

  no_repository : IfSome (write_causes state repo branch).repository IsUnversioned
  no_repository = if_unversioned (not (contains_key state.repositories repo)) NoRepo tt

  no_branch : IfSome (write_causes state repo branch).reference IsUnversioned
  no_branch = if_unversioned (not (is_some (branch_of state repo branch))) (NoRef Named) tt

  stopped : IfSome (write_causes state repo branch).stopped IsUnversioned
  stopped = if_unversioned state.stopped Stopped tt

  full : IfSome (write_causes state repo branch).full IsUnversioned
  full = if_unversioned (not (nat_lt state.entries 4194304)) HistoryFull tt

  pub write_asks : AsksNone (write_causes state repo branch)
  write_asks = record {
    unasked = refl;
    early = (stopped, (full, (no_repository, (no_branch, (tt, (tt, (tt, (tt, (protection_unversioned, tt)))))))));
    late = (tt, (tt, (tt, tt)));
  }

  pub copy_asks : (e : RefExprValue) (from : List ℕ) → AsksNone (copy_causes_of state repo branch e from)
  copy_asks e from = record {
    unasked = refl;
    early = (stopped, (full, (no_repository, (reference_unversioned, (parent_unversioned, (tt, (tt, (tt, (protection_unversioned, tt)))))))));
    late = (path_unversioned, (then_unversioned (λ (r : Repository). source_fault r e) (get state.repositories repo) (λ r. source_unversioned r e), (tt, tt)));
  }
    where
      reference_unversioned : IfSome (copy_causes_of state repo branch e from).reference IsUnversioned
      reference_unversioned = or_unversioned (cause_if (not (is_some (branch_of state repo branch))) (NoRef Named)) _ no_branch
          (if_unversioned (holds_in state repo (λ r. is_none (name_target r e.name))) (NoRef Expression) tt)

      parent_unversioned : IfSome (copy_causes_of state repo branch e from).parent IsUnversioned
      parent_unversioned = then_unversioned (λ (r : Repository). move_fault (result_err (expression_target r e))) (get state.repositories repo)
          (λ r. move_unversioned (result_err (expression_target r e)))

      path_unversioned : IfSome (copy_causes_of state repo branch e from).path IsUnversioned
      path_unversioned = if_unversioned (is_none (copied_entry state repo e from)) NoPath tt

      source_by : (plain : Bool) (target : Option Digest) (r : Repository)
          → IfSome (cond plain None (option_and_then (expired_fault r) target)) IsUnversioned
      source_by true target r = tt
      source_by false (Some id) r = if_unversioned (is_expired r id) (Expired id) tt
      source_by false None r = tt

      source_unversioned : (r : Repository) (e : RefExprValue) → IfSome (source_fault r e) IsUnversioned
      source_unversioned r e = source_by (is_plain_branch r e) (target_in r e) r

-- ---- what a change answered

-- what a change that may fail answered decides which cause came first
pub decided : {X : Type 0} (state : State) (c : Causes) (value : X) (answer : Result X StepFault) → GivesOrFails answer (unless_refused (first_cause c) value)
    → Decides c answer
decided {X} state c value answer gives = by (first_cause c) refl answer gives
  where
    by : (first : Option StepFault) → first_cause c ≡ first → (answer : Result X StepFault) → GivesOrFails answer (unless_refused first value)
        → Decides c answer
    by None none (Ok x) gives = none
    by (Some fault) some (Ok x) gives = absurd cc
    by None none (Err StoreFault) gives = none
    by (Some fault) some (Err StoreFault) gives = absurd cc
    by first is (Err NoMemory) gives = tt
    by None none (Err _) gives = absurd cc
    by (Some fault) some (Err _) gives = some ∙ cc
