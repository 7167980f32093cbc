-- A guarded change, tried once, by what its reading and its step told.
use Rattle.std.proofs.Common.{◌≡◌, ◌≢◌, ◌==◌, ◌≤◌, ℕ, Bool, true, false, not, List, [], ◌∷◌, ◌++◌, Option, Some, None, Result, Ok, Err, refl, sym, ap, subst}
use Rattle.std.proofs.Common.{◌⊎◌, inl, inr, ◌∙◌, eq-eqb}
use Rattle.std.specs.Prelude.{IsErrOf, IfSome, is_some, option_and_then, option_map, if◌then◌else◌}
use Rattle.std.specs.FinMap.{contains_key, get}
use Rattle.std.specs.Option.{option_map_or}
use Rattle.lake_values.specs.Entry.{EntryValue}
use Rattle.lake_model.specs.declared.fault.Reference.TheVariants.{Named}
use Rattle.lake_model.specs.declared.fault.StepFault.{StepFault}
use Rattle.lake_model.specs.declared.fault.StepFault.TheVariants.{Stopped, HistoryFull, NoRepo, NoRef, NoParent, NoNote, Exists, DefaultBranch, Protected}
use Rattle.lake_model.specs.declared.fault.StepFault.TheVariants.{Changed, NoPath, Expired, NameClash, StoreFault, NoMemory}
use Rattle.lake_model.specs.declared.history.By.{By}
use Rattle.lake_model.specs.declared.history.HistoryEntry.{HistoryEntry}
use Rattle.lake_model.specs.declared.history.Operation.{Operation}
use Rattle.lake_model.specs.declared.reply.Versions.{Versions}
use Rattle.lake_model.specs.State.{Repository, State, branch_of}
use Rattle.lake_model.specs.History.{accepted_entry, faulted_entry}
use Rattle.lake_model.specs.Readings.{versions_at, versions_reply}
use Rattle.lake_model.specs.Refusals.{Causes, IsRefusal, cause_if, first_cause, first_of, no_causes, with_branch, with_current_version}
use Rattle.lake_model.specs.Steps.{with_current_branch}
use Rattle.lake_model.specs.Versions.{VersionsGiven, branch_version, settings_version}
use Rattle.lake_laws.proofs.HeadStepLemmas.{without_versions}
use Rattle.lake_core.specs.declared.standing.LakeOrigin.{LakeOrigin}
use Rattle.call_placement.specs.Rules.{Caller}
use Rattle.call_placement.specs.Points.{Came}
use Rattle.call_placement.proofs.WalkLemmas.{came_on}
use Rattle.lake_calls.specs.LakeRules.{by_caller, lake_rules}
use Rattle.flow_steps.specs.FlowSeats.{given_at, state_at}
use Rattle.flow_steps.specs.FlowTries.{FoundVersion, Guarded, IsRefused, Steps, TryEnds, first_before_versions}
use Rattle.flow_steps.proofs.VersionCauseLemmas.{AsksNone, Decides, IsUnversioned, refused_for}

-- ---- the reading

-- what a reading of a branch's versions decides
abbrev pub IsVersionRead : State → VersionsGiven → (repo branch : List ℕ) → Result Versions StepFault → Type 0
IsVersionRead state given repo branch (Ok versions) =
    (first_cause (with_branch state repo branch no_causes) ≡ None) × (versions.version ≡ branch_version given repo branch)
IsVersionRead state given repo branch (Err fault) = first_cause (with_branch state repo branch no_causes) ≡ Some fault

-- by the first cause
abbrev IsReadBy : ℕ → Result Versions StepFault → Option StepFault → Type 0
IsReadBy version (Ok versions) cause = (cause ≡ None) × (versions.version ≡ version)
IsReadBy version (Err fault) cause = cause ≡ Some fault

-- the first cause at a reading, by whether the repository and the branch are there
abbrev missing : (repository branch : Bool) → Option StepFault
missing repository branch = first_of (None ∷ None ∷ cause_if (not repository) NoRepo ∷ cause_if (not branch) (NoRef Named)
    ∷ None ∷ None ∷ None ∷ None ∷ None ∷ None ∷ None ∷ None ∷ None ∷ [])

read_branch : (given : VersionsGiven) (repo branch : List ℕ) (at : ℕ) (found : Bool) (answer : Result Versions StepFault)
    → answer ≡ (if found then Ok (versions_at at given repo branch) else Err (NoRef Named))
    → IsReadBy (branch_version given repo branch) answer (missing true found)
read_branch given repo branch at true answer is = subst (λ a. IsReadBy (branch_version given repo branch) a None) (sym is) (refl, refl)
read_branch given repo branch at false answer is = subst (λ a. IsReadBy (branch_version given repo branch) a (Some (NoRef Named))) (sym is) refl

read_repository : (given : VersionsGiven) (repo branch : List ℕ) (at : ℕ) (found : Option Repository) (answer : Result Versions StepFault)
    → answer
    ≡ option_map_or (λ (r : Repository). if is_some (get r.branches branch) then Ok (versions_at at given repo branch) else Err (NoRef Named))
    found (Err NoRepo)
    → IsReadBy (branch_version given repo branch) answer (missing (is_some found) (is_some (option_and_then (λ (r : Repository). get r.branches branch) found)))
read_repository given repo branch at (Some r) answer is = read_branch given repo branch at (is_some (get r.branches branch)) answer is
read_repository given repo branch at None answer is = subst (λ a. IsReadBy (branch_version given repo branch) a (Some NoRepo)) (sym is) refl

read_as : (state : State) (given : VersionsGiven) (repo branch : List ℕ) (answer : Result Versions StepFault)
    → IsReadBy (branch_version given repo branch) answer (first_cause (with_branch state repo branch no_causes)) → IsVersionRead state given repo branch answer
read_as state given repo branch (Ok versions) is = is
read_as state given repo branch (Err fault) is = is

pub version_read : (state : State) (given : VersionsGiven) (repo branch : List ℕ) (answer : Result Versions StepFault)
    → answer ≡ versions_reply state given repo branch → IsVersionRead state given repo branch answer
version_read state given repo branch answer is =
    read_as state given repo branch answer (read_repository given repo branch state.entries (get state.repositories repo) answer is)

-- ---- the step

module _ (origin : LakeOrigin) (by : Caller) (guarded : Guarded) (from read : List HistoryEntry) (to_reading : Came lake_rules by from read)
    (early : guarded.early (state_at origin read) ≡ None) where
  abbrev Ends : Result (Option EntryValue) StepFault → List HistoryEntry → Type 0
  Ends = λ result next. TryEnds origin by guarded result from next

  -- the step's refusal, which is no version and no want of memory
  refused : (fault : StepFault) (next : List HistoryEntry) → IsUnversioned fault → IsRefusal fault → Came lake_rules by read next
      → guarded.late (state_at origin next) ≡ Some fault → Ends (Err fault) next
  refused (Changed version settings) next u r came is = absurd u
  refused StoreFault next u r came is = absurd r
  refused NoMemory next u r came is = absurd r
  refused fault next u r came is = inr (read, to_reading, early, came, is)

  module _ (found : List HistoryEntry) (to_step : Came lake_rules by read found) where
    abbrev IsSame : Type 0
    IsSame = guarded.version (given_at origin found) ≡ guarded.version (given_at origin read)

    made : (told : Option EntryValue) (operation : Operation) → guarded.late (state_at origin found) ≡ None
        → guarded.Makes (state_at origin found) told operation → IsSame → Steps origin by guarded told operation from found
    made told operation late makes same = record {
      read = read;
      to_reading = to_reading;
      early = early;
      to_step = to_step;
      late = late;
      makes = makes;
      same = same;
    }

    pub accepted : (told : Option EntryValue) (operation : Operation) (next : List HistoryEntry) → guarded.late (state_at origin found) ≡ None
        → guarded.Makes (state_at origin found) told operation → IsSame → next ≡ found ++ accepted_entry (by_caller by) operation ∷ []
        → Ends (Ok told) next
    accepted told operation next late makes same is = (operation, found, made told operation late makes same, is)

    pub faulted : (told : Option EntryValue) (operation : Operation) (next : List HistoryEntry) → guarded.late (state_at origin found) ≡ None
        → guarded.Makes (state_at origin found) told operation → IsSame → next ≡ found ++ faulted_entry (by_caller by) operation ∷ []
        → Ends (Err StoreFault) next
    faulted told operation next late makes same is = (told, operation, found, made told operation late makes same, is)

    -- a refusal of a step by a version that was read: by the first cause, without versions, or for the version
    pub not_made : (c : Causes) (repo branch : List ℕ) (version : ℕ) (fault : StepFault) → IsRefusal fault → AsksNone c
        → first_cause c ≡ guarded.late (state_at origin found) → first_before_versions c ≡ guarded.ahead (state_at origin found)
        → ((given : VersionsGiven) → guarded.version given ≡ branch_version given repo branch)
        → version ≡ guarded.version (given_at origin read)
        → first_cause (with_current_branch (given_at origin found) repo branch version c) ≡ Some fault → Ends (Err fault) found
    not_made c repo branch version fault is_refusal asks late ahead guards was first =
        let now = branch_version (given_at origin found) repo branch in
        elim (refused_for c (version == now) now (settings_version (given_at origin found) repo) fault asks first) [
          | inl other ↦ subst (λ f. Ends (Err f) found) (sym other.2) (
            read,
            to_reading,
            to_step,
            (λ same. absurd (not_false version now other.0 (was ∙ sym same ∙ guards (given_at origin found)))),
            sym (guards (given_at origin found)),
            early,
            sym ahead ∙ other.1,
          )
          | inr plain ↦ refused fault found plain.1 is_refusal to_step (sym late ∙ plain.0)
        ]
      where
        not_false : (m n : ℕ) → (m == n) ≡ false → m ≡ n → ⊥
        not_false m n differ same = let equal = eq-eqb m n same in absurd cc

-- a reading that was refused
module _ (origin : LakeOrigin) (by : Caller) (guarded : Guarded) (from next : List HistoryEntry) (came : Came lake_rules by from next) where
  pub unread : (fault : StepFault) → IsUnversioned fault → IsRefusal fault → guarded.early (state_at origin next) ≡ Some fault
      → TryEnds origin by guarded (Err fault) from next
  unread (Changed version settings) u r is = absurd u
  unread StoreFault u r is = absurd r
  unread NoMemory u r is = absurd r
  unread fault u r is = inl (came, is)

-- what a reading of versions is refused for is no version, nor want of memory
pub reading_refusal_is : (state : State) (repo branch : List ℕ) (fault : StepFault) → first_cause (with_branch state repo branch no_causes) ≡ Some fault
    → IsUnversioned fault × IsRefusal fault
reading_refusal_is state repo branch fault is = by (contains_key state.repositories repo) (is_some (branch_of state repo branch)) is
  where
    by : (repository branch : Bool) → missing repository branch ≡ Some fault → IsUnversioned fault × IsRefusal fault
    by false branch is = let same : Some NoRepo ≡ Some fault = is in let one : NoRepo ≡ fault = cc (same) in
        subst (λ f. IsUnversioned f × IsRefusal f) one (tt, tt)
    by true false is = let same : Some (NoRef Named) ≡ Some fault = is in let one : NoRef Named ≡ fault = cc (same) in
        subst (λ f. IsUnversioned f × IsRefusal f) one (tt, tt)
    by true true is = absurd cc
