-- How the reply comes about: the repository first, then the branch, then the source.
use Rattle.std.proofs.Common.{◌≡◌, ◌↔◌, ℕ, List, Some, None, Option, refl, sym, ap, subst, ◌∙◌}
use Rattle.std.specs.Prelude.{Result, Ok, Err}
use Rattle.std.specs.Option.{option_map_or}
use Rattle.std.specs.FinMap.{get}
use Rattle.lake_model.specs.declared.fault.StepFault.{StepFault}
use Rattle.lake_model.specs.declared.fault.StepFault.TheVariants.{NoMemory, NoRef, NoRepo}
use Rattle.lake_model.specs.declared.fault.Reference.TheVariants.{Named}
use Rattle.lake_model.specs.declared.reply.Sides.{Sides}
use Rattle.lake_model.specs.Preparing.{PreparedValue, expired_source, preparation, prepare_reply}
use Rattle.lake_model.specs.Refusals.{Gives, unless_refused}
use Rattle.lake_model.specs.State.{Branch, Repository}
use Rattle.lake_model.specs.Versions.{VersionsGiven, branch_version, settings_version}
use Rattle.core_state.specs.declared.branch.BranchState.{BranchState}
use Rattle.core_state.specs.declared.repository.RepositoryState.{RepositoryState}
use Rattle.core_state.specs.BranchStates.{branch_value}
use Rattle.core_state.specs.Counts.{HasVersions}
use Rattle.core_state.specs.LakeStates.{LakeStateValue, state_of}
use Rattle.core_state.specs.RepositoryStates.{repository_value}
use Rattle.core_readings.proofs.PlacesLemmas.{branch_at, found_branch, found_repository, repository_at}
use Rattle.core_readings.specs.Preparations.{AreCommits, HasSides}

-- ---- the commits of a merge or a pick

-- they are commits of the repository of a name where they are of the one that is there
pub of_there : (l : LakeStateValue) (repo : List ℕ) (sides : Sides) (r : RepositoryState) → Some (repository_value r) ≡ get l.repositories repo
    → AreCommits (repository_at r) sides ↔ HasSides (state_of l) repo sides
of_there l repo sides r is = (
  λ are q there. let same : repository_at r ≡ q = (let there_is = found_repository l repo (Some r) is in cc) in subst (λ x. AreCommits x sides) same are,
  λ have. have (repository_at r) (found_repository l repo (Some r) is),
)

-- so they are of one that isn't there
pub of_none : (l : LakeStateValue) (repo : List ℕ) (sides : Sides) → None ≡ get l.repositories repo → HasSides (state_of l) repo sides
of_none l repo sides is q there = absurd (let none = found_repository l repo None is in cc)

-- ---- answers

module _ {X : Type 0} where
  -- the reply itself
  pub gives_same : (answer reply : Result X StepFault) → answer ≡ reply → Gives answer reply
  gives_same (Err NoMemory) reply is = tt
  gives_same answer reply is = is

  -- what isn't refused is answered, and what is refused is refused with the same fault
  pub accepted : (refusal : Option StepFault) (answer : X) → Ok tt ≡ unless_refused refusal (tt {0}) → Ok answer ≡ unless_refused refusal answer
  accepted None answer is = refl
  accepted (Some fault) answer is = absurd cc

  pub refused : (refusal : Option StepFault) (answer : X) (fault : StepFault) → Err fault ≡ unless_refused refusal (tt {0})
      → Err fault ≡ unless_refused refusal answer
  refused None answer fault is = absurd cc
  refused (Some other) answer fault is = let same : fault ≡ other = cc in ap Err same

module _ (l : LakeStateValue) (given : VersionsGiven) (repo branch : List ℕ) (sides : Option Sides) where
  abbrev of_branch : Repository → Option Branch → Result PreparedValue StepFault
  of_branch r found = option_map_or
      (λ b. unless_refused (option_map_or (expired_source r) sides None) (preparation (state_of l) given repo branch sides r b)) found (Err (NoRef Named))

  abbrev of_repository : Option Repository → Result PreparedValue StepFault
  of_repository found = option_map_or (λ r. of_branch r (get r.branches branch)) found (Err NoRepo)

  -- no repository
  pub no_repository : None ≡ get l.repositories repo → Err NoRepo ≡ prepare_reply (state_of l) given repo branch sides
  no_repository is = sym (ap of_repository (found_repository l repo None is))

  module _ (r : RepositoryState) (there : Some (repository_value r) ≡ get l.repositories repo) where
    at_repository : of_branch (repository_at r) (get (repository_at r).branches branch) ≡ prepare_reply (state_of l) given repo branch sides
    at_repository = sym (ap of_repository (found_repository l repo (Some r) there))

    -- no branch
    pub no_branch : None ≡ get (repository_value r).branches branch → Err (NoRef Named) ≡ prepare_reply (state_of l) given repo branch sides
    no_branch is = sym (ap (of_branch (repository_at r)) (found_branch (repository_value r) branch None is)) ∙ at_repository

    module _ (b : BranchState) (is : Some (branch_value b) ≡ get (repository_value r).branches branch) where
      at_branch : unless_refused (option_map_or (expired_source (repository_at r)) sides None)
          (preparation (state_of l) given repo branch sides (repository_at r) (branch_at b))
          ≡ prepare_reply (state_of l) given repo branch sides
      at_branch = sym (ap (of_branch (repository_at r)) (found_branch (repository_value r) branch (Some b) is)) ∙ at_repository

      -- the source is expired
      pub no_source : (fault : StepFault) → Err fault ≡ unless_refused (option_map_or (expired_source (repository_at r)) sides None) (tt {0})
          → Err fault ≡ prepare_reply (state_of l) given repo branch sides
      no_source fault refusal = refused _ _ fault refusal ∙ at_branch

      -- the answer, by the versions that were given
      pub prepared_there : HasVersions given l → (p : PreparedValue)
          → (branch_version given repo branch ≡ (branch_value b).version → settings_version given repo ≡ (repository_value r).settings
          → p ≡ preparation (state_of l) given repo branch sides (repository_at r) (branch_at b))
          → Ok tt ≡ unless_refused (option_map_or (expired_source (repository_at r)) sides None) (tt {0})
          → Ok p ≡ prepare_reply (state_of l) given repo branch sides
      prepared_there has p made live =
          let version = has.branches repo (repository_value r) branch (branch_value b) (sym there) (sym is) in
          let settings = has.settings repo (repository_value r) (sym there) in
          ap Ok (made version settings) ∙ accepted _ _ live ∙ at_branch
