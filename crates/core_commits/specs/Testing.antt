-- What the test of a new head answers.
use Rattle.std.specs.Prelude.{◌≡◌, ℕ, List, Option, Some, Result, option_and_then, option_map}
use Rattle.std.specs.FinMap.{get}
use Rattle.lake_values.specs.Commit.{AboutValue}
use Rattle.lake_format.specs.Spelling.{commit_id}
use Rattle.meta_range.specs.Ranges.{TreeValue}
use Rattle.lake_model.specs.declared.fault.StepFault.{StepFault}
use Rattle.lake_model.specs.declared.reply.SwapKind.{SwapKind}
use Rattle.lake_model.specs.Refusals.{Clash, first_cause}
use Rattle.lake_model.specs.Steps.{IsSwapClash, swap_causes, swap_rule}
use Rattle.lake_model.specs.Versions.{VersionsGiven}
use Rattle.core_state.specs.BranchStates.{BranchStateValue}
use Rattle.core_state.specs.LakeStates.{LakeStateValue, state_of}
use Rattle.core_state.specs.NewCommits.{NewCommit, commit_of_draft}
use Rattle.core_state.specs.RepositoryStates.{RepositoryStateValue}
use Rattle.core_causes.specs.Clashing.{TellsOrFails}
use Rattle.core_commits.specs.declared.commits.NewHead.{NewHead}
use Rattle.core_commits.specs.KeptHeads.{MayHaveIn}
use Rattle.core_readings.specs.Trees.{IsCutTree}
use Rattle.core_commits.specs.HeadOperations.{draft_for, new_commit}

-- the commit that is drafted for a branch, where that is there
abbrev pub drafted_in : List ℕ → List ℕ → SwapKind → AboutValue → LakeStateValue → Option NewCommit
drafted_in repo branch swap about l =
    option_and_then (λ r. option_map (λ b. commit_of_draft l.cut r.commits (draft_for swap about r b)) (get r.branches branch))
    (get l.repositories repo)

-- where both versions are those now, a tree is that of the map that is drafted, by the lake's cut
abbrev pub HasTreeFor : LakeStateValue → List ℕ → List ℕ → ℕ → ℕ → SwapKind → AboutValue → TreeValue → Type 0
HasTreeFor l repo branch version settings swap about tree = (r : RepositoryStateValue) (b : BranchStateValue)
    → get l.repositories repo ≡ Some r → get r.branches branch ≡ Some b → version ≡ b.version → settings ≡ r.settings
    → IsCutTree l.cut (draft_for swap about r b).objects tree

-- a new head is what is drafted for a branch of a lake, and its repository may have it
pub record IsNewHead (l : LakeStateValue) (repo branch : List ℕ) (swap : SwapKind) (about : AboutValue) (new : NewHead) : Type 0 where
  pub drafted : drafted_in repo branch swap about l ≡ Some (new_commit new)
  pub may : MayHaveIn repo (new_commit new) l
  pub named : new.content.name ≡ commit_id new.commit

-- What the test of a new head answers: for a clash of its commit that is there, or for none where there is none, it tells
-- the first cause.
pub record AsksForHead {X : Type 0} (l : LakeStateValue) (given : VersionsGiven) (repo branch : List ℕ) (version settings : ℕ) (swap : SwapKind)
    (about : AboutValue) (answer : Result X StepFault) : Type 0 where
  pub clash : Option Clash
  pub there : IsSwapClash (state_of l) repo branch (swap_rule swap about) clash
  pub tells : TellsOrFails (first_cause (swap_causes (state_of l) given repo branch version settings (swap_rule swap about) clash)) answer
