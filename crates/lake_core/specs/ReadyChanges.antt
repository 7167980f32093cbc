-- The memory that a change takes.
use Rattle.std.specs.Prelude.{◌≡◌, ℕ, List, Option}
use Rattle.keeper.specs.declared.put.Put.{Put}
use Rattle.lake_base.specs.declared.digest.Digest.{Digest}
use Rattle.commit_graph.specs.Expressions.{RefExprValue}
use Rattle.lake_model.specs.declared.history.Operation.{Operation}
use Rattle.lake_model.specs.declared.history.Operation.TheVariants.{Copy, RepoCreate}
use Rattle.lake_values.specs.declared.entry.Change.TheVariants.{Put as put}
use Rattle.lake_model.specs.State.{State}
use Rattle.core_causes.specs.Finding.{FindsCopy, source_of}
use Rattle.core_changes.specs.NewRepositories.{IsNew}
use Rattle.core_puts.specs.Puts.{create_repository_puts, stage_puts}
use Rattle.core_state.specs.LakeStates.{LakeStateValue, state_of}
use Rattle.lake_core.specs.declared.ready.Ready.{Ready}
use Rattle.lake_core.specs.declared.ready.ReadyCopy.{ReadyCopy}
use Rattle.lake_core.specs.declared.ready.ReadyRepository.{ReadyRepository}
use Rattle.lake_core.specs.declared.ready.TestedCopy.{TestedCopy}

-- it is made ready by this operation, and these puts
pub record IsReadyChange (made : Operation) (kept : List Put) (ready : Ready) : Type 0 where
  pub operation : ready.operation ≡ made
  pub puts : ready.puts.items ≡ kept

-- what an expression has at a path is copied: its entry is found, of a commit or of what a branch shows, and stands in the
-- operation and in the answer
pub record IsTestedCopy (state : State) (repo branch path : List ℕ) (e : RefExprValue) (from : List ℕ) (tested : TestedCopy) : Type 0 where
  pub commit : Option Digest
  pub finds : FindsCopy state repo e from tested.entry commit
  pub operation : tested.operation ≡ Copy repo branch path (source_of e.name commit) from tested.entry
  pub answer : tested.answer ≡ tested.entry

-- so it is in a lake, with the puts by which it is kept
pub record IsReadyCopy (l : LakeStateValue) (repo branch path : List ℕ) (e : RefExprValue) (from : List ℕ) (ready : ReadyCopy) : Type 0 where
  pub tested : IsTestedCopy (state_of l) repo branch path e from (record { operation = ready.operation; entry = ready.entry; answer = ready.answer })
  pub puts : ready.puts.items ≡ stage_puts repo branch path (put ready.entry) l

-- a repository is to be made in a lake, of this name and default branch, at a date
pub record IsReadyRepository (repo branch : List ℕ) (date : ℕ) (l : LakeStateValue) (ready : ReadyRepository) : Type 0 where
  pub name : ready.name ≡ repo
  pub operation : ready.operation ≡ RepoCreate repo branch date
  pub puts : ready.puts.items ≡ create_repository_puts repo branch date l
  pub new : IsNew repo branch date l ready.new
