-- A new head that is ready to be kept.
use Rattle.std.specs.Prelude.{◌≡◌, ℕ, List}
use Rattle.lake_values.specs.Commit.{AboutValue}
use Rattle.lake_model.specs.declared.reply.SwapKind.{SwapKind}
use Rattle.lake_model.specs.Steps.{swap_operation}
use Rattle.core_state.specs.declared.lake.LakeState.{LakeState}
use Rattle.core_state.specs.LakeStates.{lake_value}
use Rattle.core_puts.specs.Puts.{new_head_puts}
use Rattle.core_commits.specs.declared.commits.NewHead.{NewHead}
use Rattle.core_commits.specs.declared.ready.ReadyHead.{ReadyHead}
use Rattle.core_commits.specs.CommitNames.{AreNames}
use Rattle.core_commits.specs.HeadOperations.{new_commit}

-- its operation, its puts as the lake is, its names, and what is answered of its commit
pub record IsReadyHead (repo branch : List ℕ) (swap : SwapKind) (about : AboutValue) (new : NewHead) (lake : LakeState) (ready : ReadyHead) : Type 0 where
  pub operation : ready.operation ≡ swap_operation repo branch swap about
  pub puts : ready.puts.items ≡ new_head_puts repo branch (new_commit new) lake.names.files (lake_value lake)
  pub names : AreNames repo new.tree.value.files ready.names
  pub answer : ready.answer ≡ new.commit
