-- What is done to a branch that stays.
use Rattle.std.specs.Prelude.{◌≡◌, ◌≤◌, false, ℕ}
use Rattle.std.specs.FinMap.{contains_key}
use Rattle.lake_values.specs.Reset.{changes_after_reset}
use Rattle.branch_record.specs.Record.{is_among}
use Rattle.branch_record.specs.Tokens.{with_change, with_each}
use Rattle.core_state.specs.declared.branch.BranchState.{BranchState}
use Rattle.core_state.specs.BranchStates.{BranchStateValue, tokens_of, with_fresh}
use Rattle.core_state.specs.NewCommits.{with_new_head}
use Rattle.core_changes.specs.declared.branch.BranchChange.{BranchChange}
use Rattle.core_changes.specs.declared.branch.BranchChange.TheVariants.{Stage, Reset, Seal, Head}

-- a branch after a change of it
abbrev pub branch_after : BranchChange → BranchStateValue → BranchStateValue
branch_after (Stage path change) b = record b { tokens = with_change b.tokens b.staging path change }
branch_after (Reset what version) b =
    record b { version = version; tokens = with_each (tokens_of b) (changes_after_reset what) b.tokens }
branch_after (Seal fresh version) b = record (with_fresh fresh b) { version = version }
branch_after (Head commit version) b = with_new_head version commit b

-- a token that a branch doesn't name, and under which nothing stands
pub record IsUnused (b : BranchStateValue) (token : ℕ) : Type 0 where
  pub unnamed : is_among (tokens_of b) token ≡ false
  pub empty : contains_key b.tokens token ≡ false

-- a seal takes an unused token
abbrev pub FitsBranch : BranchChange → BranchStateValue → Type 0
FitsBranch (Stage path change) b = Unit {0}
FitsBranch (Reset what version) b = Unit {0}
FitsBranch (Seal fresh version) b = IsUnused b fresh
FitsBranch (Head commit version) b = Unit {0}

-- it has room for a staged change, and for a sealed token
pub record HasRoom (b : BranchState) : Type 0 where
  pub sealed : 1 ≤ b.record.spare
  pub staged : 1 ≤ b.tokens.spare

-- the room that a change needs: a new head needs none
abbrev pub HasRoomTo : BranchChange → BranchState → Type 0
HasRoomTo (Head commit version) b = Unit {0}
HasRoomTo change b = HasRoom b
