-- Tokens that were given out.
use Rattle.std.specs.Prelude.{◌≡◌, ◌<◌, true, ℕ, List, Some}
use Rattle.std.specs.FinMap.{contains_key, get}
use Rattle.branch_record.specs.Record.{AreDistinct, is_among}
use Rattle.core_state.specs.BranchStates.{BranchStateValue, tokens_of}
use Rattle.core_state.specs.RepositoryStates.{RepositoryStateValue}
use Rattle.core_state.specs.LakeStates.{LakeStateValue}

-- the tokens of a branch differ, and are below one: those that it names, and those under which something stands
pub record HasTokensBelow (next : ℕ) (b : BranchStateValue) : Type 0 where
  pub distinct : AreDistinct (tokens_of b)
  pub named : (token : ℕ) → is_among (tokens_of b) token ≡ true → token < next
  pub used : (token : ℕ) → contains_key b.tokens token ≡ true → token < next

-- every token of the lake is below the next one
abbrev pub AreTokensBelow : LakeStateValue → Type 0
AreTokensBelow l = (repo : List ℕ) (r : RepositoryStateValue) (branch : List ℕ) (b : BranchStateValue)
    → get l.repositories repo ≡ Some r → get r.branches branch ≡ Some b → HasTokensBelow l.next_token b
