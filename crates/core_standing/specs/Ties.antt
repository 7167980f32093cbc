-- What holds of a lake whose branches, settings and next numbers were read from pairs that agree with one another.
use Rattle.std.specs.Prelude.{◌≡◌, ◌<◌, ◌^◌, true, ℕ, List, Some}
use Rattle.std.specs.FinMap.{contains_key, get}
use Rattle.branch_record.specs.Record.{AreDistinct, is_among}
use Rattle.core_state.specs.BranchStates.{BranchStateValue, tokens_of}
use Rattle.core_state.specs.RepositoryStates.{RepositoryStateValue}
use Rattle.core_state.specs.LakeStates.{LakeStateValue}

-- A branch was read: its version and each token that it names are below the next ones; it names no token twice; and changes
-- stand only under tokens that it names.
pub record IsTied (next_version next_token : ℕ) (b : BranchStateValue) : Type 0 where
  pub version : b.version < next_version
  pub tokens : (token : ℕ) → is_among (tokens_of b) token ≡ true → token < next_token
  pub distinct : AreDistinct (tokens_of b)
  pub named : (token : ℕ) → contains_key b.tokens token ≡ true → is_among (tokens_of b) token ≡ true

-- A lake was read: its branches were, and the version of each repository's settings is below the next one; the next version
-- is above 0; and the next number, version and token are below 2^63.
pub record AreTied (l : LakeStateValue) : Type 0 where
  pub branches : (repo : List ℕ) (r : RepositoryStateValue) (branch : List ℕ) (b : BranchStateValue)
      → get l.repositories repo ≡ Some r → get r.branches branch ≡ Some b → IsTied l.next_version l.next_token b
  pub settings : (repo : List ℕ) (r : RepositoryStateValue) → get l.repositories repo ≡ Some r → r.settings < l.next_version
  pub some_version : 0 < l.next_version
  pub numbers : l.next_number < 2 ^ 63
  pub versions : l.next_version < 2 ^ 63
  pub tokens : l.next_token < 2 ^ 63
