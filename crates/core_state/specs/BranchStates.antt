-- A branch in memory: what its record and the changes under its tokens say.
use Rattle.std.specs.Prelude.{ℕ, List, [], ◌∷◌, if◌then◌else◌}
use Rattle.std.specs.FinMap.{contains_key, empty}
use Rattle.lake_base.specs.declared.digest.Digest.{Digest}
use Rattle.branch_record.specs.Overlay.{layers_of}
use Rattle.branch_record.specs.Tokens.{TokenMap, changes_under}
use Rattle.lake_model.specs.State.{Branch}
use Rattle.core_state.specs.declared.branch.BranchState.{BranchState}

-- a branch in memory: its version and head, the token under which changes are staged, the sealed tokens, newest first,
-- and the changes under each token
pub record BranchStateValue : Type 0 where
  pub version : ℕ
  pub head : Digest
  pub staging : ℕ
  pub sealed : List ℕ
  pub tokens : TokenMap

-- what a branch in memory says, without the room that it has for what may come
abbrev pub branch_value : BranchState → BranchStateValue
branch_value b = record {
  version = b.record.version;
  head = b.record.head;
  staging = b.record.staging;
  sealed = b.record.sealed;
  tokens = b.tokens.changes;
}

-- the branch that it stands for: staged is what stands under the staging token, sealed what the sealed tokens say
abbrev pub branch_of : BranchStateValue → Branch
branch_of b =
    record { head = b.head; sealed = layers_of b.tokens b.sealed; staged = changes_under b.tokens b.staging }

-- a branch without changes
abbrev pub new_branch : ℕ → Digest → ℕ → BranchStateValue
new_branch version head staging =
    record { version = version; head = head; staging = staging; sealed = []; tokens = empty }

-- the tokens that a branch names
abbrev pub tokens_of : BranchStateValue → List ℕ
tokens_of b = b.staging ∷ b.sealed

-- a fresh staging token, and the old one first of the sealed ones; one without changes stays in place
abbrev pub with_fresh : ℕ → BranchStateValue → BranchStateValue
with_fresh fresh b =
    if contains_key b.tokens b.staging then record b { staging = fresh; sealed = b.staging ∷ b.sealed } else b
