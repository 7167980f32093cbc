-- The record of a branch.
use Rattle.std.specs.Prelude.{ℕ, nat_eq, Bool, List, ◌∷◌, if◌then◌else◌}
use Rattle.std.specs.List.{list_any, IsDistinct}
use Rattle.std.specs.FinMap.{contains_key}
use Rattle.lake_base.specs.declared.digest.Digest.{Digest}
use Rattle.branch_record.specs.Tokens.{TokenMap}

-- a record as contracts see it: its version, its head, the token under which changes are staged, the sealed tokens, newest
-- first, and for how many sealed tokens more there is room
pub record BranchRecordValue : Type 0 where
  pub version : ℕ
  pub head : Digest
  pub staging : ℕ
  pub sealed : List ℕ
  pub spare : ℕ

-- the tokens that a record names, newest first
abbrev pub named_tokens : BranchRecordValue → List ℕ
named_tokens r = r.staging ∷ r.sealed

-- whether a token is one of these
abbrev pub is_among : List ℕ → ℕ → Bool
is_among tokens token = list_any (λ named. nat_eq named token) tokens

-- tokens of which no two are the same
abbrev pub AreDistinct : List ℕ → Type 0
AreDistinct tokens = IsDistinct nat_eq tokens

-- The record after a seal: a fresh staging token, and the old one first of the sealed ones. One that has no changes stays
-- in place.
unfoldable pub record_after_seal : BranchRecordValue → TokenMap → ℕ → BranchRecordValue
record_after_seal r tokens fresh =
    if contains_key tokens r.staging then record r { staging = fresh; sealed = r.staging ∷ r.sealed } else r
