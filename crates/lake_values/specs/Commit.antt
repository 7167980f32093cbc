-- Commits, and what is said of one that is to be made.
use Rattle.std.specs.Prelude.{◌≤◌, ℕ, List, length}
use Rattle.lake_base.specs.declared.digest.Digest.{Digest}

-- a commit as contracts see it
pub record CommitRecordValue : Type 0 where
  pub meta_range : Digest
  pub generation : ℕ
  pub date : ℕ
  pub parents : List Digest
  pub committer : List ℕ
  pub message : List ℕ
  pub metadata : List (List ℕ × List ℕ)

-- what is said of a commit
pub record AboutValue : Type 0 where
  pub committer : List ℕ
  pub message : List ℕ
  pub metadata : List (List ℕ × List ℕ)
  pub date : ℕ

-- a committer of 1 to 128 bytes, a message of at most 65,536
pub record IsRemark (committer message : List ℕ) : Type 0 where
  pub some : 1 ≤ length committer
  pub short : length committer ≤ 128
  pub short_message : length message ≤ 65536

-- a generation of at least 1, at most two parents, and a remark within its limits
pub record IsCommit (generation : ℕ) (parents : List Digest) (committer message : List ℕ) : Type 0 where
  pub remark : IsRemark committer message
  pub counted : 1 ≤ generation
  pub few : length parents ≤ 2
