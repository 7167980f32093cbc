-- Commits of one id are one.
use Rattle.std.specs.Prelude.{◌≡◌, ◌<◌, ℕ, Bool, List, Option, Some, None}
use Rattle.lake_base.specs.declared.digest.Digest.{Digest}
use Rattle.lake_values.specs.Commit.{CommitRecordValue}
use Rattle.lake_format.specs.Spelling.{commit_spelling}
use Rattle.pair_format.specs.declared.stored.Stored.{Stored}
use Rattle.pair_format.specs.declared.stored.Stored.TheVariants as stored
use Rattle.pair_trees.specs.Things.{Spells, Things, thing_at}

-- a commit, where this is one
abbrev pub commit_at : Option Stored → Option CommitRecordValue
commit_at (Some (stored.Commit repo id expired commit)) = Some commit
commit_at _ = None

-- each commit of this id in an earlier pair is this one
abbrev pub IsOneCommit : Things → ℕ → Digest → CommitRecordValue → Type 0
IsOneCommit things n id commit = (k : ℕ) (home : List ℕ) (expired : Bool) (other : CommitRecordValue) → k < n
    → Spells things k (stored.Commit home id expired other) → other ≡ commit

-- the commit at a place has these bytes
pub record HasBytesAt (things : Things) (n : ℕ) (bytes : List ℕ) : Type 0 where
  pub commit : CommitRecordValue
  pub there : commit_at (thing_at things n) ≡ Some commit
  pub same : commit_spelling commit ≡ bytes
