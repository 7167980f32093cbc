-- What is found of one kind.
use Rattle.std.specs.Prelude.{◌≡◌, ℕ, Bool, List, Option, Some, None}
use Rattle.lake_base.specs.declared.digest.Digest.{Digest}
use Rattle.lake_values.specs.Commit.{CommitRecordValue}
use Rattle.pair_format.specs.declared.stored.Stored.{Stored}
use Rattle.pair_format.specs.declared.stored.Stored.TheVariants as stored
use Rattle.pair_trees.specs.Things.{IsThere, Things}

-- the bytes of a metarange and of a range, and a commit, where this is one
abbrev pub metarange_part : Stored → Option (List ℕ)
metarange_part (stored.MetaRange name bytes) = Some bytes
metarange_part _ = None

abbrev pub range_part : Stored → Option (List ℕ)
range_part (stored.Range name bytes) = Some bytes
range_part _ = None

abbrev pub commit_part : Stored → Option (Bool × CommitRecordValue)
commit_part (stored.Commit repo id expired commit) = Some (expired, commit)
commit_part _ = None

abbrev pub counts_part : Stored → Option (ℕ × ℕ × ℕ)
counts_part (stored.Counts number version token) = Some (number, version, token)
counts_part _ = None

-- these are the bytes of the metarange of a name, and of the range of a name
pub record IsOnlyMetaRange (things : Things) (name : Digest) (bytes : List ℕ) : Type 0 where
  pub there : IsThere things (stored.MetaRange name bytes)
  pub only : (other : List ℕ) → IsThere things (stored.MetaRange name other) → other ≡ bytes

pub record IsOnlyRange (things : Things) (name : Digest) (bytes : List ℕ) : Type 0 where
  pub there : IsThere things (stored.Range name bytes)
  pub only : (other : List ℕ) → IsThere things (stored.Range name other) → other ≡ bytes

-- this is the commit of an id in a repository
pub record IsOnlyCommit (things : Things) (repo : List ℕ) (id : Digest) (expired : Bool) (commit : CommitRecordValue) : Type 0 where
  pub there : IsThere things (stored.Commit repo id expired commit)
  pub only : (old : Bool) (other : CommitRecordValue) → IsThere things (stored.Commit repo id old other) → (old ≡ expired) × (other ≡ commit)

-- these are the counts that are there, and no others are
pub record AreCounts (things : Things) (counts : ℕ × ℕ × ℕ) : Type 0 where
  pub there : IsThere things (stored.Counts counts.0 counts.1 counts.2)
  pub only : (number version token : ℕ) → IsThere things (stored.Counts number version token)
      → (number ≡ counts.0) × (version ≡ counts.1) × (token ≡ counts.2)
