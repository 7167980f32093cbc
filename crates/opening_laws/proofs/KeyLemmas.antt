-- What has a key, by the kind of the key.
use Rattle.std.proofs.Common.{◌≡◌, ℕ, Bool, List, ap}
use Rattle.lake_base.specs.declared.digest.Digest.{Digest}
use Rattle.lake_values.specs.Commit.{CommitRecordValue}
use Rattle.lake_values.specs.declared.entry.Change.{Change}
use Rattle.pair_format.specs.declared.key.OwnedKey.TheVariants as key
use Rattle.pair_format.specs.declared.stored.Stored.{Stored}
use Rattle.pair_format.specs.declared.stored.Stored.TheVariants as stored
use Rattle.pair_format.specs.PairSpelling.{key_of}

-- a repository of a name
pub record IsRepositoryThing (s : Stored) (repo : List ℕ) : Type 0 where
  pub created : ℕ
  pub default_branch : List ℕ
  pub settings : ℕ
  pub is : s ≡ stored.Repository repo created default_branch settings

pub repository_of_key : (s : Stored) (repo : List ℕ) → key_of s ≡ key.Repository repo → IsRepositoryThing s repo
repository_of_key (stored.Repository home created default_branch settings) repo e =
    let same : home ≡ repo = cc in
    record {
      created = created;
      default_branch = default_branch;
      settings = settings;
      is = ap (λ r. stored.Repository r created default_branch settings) same;
    }
repository_of_key (stored.Branch home branch version head staging sealed) repo e = absurd cc
repository_of_key (stored.Tag home tag commit) repo e = absurd cc
repository_of_key (stored.Commit home id expired commit) repo e = absurd cc
repository_of_key (stored.MetaRange name bytes) repo e = absurd cc
repository_of_key (stored.Range name bytes) repo e = absurd cc
repository_of_key (stored.Staged token path change) repo e = absurd cc
repository_of_key (stored.Note home name text) repo e = absurd cc
repository_of_key (stored.Gone number) repo e = absurd cc
repository_of_key (stored.Counts number version token) repo e = absurd cc

-- a branch of a name
pub record IsBranchThing (s : Stored) (repo branch : List ℕ) : Type 0 where
  pub version : ℕ
  pub head : Digest
  pub staging : ℕ
  pub sealed : List ℕ
  pub is : s ≡ stored.Branch repo branch version head staging sealed

pub branch_of_key : (s : Stored) (repo branch : List ℕ) → key_of s ≡ key.Branch repo branch → IsBranchThing s repo branch
branch_of_key (stored.Branch home name version head staging sealed) repo branch e =
    let same : home ≡ repo = cc in
    let named : name ≡ branch = cc in
    record {
      version = version;
      head = head;
      staging = staging;
      sealed = sealed;
      is = λ i. stored.Branch (same i) (named i) version head staging sealed;
    }
branch_of_key (stored.Repository home created default_branch settings) repo branch e = absurd cc
branch_of_key (stored.Tag home tag commit) repo branch e = absurd cc
branch_of_key (stored.Commit home id expired commit) repo branch e = absurd cc
branch_of_key (stored.MetaRange name bytes) repo branch e = absurd cc
branch_of_key (stored.Range name bytes) repo branch e = absurd cc
branch_of_key (stored.Staged token path change) repo branch e = absurd cc
branch_of_key (stored.Note home name text) repo branch e = absurd cc
branch_of_key (stored.Gone number) repo branch e = absurd cc
branch_of_key (stored.Counts number version token) repo branch e = absurd cc

-- a commit of an id in a repository
pub record IsCommitThing (s : Stored) (repo : List ℕ) (id : Digest) : Type 0 where
  pub expired : Bool
  pub commit : CommitRecordValue
  pub is : s ≡ stored.Commit repo id expired commit

pub commit_of_key : (s : Stored) (repo : List ℕ) (id : Digest) → key_of s ≡ key.Commit repo id → IsCommitThing s repo id
commit_of_key (stored.Commit home other expired commit) repo id e =
    let same : home ≡ repo = cc in
    let named : other ≡ id = cc in
    record { expired = expired; commit = commit; is = λ i. stored.Commit (same i) (named i) expired commit }
commit_of_key (stored.Repository home created default_branch settings) repo id e = absurd cc
commit_of_key (stored.Branch home branch version head staging sealed) repo id e = absurd cc
commit_of_key (stored.Tag home tag commit) repo id e = absurd cc
commit_of_key (stored.MetaRange name bytes) repo id e = absurd cc
commit_of_key (stored.Range name bytes) repo id e = absurd cc
commit_of_key (stored.Staged token path change) repo id e = absurd cc
commit_of_key (stored.Note home name text) repo id e = absurd cc
commit_of_key (stored.Gone number) repo id e = absurd cc
commit_of_key (stored.Counts number version token) repo id e = absurd cc

-- a change at a path under a token
pub record IsStagedThing (s : Stored) (token : ℕ) (path : List ℕ) : Type 0 where
  pub change : Change
  pub is : s ≡ stored.Staged token path change

pub staged_of_key : (s : Stored) (token : ℕ) (path : List ℕ) → key_of s ≡ key.Staged token path → IsStagedThing s token path
staged_of_key (stored.Staged other at change) token path e =
    let same : other ≡ token = cc in
    let there : at ≡ path = cc in
    record { change = change; is = λ i. stored.Staged (same i) (there i) change }
staged_of_key (stored.Repository home created default_branch settings) token path e = absurd cc
staged_of_key (stored.Branch home branch version head staging sealed) token path e = absurd cc
staged_of_key (stored.Tag home tag commit) token path e = absurd cc
staged_of_key (stored.Commit home id expired commit) token path e = absurd cc
staged_of_key (stored.MetaRange name bytes) token path e = absurd cc
staged_of_key (stored.Range name bytes) token path e = absurd cc
staged_of_key (stored.Note home name text) token path e = absurd cc
staged_of_key (stored.Gone number) token path e = absurd cc
staged_of_key (stored.Counts number version next) token path e = absurd cc

-- a number that is gone
pub gone_of_key : (s : Stored) (number : ℕ) → key_of s ≡ key.Gone number → s ≡ stored.Gone number
gone_of_key (stored.Gone other) number e = let same : other ≡ number = cc in ap stored.Gone same
gone_of_key (stored.Repository home created default_branch settings) number e = absurd cc
gone_of_key (stored.Branch home branch version head staging sealed) number e = absurd cc
gone_of_key (stored.Tag home tag commit) number e = absurd cc
gone_of_key (stored.Commit home id expired commit) number e = absurd cc
gone_of_key (stored.MetaRange name bytes) number e = absurd cc
gone_of_key (stored.Range name bytes) number e = absurd cc
gone_of_key (stored.Staged token path change) number e = absurd cc
gone_of_key (stored.Note home name text) number e = absurd cc
gone_of_key (stored.Counts other version token) number e = absurd cc
