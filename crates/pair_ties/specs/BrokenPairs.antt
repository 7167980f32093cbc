-- The first broken pair. No pair is blamed for another that isn't of a form: whether something is there is asked of keys, and
-- of what is there only what can be read.
use Rattle.std.specs.Prelude.{◌≡◌, ◌<◌, ◌⊎◌, true, false, ℕ, List, [], ◌∷◌, ◌++◌, length, map, take, IfSome, IsSomeAnd}
use Rattle.std.specs.List.{AllByRecursion, Contains}
use Rattle.lake_base.specs.declared.digest.Digest.{Digest}
use Rattle.lake_values.specs.Ancestry.{IsDue}
use Rattle.lake_values.specs.Commit.{CommitRecordValue}
use Rattle.lake_values.specs.declared.entry.Change.{Change}
use Rattle.lake_format.specs.Spelling.{commit_id}
use Rattle.lake_format.specs.declared.cut.Cut.{Cut}
use Rattle.branch_record.specs.Record.{AreDistinct, is_among}
use Rattle.lake_model.specs.Uncommitted.{put_number}
use Rattle.pair_format.specs.declared.key.OwnedKey.{OwnedKey}
use Rattle.pair_format.specs.declared.key.OwnedKey.TheVariants as key
use Rattle.pair_format.specs.declared.pair.Pair.{Pair}
use Rattle.pair_format.specs.declared.stored.Stored.{Stored}
use Rattle.pair_format.specs.declared.stored.Stored.TheVariants as stored
use Rattle.pair_format.specs.PairSpelling.{key_spelling}
use Rattle.pair_trees.specs.SettingTexts.{IsSettingText}
use Rattle.pair_trees.specs.Things.{HasCountsPair, HasKey, IsGivenNumber, IsGivenToken, IsGivenVersion, IsGone, IsThere}
use Rattle.pair_trees.specs.Things.{Things, commits_in, thing_at, things_of, tokens_named}
use Rattle.pair_ties.specs.OneCommit.{IsOneCommit}
use Rattle.pair_ties.specs.PairTies.{IsTiedCounts, IsTiedMetaRange, IsTiedRange}

-- ---- what has to be there

-- a pair has this key, whatever it spells
abbrev pub HasPair : List Pair → OwnedKey → Type 0
HasPair pairs k = (value : List ℕ) × Contains pairs (record { key = key_spelling k; value = value })

-- the keys of what a pair names: a repository its default branch; a branch its repository and its head; a tag its repository and
-- its commit; a commit its repository and its parents; a setting its repository
abbrev pub keys_named : Stored → List OwnedKey
keys_named (stored.Repository repo created default_branch settings) = key.Branch repo default_branch ∷ []
keys_named (stored.Branch repo branch version head staging sealed) = key.Repository repo ∷ key.Commit repo head ∷ []
keys_named (stored.Tag repo tag commit) = key.Repository repo ∷ key.Commit repo commit ∷ []
keys_named (stored.Commit repo id expired commit) = key.Repository repo ∷ map (key.Commit repo) commit.parents
keys_named (stored.Note repo name text) = key.Repository repo ∷ []
keys_named _ = []

-- ---- what can be read

-- a commit can be read, and is expired
pub record IsExpired (things : Things) (repo : List ℕ) (id : Digest) : Type 0 where
  pub commit : CommitRecordValue
  pub there : IsThere things (stored.Commit repo id true commit)

-- each of these commits can be read
abbrev pub AreRead : Things → List ℕ → List Digest → Type 0
AreRead things repo ids = (id : Digest) → Contains ids id → HasKey things (key.Commit repo id)

-- a branch has sealed both tokens, this one later than that
pub record IsSealedOver (things : Things) (over token : ℕ) : Type 0 where
  pub repo : List ℕ
  pub branch : List ℕ
  pub version : ℕ
  pub head : Digest
  pub staging : ℕ
  pub newer : List ℕ
  pub older : List ℕ
  pub there : IsThere things (stored.Branch repo branch version head staging (newer ++ token ∷ older))
  pub among : Contains newer over

-- ---- what is right of each kind of pair

-- a branch: its head isn't read as expired; its version and its tokens were given out; and no token of it is named twice, by it
-- or by a branch of an earlier pair
pub record IsRightBranch (things : Things) (n : ℕ) (repo : List ℕ) (version : ℕ) (head : Digest) (tokens : List ℕ) : Type 0 where
  pub live : IsExpired things repo head → ⊥
  pub given : IsGivenVersion things version
  pub tokens_given : (token : ℕ) → is_among tokens token ≡ true → IsGivenToken things token
  pub distinct : AreDistinct tokens
  pub fresh : (token : ℕ) → is_among tokens token ≡ true → is_among (tokens_named (take n things)) token ≡ false

-- a commit: where its parents can be read, its generation is the one due; its id is the SHA-256 of its bytes; and a commit of
-- this id in an earlier pair, of another repository, is the same
pub record IsRightCommit (things : Things) (n : ℕ) (repo : List ℕ) (id : Digest) (commit : CommitRecordValue) : Type 0 where
  pub due : AreRead things repo commit.parents → IsDue (commits_in repo things) id
  pub named : commit_id commit ≡ id
  pub same : IsOneCommit things n id commit

-- a change under a token: a branch names the token; the number that it puts was given out; and where that is gone, a pair has
-- the key of a change of the path under a token that its branch sealed later
pub record IsRightStaged (pairs : List Pair) (things : Things) (token : ℕ) (path : List ℕ) (change : Change) : Type 0 where
  pub held : is_among (tokens_named things) token ≡ true
  pub given : IfSome (put_number change) (λ number. IsGivenNumber things number)
  pub apart : IfSome (put_number change) (λ number. IsGone things number
      → (over : ℕ) × IsSealedOver things over token × HasPair pairs (key.Staged over path))

-- What pair n spells is right, as far as it can be read. The others are as they are tied: what they name stands before them.
abbrev pub IsRight : Cut → List Pair → Things → ℕ → Stored → Type 0
IsRight cut pairs things n (stored.Repository repo created default_branch settings) = IsGivenVersion things settings
IsRight cut pairs things n (stored.Branch repo branch version head staging sealed) =
    IsRightBranch things n repo version head (staging ∷ sealed)
IsRight cut pairs things n (stored.Tag repo tag commit) = IsExpired things repo commit → ⊥
IsRight cut pairs things n (stored.Commit repo id expired commit) = IsRightCommit things n repo id commit
IsRight cut pairs things n (stored.MetaRange name bytes) = IsTiedMetaRange cut things name bytes
IsRight cut pairs things n (stored.Range name bytes) = IsTiedRange cut things name bytes
IsRight cut pairs things n (stored.Staged token path change) = IsRightStaged pairs things token path change
IsRight cut pairs things n (stored.Note repo name text) = IsSettingText name text
IsRight cut pairs things n (stored.Gone number) = IsGivenNumber things number
IsRight cut pairs things n (stored.Counts number version token) = IsTiedCounts number version token

-- ---- of all pairs

-- Pair n, which spells this, isn't to blame: a pair has each key that it names, and what can be read of it is right. Where each
-- pair is of a form and none is to blame, they are tied.
pub record IsBlameless (cut : Cut) (pairs : List Pair) (things : Things) (n : ℕ) (s : Stored) : Type 0 where
  pub there : AllByRecursion (HasPair pairs) (keys_named s)
  pub right : IsRight cut pairs things n s

-- pair n is of a form, and isn't to blame
abbrev pub IsBlamelessAt : Cut → List Pair → Things → ℕ → Type 0
IsBlamelessAt cut pairs things n = IsSomeAnd (thing_at things n) (IsBlameless cut pairs things n)

-- so is each pair before pair n
abbrev pub AreBlamelessBefore : Cut → List Pair → Things → ℕ → Type 0
AreBlamelessBefore cut pairs things n = (k : ℕ) → k < n → IsBlamelessAt cut pairs things k

-- pair n isn't of a form, or is to blame, and each pair before it is of a form and isn't
pub record IsFirstBlamed (cut : Cut) (pairs : List Pair) (n : ℕ) : Type 0 where
  pub counts : HasCountsPair pairs
  pub within : n < length pairs
  pub before : AreBlamelessBefore cut pairs (things_of pairs) n
  pub broken : IsBlamelessAt cut pairs (things_of pairs) n → ⊥

-- The first broken pair: the first that isn't of a form or is to blame; and number 0 where no pair has the key of the counts.
-- A pair of that key that isn't of its form is broken itself, and nothing is below what it would tell.
abbrev pub IsFirstBroken : Cut → List Pair → ℕ → Type 0
IsFirstBroken cut pairs n = ((HasCountsPair pairs → ⊥) × (n ≡ 0)) ⊎ IsFirstBlamed cut pairs n
