-- The ties of pairs. What follows has to be so of pair n, beside that it is of a form.
use Rattle.std.specs.Prelude.{◌≡◌, ◌<◌, ◌^◌, ◌++◌, true, false, ℕ, Bool, List, ◌∷◌, length, take, IfSome, IsSomeAnd}
use Rattle.std.specs.List.{Contains}
use Rattle.lake_base.specs.declared.digest.Digest.{Digest}
use Rattle.lake_values.specs.Ancestry.{IsDue}
use Rattle.lake_values.specs.Commit.{CommitRecordValue}
use Rattle.lake_values.specs.declared.entry.Change.{Change}
use Rattle.lake_values.specs.declared.settings.NoteName.{NoteName}
use Rattle.lake_format.specs.Spelling.{commit_id}
use Rattle.lake_format.specs.declared.cut.Cut.{Cut}
use Rattle.branch_record.specs.Record.{AreDistinct, is_among}
use Rattle.lake_model.specs.Uncommitted.{put_number}
use Rattle.pair_format.specs.declared.key.OwnedKey.TheVariants as key
use Rattle.pair_format.specs.declared.stored.Stored.{Stored}
use Rattle.pair_format.specs.declared.stored.Stored.TheVariants as stored
use Rattle.pair_trees.specs.Things.{Things, Spells, IsThere, HasKey, HasLiveCommit, IsGivenNumber, IsGivenVersion, IsGivenToken, IsGone, commits_in}
use Rattle.pair_trees.specs.Things.{thing_at, tokens_named}
use Rattle.pair_trees.specs.PairTrees.{IsReadMetaRange, IsReadRange, numbers_in}
use Rattle.pair_trees.specs.SettingTexts.{IsSettingText}

-- ---- of each kind of pair

-- a repository: its default branch is there, and the version of its settings was given out
pub record IsTiedRepository (things : Things) (repo default_branch : List ℕ) (settings : ℕ) : Type 0 where
  pub default : HasKey things (key.Branch repo default_branch)
  pub given : IsGivenVersion things settings

-- a branch: its repository is there, and its head, which isn't expired; its version and its tokens were given out; and no
-- token of it is named twice, by it or by a branch of an earlier pair
pub record IsTiedBranch (things : Things) (n : ℕ) (repo : List ℕ) (version : ℕ) (head : Digest) (tokens : List ℕ) : Type 0 where
  pub repository : HasKey things (key.Repository repo)
  pub live : HasLiveCommit things repo head
  pub given : IsGivenVersion things version
  pub tokens_given : (token : ℕ) → is_among tokens token ≡ true → IsGivenToken things token
  pub distinct : AreDistinct tokens
  pub fresh : (token : ℕ) → is_among tokens token ≡ true → is_among (tokens_named (take n things)) token ≡ false

-- a tag: its repository is there, and its commit, which isn't expired
pub record IsTiedTag (things : Things) (repo : List ℕ) (commit : Digest) : Type 0 where
  pub repository : HasKey things (key.Repository repo)
  pub live : HasLiveCommit things repo commit

-- a commit: its repository is there, and its parents; its generation is the one due; its id is the SHA-256 of its bytes; and
-- a commit of this id in an earlier pair, of another repository, is the same
pub record IsTiedCommit (things : Things) (n : ℕ) (repo : List ℕ) (id : Digest) (commit : CommitRecordValue) : Type 0 where
  pub repository : HasKey things (key.Repository repo)
  pub due : IsDue (commits_in repo things) id
  pub named : commit_id commit ≡ id
  pub same : (k : ℕ) (home : List ℕ) (expired : Bool) (other : CommitRecordValue) → k < n
      → Spells things k (stored.Commit home id expired other) → other ≡ commit

-- A metarange, where the tree of a commit has it that is read: a range of this name that such a tree has is the same file.
-- Its pair is the later one, since pairs of ranges stand before those of metaranges.
pub record IsTiedMetaRange (cut : Cut) (things : Things) (name : Digest) (bytes : List ℕ) : Type 0 where
  pub same : (expired : Bool) (other : List ℕ) → IsReadMetaRange cut things name bytes → IsReadRange cut things expired name other
      → other ≡ bytes

-- a range, where the tree of a commit has it that is read: its numbers were given out, and where such a commit isn't expired
-- none of them is gone
pub record IsTiedRange (cut : Cut) (things : Things) (name : Digest) (bytes : List ℕ) : Type 0 where
  pub given : (expired : Bool) (number : ℕ) → IsReadRange cut things expired name bytes → Contains (numbers_in bytes) number
      → IsGivenNumber things number
  pub apart : (number : ℕ) → IsReadRange cut things false name bytes → Contains (numbers_in bytes) number
      → IsGone things number → ⊥

-- A change under a sealed token is hidden where its branch has another at the path under a newer sealed token: then no
-- reading finds it, and it names no number.
pub record IsHidden (things : Things) (token : ℕ) (path : List ℕ) : Type 0 where
  pub repo : List ℕ
  pub branch : List ℕ
  pub version : ℕ
  pub head : Digest
  pub staging : ℕ
  pub newer : List ℕ
  pub older : List ℕ
  pub there : IsThere things (stored.Branch repo branch version head staging (newer ++ token ∷ older))
  pub over : ℕ
  pub among : Contains newer over
  pub changed : HasKey things (key.Staged over path)

-- a change under a token: a branch names the token; the number that it puts was given out; and where that is gone, the change
-- is hidden
pub record IsTiedStaged (things : Things) (token : ℕ) (path : List ℕ) (change : Change) : Type 0 where
  pub held : is_among (tokens_named things) token ≡ true
  pub given : IfSome (put_number change) (λ number. IsGivenNumber things number)
  pub apart : IfSome (put_number change) (λ number. IsGone things number → IsHidden things token path)

-- a setting: its repository is there, and its text is the text of a setting of its name
pub record IsTiedNote (things : Things) (repo : List ℕ) (name : NoteName) (text : List ℕ) : Type 0 where
  pub repository : HasKey things (key.Repository repo)
  pub kept : IsSettingText name text

-- what is given out next: each below 2^63, and a version above 0
pub record IsTiedCounts (number version token : ℕ) : Type 0 where
  pub small_number : number < 2 ^ 63
  pub small_version : version < 2 ^ 63
  pub small_token : token < 2 ^ 63
  pub some_version : 0 < version

-- ---- of all pairs

-- pair n, which spells this, is tied; a number that is gone was given out
abbrev pub IsTied : Cut → Things → ℕ → Stored → Type 0
IsTied cut things n (stored.Repository repo created default_branch settings) = IsTiedRepository things repo default_branch settings
IsTied cut things n (stored.Branch repo branch version head staging sealed) =
    IsTiedBranch things n repo version head (staging ∷ sealed)
IsTied cut things n (stored.Tag repo tag commit) = IsTiedTag things repo commit
IsTied cut things n (stored.Commit repo id expired commit) = IsTiedCommit things n repo id commit
IsTied cut things n (stored.MetaRange name bytes) = IsTiedMetaRange cut things name bytes
IsTied cut things n (stored.Range name bytes) = IsTiedRange cut things name bytes
IsTied cut things n (stored.Staged token path change) = IsTiedStaged things token path change
IsTied cut things n (stored.Note repo name text) = IsTiedNote things repo name text
IsTied cut things n (stored.Gone number) = IsGivenNumber things number
IsTied cut things n (stored.Counts number version token) = IsTiedCounts number version token

-- pair n is of a form, and tied
abbrev pub IsTiedAt : Cut → Things → ℕ → Type 0
IsTiedAt cut things n = IsSomeAnd (thing_at things n) (IsTied cut things n)

-- the counts are there, and each pair is of a form and tied
pub record AreTied (cut : Cut) (things : Things) : Type 0 where
  pub counts : HasKey things key.Counts
  pub each : (n : ℕ) → n < length things → IsTiedAt cut things n
