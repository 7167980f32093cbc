-- What pairs spell, and what is there among it.
use Rattle.std.specs.Prelude.{◌≡◌, ◌<◌, true, false, ℕ, Bool, List, [], ◌∷◌, map, slice_get, Option, Some, None, option_and_then, if◌then◌else◌}
use Rattle.std.specs.List.{Contains, filter_map, flat_map}
use Rattle.std.specs.Result.{result_ok}
use Rattle.std.specs.Str.{bytes_eq}
use Rattle.std.specs.FinMap.{from_sorted}
use Rattle.lake_base.specs.declared.digest.Digest.{Digest}
use Rattle.lake_values.specs.Ancestry.{Graph, graph_of}
use Rattle.lake_values.specs.Commit.{CommitRecordValue}
use Rattle.pair_format.specs.declared.key.OwnedKey.{OwnedKey}
use Rattle.pair_format.specs.declared.key.OwnedKey.TheVariants as key
use Rattle.pair_format.specs.declared.pair.Pair.{Pair}
use Rattle.pair_format.specs.declared.stored.Stored.{Stored}
use Rattle.pair_format.specs.declared.stored.Stored.TheVariants as stored
use Rattle.pair_format.specs.PairReading.{pair_from}
use Rattle.pair_format.specs.PairSpelling.{key_of}
use Rattle.keeper.specs.Keepers.{KeptPairs, entries_of}

-- pairs whose keys ascend, as a keeper keeps them
abbrev pub kept_of : List Pair → KeptPairs
kept_of pairs = from_sorted (entries_of pairs)

-- what pairs spell, one after the other; a pair that isn't of a form spells nothing
abbrev pub Things : Type 0
Things = List (Option Stored)

-- what a pair spells
abbrev pub thing_of : Pair → Option Stored
thing_of pair = result_ok (pair_from pair.key pair.value)

-- what each of these pairs spells
abbrev pub things_of : List Pair → Things
things_of pairs = map thing_of pairs

-- what pair n spells; pairs are numbered from 0
abbrev pub thing_at : Things → ℕ → Option Stored
thing_at things n = option_and_then (λ thing. thing) (slice_get things n)

-- pair n spells this
abbrev pub Spells : Things → ℕ → Stored → Type 0
Spells things n s = thing_at things n ≡ Some s

-- ---- what is there

-- this is there: some pair spells it
abbrev pub IsThere : Things → Stored → Type 0
IsThere things s = Contains things (Some s)

-- something of this key is there
pub record HasKey (things : Things) (k : OwnedKey) : Type 0 where
  pub thing : Stored
  pub there : IsThere things thing
  pub under : key_of thing ≡ k

-- this is there, under this key, and nothing else is
pub record IsFound (things : Things) (k : OwnedKey) (s : Stored) : Type 0 where
  pub there : IsThere things s
  pub under : key_of s ≡ k
  pub only : (other : Stored) → IsThere things other → key_of other ≡ k → other ≡ s

-- this pair has the key of the counts
abbrev pub is_counts_pair : Pair → Bool
is_counts_pair pair = bytes_eq pair.key (90 ∷ [])

-- a pair has the key of the counts, whatever it spells
abbrev pub HasCountsPair : List Pair → Type 0
HasCountsPair pairs = (value : List ℕ) × Contains pairs (record { key = 90 ∷ []; value = value })

-- a commit of a repository is there, and isn't expired
pub record HasLiveCommit (things : Things) (repo : List ℕ) (id : Digest) : Type 0 where
  pub commit : CommitRecordValue
  pub there : IsThere things (stored.Commit repo id false commit)

-- a commit, where this is one of the repository
abbrev pub commit_in : List ℕ → Option Stored → Option (Digest × CommitRecordValue)
commit_in repo (Some (stored.Commit home id expired commit)) = if bytes_eq home repo then Some (id, commit) else None
commit_in repo _ = None

-- the commits of a repository that are there, by their ids
unfoldable pub commits_in : List ℕ → Things → Graph
commits_in repo things = graph_of (filter_map (commit_in repo) things)

-- ---- what was given out

-- a number of an object, a version and a token that were given out: each is below the next one
abbrev pub IsGivenNumber : Things → ℕ → Type 0
IsGivenNumber things given = (number version token : ℕ) → IsThere things (stored.Counts number version token) → given < number

abbrev pub IsGivenVersion : Things → ℕ → Type 0
IsGivenVersion things given = (number version token : ℕ) → IsThere things (stored.Counts number version token) → given < version

abbrev pub IsGivenToken : Things → ℕ → Type 0
IsGivenToken things given = (number version token : ℕ) → IsThere things (stored.Counts number version token) → given < token

-- a number of an object is gone
abbrev pub IsGone : Things → ℕ → Type 0
IsGone things number = HasKey things (key.Gone number)

-- ---- kinds

-- a branch, and a change under a token
abbrev pub is_branch : Stored → Bool
is_branch (stored.Branch repo branch version head staging sealed) = true
is_branch _ = false

abbrev pub is_staged : Stored → Bool
is_staged (stored.Staged token path change) = true
is_staged _ = false

-- ---- tokens

-- the tokens that a branch names, the staging token first
abbrev pub tokens_in : Option Stored → List ℕ
tokens_in (Some (stored.Branch repo branch version head staging sealed)) = staging ∷ sealed
tokens_in _ = []

-- the tokens that the branches among these name
abbrev pub tokens_named : Things → List ℕ
tokens_named things = flat_map tokens_in things
