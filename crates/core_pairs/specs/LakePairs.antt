-- The pairs that stand for a lake in memory.
use Rattle.std.specs.Prelude.{◌≡◌, ◌⊎◌, true, false, ℕ, List, Some, IsSomeAnd}
use Rattle.std.specs.FinMap.{contains_key, empty, get}
use Rattle.lake_base.specs.declared.digest.Digest.{Digest}
use Rattle.lake_values.specs.Ancestry.{commit_of}
use Rattle.lake_values.specs.declared.entry.Change.{Change}
use Rattle.lake_format.specs.Spelling.{file_name}
use Rattle.meta_range.specs.Ranges.{TreeValue}
use Rattle.branch_record.specs.Record.{is_among}
use Rattle.branch_record.specs.Tokens.{changes_under}
use Rattle.lake_model.specs.NoteChanges.{note_at}
use Rattle.pair_format.specs.declared.stored.Stored.{Stored}
use Rattle.pair_format.specs.declared.stored.Stored.TheVariants as stored
use Rattle.pair_format.specs.PairSpelling.{IsSpelledStored, key_of, key_spelling, value_spelling}
use Rattle.keeper.specs.Keepers.{KeptPairs}
use Rattle.core_state.specs.BranchStates.{BranchStateValue, tokens_of}
use Rattle.core_state.specs.RepositoryStates.{RepositoryStateValue}
use Rattle.core_state.specs.LakeStates.{LakeStateValue}
use Rattle.core_puts.specs.Puts.{branch_at, note_text}
pub use Rattle.core_changes.specs.NewPlaces.{IsMetaRangeOf, IsRangeOf}

-- ---- what stands in a lake

-- the lake has this repository, of which P holds
abbrev pub HasRepositoryIn : LakeStateValue → List ℕ → (RepositoryStateValue → Type 0) → Type 0
HasRepositoryIn l repo P = IsSomeAnd (get l.repositories repo) P

-- the lake has this branch, of which P holds
abbrev pub HasBranchIn : LakeStateValue → List ℕ → List ℕ → (BranchStateValue → Type 0) → Type 0
HasBranchIn l repo branch P = IsSomeAnd (branch_at repo branch l) P

-- the tree of some commit of the lake
abbrev pub IsTreeIn : LakeStateValue → TreeValue → Type 0
IsTreeIn l tree = (repo : List ℕ) × ((id : List ℕ) × HasRepositoryIn l repo (λ r. get r.trees id ≡ Some tree))

-- some branch of the lake has this change at the path, under the token
abbrev pub IsChangeIn : LakeStateValue → ℕ → List ℕ → Change → Type 0
IsChangeIn l token path change = (repo : List ℕ) × ((branch : List ℕ)
    × HasBranchIn l repo branch (λ b. get (changes_under b.tokens token) path ≡ Some change))

-- It stands in a lake: a repository, a branch and a tag as the lake has them; a commit, expired or not; the metarange and the
-- ranges of the tree of each commit, under their names; each change under a token; the text of each setting that is set; each
-- number that is gone; and what the lake gives out next.
abbrev pub StandsIn : LakeStateValue → Stored → Type 0
StandsIn l (stored.Repository repo created default_branch settings) =
    HasRepositoryIn l repo (λ r. (r.created ≡ created) × ((r.default_branch ≡ default_branch) × (r.settings ≡ settings)))
StandsIn l (stored.Branch repo branch version head staging sealed) = HasBranchIn l repo branch
    (λ b. (b.version ≡ version) × ((b.head ≡ head) × ((b.staging ≡ staging) × (b.sealed ≡ sealed))))
StandsIn l (stored.Tag repo tag commit) = HasRepositoryIn l repo (λ r. get r.tags tag ≡ Some commit)
StandsIn l (stored.Commit repo id expired commit) =
    HasRepositoryIn l repo (λ r. (commit_of r.commits id ≡ Some commit) × (contains_key r.expired id.0 ≡ expired))
StandsIn l (stored.MetaRange name bytes) =
    (file_name bytes ≡ name) × ((tree : TreeValue) × (IsTreeIn l tree × IsMetaRangeOf tree bytes))
StandsIn l (stored.Range name bytes) =
    (file_name bytes ≡ name) × ((tree : TreeValue) × (IsTreeIn l tree × IsRangeOf tree bytes))
StandsIn l (stored.Staged token path change) = IsChangeIn l token path change
StandsIn l (stored.Note repo name text) =
    HasRepositoryIn l repo (λ r. IsSomeAnd (note_at name r.notes) (λ note. note_text note ≡ text))
StandsIn l (stored.Gone number) = contains_key l.gone number ≡ true
StandsIn l (stored.Counts number version token) =
    (l.next_number ≡ number) × ((l.next_version ≡ version) × (l.next_token ≡ token))

-- ---- the pairs of a lake

-- a file, a metarange or a range
abbrev pub IsFile : Stored → Type 0
IsFile (stored.MetaRange name bytes) = Unit {0}
IsFile (stored.Range name bytes) = Unit {0}
IsFile _ = ⊥

-- a pair of a file, within the limits of the format
abbrev pub IsFilePair : List ℕ → List ℕ → Type 0
IsFilePair bytes value =
    (s : Stored) × (IsFile s × (IsSpelledStored s × ((bytes ≡ key_spelling (key_of s)) × (value ≡ value_spelling s))))

-- a pair of something that stands in a lake
abbrev pub IsPairIn : LakeStateValue → List ℕ → List ℕ → Type 0
IsPairIn l bytes value =
    (s : Stored) × (StandsIn l s × ((bytes ≡ key_spelling (key_of s)) × (value ≡ value_spelling s)))

-- Pairs stand for a lake: all that stands in it can be spelled, and has its pair; and each pair is of something that stands in
-- it, or of a file that no commit needs. The entries of its history, its unfinished uploads and whether it is stopped stand in
-- no pair: so they stand for a lake put to rest.
pub record StandFor (pairs : KeptPairs) (l : LakeStateValue) : Type 0 where
  pub spelled : (s : Stored) → StandsIn l s → IsSpelledStored s
  pub each : (s : Stored) → StandsIn l s → get pairs (key_spelling (key_of s)) ≡ Some (value_spelling s)
  pub only : (bytes value : List ℕ) → get pairs bytes ≡ Some value → IsPairIn l bytes value ⊎ IsFilePair bytes value

-- a lake put to rest: it has no unfinished uploads and no entries, and isn't stopped, and is otherwise as it was
abbrev pub at_rest : LakeStateValue → LakeStateValue
at_rest l = record l { tickets = empty; stopped = false; entries = 0; references = 0 }

-- ---- what else is so of a lake whose pairs can be read again

-- two branches that name one token are the same
pub record AreTokensApart (l : LakeStateValue) : Type 0 where
  pub apart : (token : ℕ) (repo branch other_repo other : List ℕ)
      → HasBranchIn l repo branch (λ b. is_among (tokens_of b) token ≡ true)
      → HasBranchIn l other_repo other (λ b. is_among (tokens_of b) token ≡ true)
      → (repo ≡ other_repo) × (branch ≡ other)
  -- changes stand only under tokens that their branch names
  pub named : (token : ℕ) (repo branch : List ℕ) → HasBranchIn l repo branch (λ b. contains_key b.tokens token ≡ true)
      → HasBranchIn l repo branch (λ b. is_among (tokens_of b) token ≡ true)
