-- The one spelling of what is stored: the bytes of its key and of its value, numbers with their high byte first.
use Rattle.std.specs.Prelude.{◌≡◌, ◌<◌, ◌^◌, ℕ, Bool, true, false, List, [], ◌∷◌, ◌++◌, length, None}
use Rattle.std.specs.List.{flat_map, AllByRecursion}
use Rattle.std.specs.Int.{w32, w64, to_be_bytes}
use Rattle.lake_base.specs.Names.{repo_fault, ref_fault, path_fault, is_like_id}
use Rattle.lake_values.specs.declared.entry.Change.{Change}
use Rattle.lake_values.specs.declared.entry.Change.TheVariants.{Put, Delete}
use Rattle.lake_format.specs.Spelling.{short_text, entry_spelling, commit_spelling, AreBytes, IsDigest, IsEntry, IsSpelledCommit}
use Rattle.pair_format.specs.declared.pair.Pair.{Pair}
use Rattle.pair_format.specs.declared.key.OwnedKey.{OwnedKey}
use Rattle.pair_format.specs.declared.key.OwnedKey.TheVariants as key
use Rattle.pair_format.specs.declared.stored.Stored.{Stored}
use Rattle.pair_format.specs.declared.stored.Stored.TheVariants.{Repository, Branch, Tag, Commit, MetaRange, Range, Staged, Note, Gone, Counts}
use Rattle.pair_format.specs.Keys.{note_number}

-- what stands in the key of what is stored
abbrev pub key_of : Stored → OwnedKey
key_of (Repository repo created default_branch settings) = key.Repository repo
key_of (Branch repo branch version head staging sealed) = key.Branch repo branch
key_of (Tag repo tag commit) = key.Tag repo tag
key_of (Commit repo id expired commit) = key.Commit repo id
key_of (MetaRange name bytes) = key.MetaRange name
key_of (Range name bytes) = key.Range name
key_of (Staged token path change) = key.Staged token path
key_of (Note repo name text) = key.Note repo name
key_of (Gone number) = key.Gone number
key_of (Counts number version token) = key.Counts

-- a key: a letter, and what names the thing, each name behind two bytes of its length, a path to the end
abbrev pub key_spelling : OwnedKey → List ℕ
key_spelling (key.Repository repo) = 82 ∷ short_text repo
key_spelling (key.Branch repo branch) = 66 ∷ (short_text repo ++ short_text branch)
key_spelling (key.Tag repo tag) = 84 ∷ (short_text repo ++ short_text tag)
key_spelling (key.Commit repo id) = 67 ∷ (short_text repo ++ id.0)
key_spelling (key.MetaRange name) = 77 ∷ name.0
key_spelling (key.Range name) = 71 ∷ name.0
key_spelling (key.Staged token path) = 83 ∷ (to_be_bytes w64 token ++ path)
key_spelling (key.Note repo name) = 78 ∷ (short_text repo ++ note_number name ∷ [])
key_spelling (key.Gone number) = 88 ∷ to_be_bytes w64 number
key_spelling key.Counts = 90 ∷ []

-- tokens in their order, behind four bytes of their count
abbrev pub tokens_spelling : List ℕ → List ℕ
tokens_spelling tokens = to_be_bytes w32 (length tokens) ++ flat_map (to_be_bytes w64) tokens

-- a byte that says whether it holds
abbrev pub flag : Bool → ℕ
flag false = 0
flag true = 1

-- 0 for a deletion, or 1 and the entry
abbrev pub change_spelling : Change → List ℕ
change_spelling Delete = 0 ∷ []
change_spelling (Put entry) = 1 ∷ entry_spelling entry

-- a value: its fields, one after the other
abbrev pub value_spelling : Stored → List ℕ
value_spelling (Repository repo created default_branch settings) =
    to_be_bytes w64 created ++ (short_text default_branch ++ to_be_bytes w64 settings)
value_spelling (Branch repo branch version head staging sealed) =
    to_be_bytes w64 version ++ (head.0 ++ (to_be_bytes w64 staging ++ tokens_spelling sealed))
value_spelling (Tag repo tag commit) = commit.0
value_spelling (Commit repo id expired commit) = flag expired ∷ commit_spelling commit
value_spelling (MetaRange name bytes) = bytes
value_spelling (Range name bytes) = bytes
value_spelling (Staged token path change) = change_spelling change
value_spelling (Note repo name text) = text
value_spelling (Gone number) = []
value_spelling (Counts number version token) =
    to_be_bytes w64 number ++ (to_be_bytes w64 version ++ to_be_bytes w64 token)

-- the pair of what is stored
abbrev pub pair_spelling : Stored → Pair
pair_spelling stored = record { key = key_spelling (key_of stored); value = value_spelling stored }

-- a key that can be spelled: the name of its branch or tag isn't like an id
abbrev pub IsStoredKey : OwnedKey → Type 0
IsStoredKey (key.Branch repo branch) = is_like_id branch ≡ false
IsStoredKey (key.Tag repo tag) = is_like_id tag ≡ false
IsStoredKey _ = Unit {0}

-- What can be spelled: the names of branches, tags and default branches aren't like an id, and sealed tokens are
-- fewer than 2^32.
abbrev pub IsStored : Stored → Type 0
IsStored (Repository repo created default_branch settings) = is_like_id default_branch ≡ false
IsStored (Branch repo branch version head staging sealed) = (is_like_id branch ≡ false) × (length sealed < 2 ^ 32)
IsStored (Tag repo tag commit) = is_like_id tag ≡ false
IsStored _ = Unit {0}

-- the name of a branch or a tag that isn't like an id
pub record IsRefName (name : List ℕ) : Type 0 where
  pub valid : ref_fault name ≡ None
  pub unlike : is_like_id name ≡ false

-- a key within its limits
abbrev pub IsSpelledKey : OwnedKey → Type 0
IsSpelledKey (key.Repository repo) = repo_fault repo ≡ None
IsSpelledKey (key.Branch repo branch) = (repo_fault repo ≡ None) × IsRefName branch
IsSpelledKey (key.Tag repo tag) = (repo_fault repo ≡ None) × IsRefName tag
IsSpelledKey (key.Commit repo id) = (repo_fault repo ≡ None) × IsDigest id.0
IsSpelledKey (key.MetaRange name) = IsDigest name.0
IsSpelledKey (key.Range name) = IsDigest name.0
IsSpelledKey (key.Staged token path) = (token < 2 ^ 64) × (path_fault path ≡ None)
IsSpelledKey (key.Note repo name) = repo_fault repo ≡ None
IsSpelledKey (key.Gone number) = number < 2 ^ 64
IsSpelledKey key.Counts = Unit {0}

-- tokens within their limits: fewer than 2^32, each of 64 bits
pub record AreTokens (tokens : List ℕ) : Type 0 where
  pub few : length tokens < 2 ^ 32
  pub each : AllByRecursion (λ token. token < 2 ^ 64) tokens

-- a change within its limits
abbrev pub IsSpelledChange : Change → Type 0
IsSpelledChange Delete = Unit {0}
IsSpelledChange (Put entry) = IsEntry entry

-- a value within its limits
abbrev pub IsSpelledValue : Stored → Type 0
IsSpelledValue (Repository repo created default_branch settings) = (created < 2 ^ 64) × (IsRefName default_branch × (settings < 2 ^ 64))
IsSpelledValue (Branch repo branch version head staging sealed) = (version < 2 ^ 64) × (IsDigest head.0 × ((staging < 2 ^ 64) × AreTokens sealed))
IsSpelledValue (Tag repo tag commit) = IsDigest commit.0
IsSpelledValue (Commit repo id expired commit) = IsSpelledCommit commit
IsSpelledValue (MetaRange name bytes) = AreBytes bytes
IsSpelledValue (Range name bytes) = AreBytes bytes
IsSpelledValue (Staged token path change) = IsSpelledChange change
IsSpelledValue (Note repo name text) = AreBytes text
IsSpelledValue (Gone number) = Unit {0}
IsSpelledValue (Counts number version token) = (number < 2 ^ 64) × ((version < 2 ^ 64) × (token < 2 ^ 64))

-- what is stored, within the limits of its key and its value
pub record IsSpelledStored (stored : Stored) : Type 0 where
  pub named : IsSpelledKey (key_of stored)
  pub valued : IsSpelledValue stored
