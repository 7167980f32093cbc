-- Reading a pair from the left, its key first, with the first fault that is met and its place.
use Rattle.std.specs.Prelude.{◌≡◌, ◌==◌, ◌-◌, ◌&&◌, ℕ, zero, suc, Bool, true, false, not, List, [], ◌∷◌, ◌++◌, length, take, drop, is_none, nat_lt, Result, Ok}
use Rattle.std.specs.Prelude.{Err, if◌then◌else◌}
use Rattle.std.specs.Int.{w16, w32, w64}
use Rattle.std.specs.Option.{option_map_or}
use Rattle.lake_base.specs.declared.digest.Digest.{Digest}
use Rattle.lake_base.specs.Names.{repo_fault, ref_fault, path_fault, is_like_id}
use Rattle.lake_values.specs.Commit.{CommitRecordValue}
use Rattle.lake_values.specs.declared.entry.Change.{Change}
use Rattle.lake_values.specs.declared.entry.Change.TheVariants.{Put, Delete}
use Rattle.lake_format.specs.Reading.{◌>>=◌, read_number, read_bytes, read_entry}
use Rattle.lake_format.specs.declared.fields.FieldFault.{FieldFault}
use Rattle.lake_format.specs.declared.fields.FieldFault.TheVariants.{Short, Bad, NoMemory as FieldNoMemory}
use Rattle.commit_graph.specs.CommitReading.{read_commit}
use Rattle.pair_format.specs.declared.fault.PairFault.{PairFault}
use Rattle.pair_format.specs.declared.fault.PairFault.TheVariants.{Key, Value, NoMemory}
use Rattle.pair_format.specs.declared.kind.Kind.{Kind}
use Rattle.pair_format.specs.declared.kind.Kind.TheVariants as kind
use Rattle.pair_format.specs.declared.key.OwnedKey.{OwnedKey}
use Rattle.pair_format.specs.declared.key.OwnedKey.TheVariants as key
use Rattle.lake_values.specs.declared.settings.NoteName.{NoteName}
use Rattle.pair_format.specs.declared.stored.Stored.{Stored}
use Rattle.pair_format.specs.declared.stored.Stored.TheVariants.{Repository, Branch, Tag, Commit, MetaRange, Range, Staged, Note, Gone, Counts}
use Rattle.pair_format.specs.Keys.{kind_of, note_of}

-- what reading a pair meets is the fault that was answered, unless memory ran out
abbrev pub Fails : {Y : Type 0} → PairFault → Result Y PairFault → Type 0
Fails NoMemory read = Unit {0}
Fails fault read = read ≡ Err fault

-- What was answered is what reading gives, unless memory ran out.
abbrev pub Answers : {Y : Type 0} → Result Y PairFault → Result Y PairFault → Type 0
Answers (Ok x) read = read ≡ Ok x
Answers (Err fault) read = Fails fault read

-- a value and the bytes after it, or the first fault
abbrev pub Reader : Type 0 → Type 0
Reader A = List ℕ → Result (A × List ℕ) FieldFault

-- a field, and another behind it
abbrev pub both : {A B : Type 0} → Reader A → Reader B → Reader (A × B)
both first second bytes = do
  x ← first bytes
  y ← second x.1
  Ok ((x.0, y.0), y.1)

-- what fields make
abbrev pub map_reader : {A B : Type 0} → (A → B) → Reader A → Reader B
map_reader f read bytes = do
  x ← read bytes
  Ok (f x.0, x.1)

-- a number of eight bytes
abbrev pub read_u64 : Reader ℕ
read_u64 = read_number w64

-- a digest of 32 bytes
abbrev pub read_digest : Reader Digest
read_digest = map_reader (λ bytes. record { 0 = bytes }) (read_bytes 32)

-- bytes behind two bytes of their length
unfoldable pub read_short : Reader (List ℕ)
read_short bytes = do
  n ← read_number w16 bytes
  if nat_lt (length n.1) n.0 then Err (Short (length bytes)) else Ok (take n.0 n.1, drop n.0 n.1)

-- a name behind two bytes of its length, which passes a test
unfoldable pub read_name : (List ℕ → Bool) → Reader (List ℕ)
read_name fits bytes = do
  name ← read_short bytes
  if fits name.0 then Ok name else Err (Bad (length bytes))

-- the name of a repository
abbrev pub is_repo : List ℕ → Bool
is_repo name = is_none (repo_fault name)

-- the name of a branch or a tag that isn't like an id
abbrev pub is_ref : List ℕ → Bool
is_ref name = is_none (ref_fault name) && not (is_like_id name)

-- the name of a repository
abbrev pub read_repo : Reader (List ℕ)
read_repo = read_name is_repo

-- the name of a branch or a tag
abbrev pub read_ref : Reader (List ℕ)
read_ref = read_name is_ref

-- all bytes that are left
abbrev pub read_rest : Reader (List ℕ)
read_rest bytes = Ok (bytes, [])

-- a path, to the end
abbrev pub read_path : Reader (List ℕ)
read_path bytes = if is_none (path_fault bytes) then Ok (bytes, []) else Err (Bad (length bytes))

-- the byte of a setting's name
unfoldable pub read_note : Reader NoteName
read_note [] = Err (Short 0)
read_note (byte ∷ bytes) = option_map_or (λ name. Ok (name, bytes)) (note_of byte) (Err (Bad (length (byte ∷ bytes))))

-- the tokens before, and so many more
unfoldable pub read_more_tokens : ℕ → List ℕ → Reader (List ℕ)
read_more_tokens zero before bytes = Ok (before, bytes)
read_more_tokens (suc more) before bytes = do
  token ← read_number w64 bytes
  read_more_tokens more (before ++ token.0 ∷ []) token.1

-- tokens behind their count
unfoldable pub read_tokens : Reader (List ℕ)
read_tokens bytes = do
  count ← read_number w32 bytes
  read_more_tokens count.0 [] count.1

-- 0 where it doesn't hold, 1 where it does
unfoldable pub read_flag : Reader Bool
read_flag [] = Err (Short 0)
read_flag (zero ∷ rest) = Ok (false, rest)
read_flag (suc zero ∷ rest) = Ok (true, rest)
read_flag (suc (suc b) ∷ rest) = Err (Bad (suc (length rest)))

-- a commit of version 1
unfoldable pub read_versioned : Reader CommitRecordValue
read_versioned [] = Err (Short 0)
read_versioned (version ∷ fields) = if version == 1 then read_commit fields else Err (Bad (length (version ∷ fields)))

-- 0 for a deletion, or 1 and the entry
unfoldable pub read_change : Reader Change
read_change [] = Err (Short 0)
read_change (zero ∷ rest) = Ok (Delete, rest)
read_change (suc zero ∷ rest) = map_reader Put read_entry rest
read_change (suc (suc b) ∷ rest) = Err (Bad (suc (length rest)))

-- the fields of a key behind its letter
unfoldable pub key_fields : Kind → Reader OwnedKey
key_fields kind.Repository = map_reader key.Repository read_repo
key_fields kind.Branch = map_reader (λ x. key.Branch x.0 x.1) (both read_repo read_ref)
key_fields kind.Tag = map_reader (λ x. key.Tag x.0 x.1) (both read_repo read_ref)
key_fields kind.Commit = map_reader (λ x. key.Commit x.0 x.1) (both read_repo read_digest)
key_fields kind.MetaRange = map_reader key.MetaRange read_digest
key_fields kind.Range = map_reader key.Range read_digest
key_fields kind.Staged = map_reader (λ x. key.Staged x.0 x.1) (both read_u64 read_path)
key_fields kind.Note = map_reader (λ x. key.Note x.0 x.1) (both read_repo read_note)
key_fields kind.Gone = map_reader key.Gone read_u64
key_fields kind.Counts = λ bytes. Ok (key.Counts, bytes)

-- the fields of the value under a key
unfoldable pub value_fields : OwnedKey → Reader Stored
value_fields (key.Repository repo) = map_reader (λ x. Repository repo x.0 x.1.0 x.1.1) (both read_u64 (both read_ref read_u64))
value_fields (key.Branch repo branch) =
    map_reader (λ x. Branch repo branch x.0 x.1.0 x.1.1.0 x.1.1.1) (both read_u64 (both read_digest (both read_u64 read_tokens)))
value_fields (key.Tag repo tag) = map_reader (Tag repo tag) read_digest
value_fields (key.Commit repo id) = map_reader (λ x. Commit repo id x.0 x.1) (both read_flag read_versioned)
value_fields (key.MetaRange name) = map_reader (MetaRange name) read_rest
value_fields (key.Range name) = map_reader (Range name) read_rest
value_fields (key.Staged token path) = map_reader (Staged token path) read_change
value_fields (key.Note repo name) = map_reader (Note repo name) read_rest
value_fields (key.Gone number) = λ bytes. Ok (Gone number, bytes)
value_fields key.Counts = map_reader (λ x. Counts x.0 x.1.0 x.1.1) (both read_u64 (both read_u64 read_u64))

-- it, where no byte is left behind it
abbrev pub alone : {A : Type 0} → A × List ℕ → Result A FieldFault
alone x = if length x.1 == 0 then Ok x.0 else Err (Bad (length x.1))

-- a key, whole
unfoldable pub read_key : List ℕ → Result OwnedKey FieldFault
read_key [] = Err (Short 0)
read_key (letter ∷ fields) =
    option_map_or (λ kind. key_fields kind fields >>= alone) (kind_of letter) (Err (Bad (length (letter ∷ fields))))

-- the value under a key, whole
abbrev pub read_value : OwnedKey → List ℕ → Result Stored FieldFault
read_value key bytes = value_fields key bytes >>= alone

-- a field's fault at its place on one side of a pair, which has n bytes there
abbrev pub fault_at : (ℕ → PairFault) → ℕ → FieldFault → PairFault
fault_at side n (Short left) = side (n - left)
fault_at side n (Bad left) = side (n - left)
fault_at side n FieldNoMemory = NoMemory

-- what is read on one side of a pair, which has n bytes there
abbrev pub with_place : {A : Type 0} → (ℕ → PairFault) → ℕ → Result A FieldFault → Result A PairFault
with_place side n (Ok x) = Ok x
with_place side n (Err fault) = Err (fault_at side n fault)

-- what a value spells behind its key
abbrev pub value_from : List ℕ → Result OwnedKey PairFault → Result Stored PairFault
value_from value (Ok key) = with_place Value (length value) (read_value key value)
value_from value (Err fault) = Err fault

-- what a pair spells: its key first, and then its value
unfoldable pub pair_from : List ℕ → List ℕ → Result Stored PairFault
pair_from key value = value_from value (with_place Key (length key) (read_key key))
