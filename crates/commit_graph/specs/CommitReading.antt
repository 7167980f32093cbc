-- Reading a commit from bytes, from the left, with the first fault that is met.
use Rattle.std.specs.Prelude.{◌≡◌, ◌==◌, ◌-◌, ℕ, zero, suc, List, [], ◌∷◌, ◌++◌, length, nat_lt, Result, Ok, Err, if◌then◌else◌}
use Rattle.std.specs.Int.{w16, w64}
use Rattle.lake_base.specs.declared.digest.Digest.{Digest}
use Rattle.lake_values.specs.Commit.{CommitRecordValue}
use Rattle.lake_format.specs.Reading.{◌>>=◌, read_number, read_bytes, read_text, read_long_text, read_metadata}
use Rattle.lake_format.specs.declared.fields.FieldFault.{FieldFault}
use Rattle.lake_format.specs.declared.fields.FieldFault.TheVariants.{Short, Bad, NoMemory as FieldNoMemory}
use Rattle.commit_graph.specs.declared.fault.CommitFault.{CommitFault}
use Rattle.commit_graph.specs.declared.fault.CommitFault.TheVariants.{Version, Truncated, Bad as CommitBad, Trailing, NoMemory}

-- reading meets the fault that was answered, unless memory ran out
abbrev pub Fails : {Y : Type 0} → CommitFault → Result Y CommitFault → Type 0
Fails NoMemory read = Unit {0}
Fails fault read = read ≡ Err fault

-- What was answered is what reading gives, unless memory ran out.
abbrev pub Answers : {Y : Type 0} → Result Y CommitFault → Result Y CommitFault → Type 0
Answers (Ok x) read = read ≡ Ok x
Answers (Err fault) read = Fails fault read

-- a generation: a number of eight bytes, at least 1
unfoldable pub read_generation : List ℕ → Result (ℕ × List ℕ) FieldFault
read_generation bytes = do
  generation ← read_number w64 bytes
  if generation.0 == 0 then Err (Bad (length bytes)) else Ok generation

-- the ids before, and so many more
unfoldable pub read_ids : ℕ → List Digest → List ℕ → Result (List Digest × List ℕ) FieldFault
read_ids zero before bytes = Ok (before, bytes)
read_ids (suc more) before bytes = do
  id ← read_bytes 32 bytes
  read_ids more (before ++ record { 0 = id.0 } ∷ []) id.1

-- at most two parents behind their count
unfoldable pub read_parents : List ℕ → Result (List Digest × List ℕ) FieldFault
read_parents bytes = do
  count ← read_number w16 bytes
  if nat_lt 2 count.0 then Err (Bad (length bytes)) else read_ids count.0 [] count.1

-- the fields of a commit behind its version, one after the other
unfoldable pub read_commit : List ℕ → Result (CommitRecordValue × List ℕ) FieldFault
read_commit bytes = do
  meta_range ← read_bytes 32 bytes
  generation ← read_generation meta_range.1
  date ← read_number w64 generation.1
  parents ← read_parents date.1
  committer ← read_text 1 128 parents.1
  message ← read_long_text 65536 committer.1
  metadata ← read_metadata message.1
  Ok (
    record {
      meta_range = record { 0 = meta_range.0 };
      generation = generation.0;
      date = date.0;
      parents = parents.0;
      committer = committer.0;
      message = message.0;
      metadata = metadata.0;
    },
    metadata.1,
  )

-- what a field's fault is to an input of n bytes: its place is counted from the front
abbrev pub fault_of : ℕ → FieldFault → CommitFault
fault_of n (Short left) = Truncated n
fault_of n (Bad left) = CommitBad (n - left)
fault_of n FieldNoMemory = NoMemory

-- a commit and nothing behind it, in an input of n bytes
abbrev pub whole : ℕ → Result (CommitRecordValue × List ℕ) FieldFault → Result CommitRecordValue CommitFault
whole n (Ok x) = if length x.1 == 0 then Ok x.0 else Err (Trailing (length x.1))
whole n (Err fault) = Err (fault_of n fault)

-- the commit of these bytes: the version, which is 1, its fields, and nothing behind them
unfoldable pub commit_from : List ℕ → Result CommitRecordValue CommitFault
commit_from [] = Err (Truncated 0)
commit_from (version ∷ fields) =
    if version == 1 then whole (length (version ∷ fields)) (read_commit fields) else Err (Version version)
