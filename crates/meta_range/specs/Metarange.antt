-- Reading what a metarange says of its ranges, from the left, with the first fault that is met.
use Rattle.std.specs.Prelude.{◌≡◌, ◌==◌, ◌-◌, ℕ, zero, suc, List, [], ◌∷◌, ◌++◌, length, Option, option_map, slice_get, Result, Ok, Err, if◌then◌else◌}
use Rattle.std.specs.Int.{w32}
use Rattle.std.specs.Ordering.{is_gt}
use Rattle.lake_base.specs.Maps.{byte_order}
use Rattle.lake_format.specs.Reading.{read_bytes, read_number, read_path, is_next}
use Rattle.lake_format.specs.declared.fields.FieldFault.{FieldFault}
use Rattle.lake_format.specs.declared.fields.FieldFault.TheVariants.{Short, Bad, NoMemory as FieldNoMemory}
use Rattle.lake_format.specs.declared.range_line.RangeLine.{RangeLine}
use Rattle.lake_base.specs.declared.digest.Digest.{Digest}
use Rattle.meta_range.specs.ReadingSteps.{◌>>=◌}
use Rattle.meta_range.specs.declared.fault.MetaFault.{MetaFault}
use Rattle.meta_range.specs.declared.fault.MetaFault.TheVariants.{Version, Truncated, BadRange, Trailing, NoMemory}

-- reading meets the fault that was answered, unless memory ran out
abbrev pub Fails : {Y : Type 0} → MetaFault → Result Y MetaFault → Type 0
Fails NoMemory read = Unit {0}
Fails fault read = read ≡ Err fault

-- What was answered, seen by view, is what reading gives, unless memory ran out.
abbrev pub ReadsAs : {X Y : Type 0} → (X → Y) → Result X MetaFault → Result Y MetaFault → Type 0
ReadsAs view (Ok x) read = read ≡ Ok (view x)
ReadsAs view (Err fault) read = Fails fault read

-- what the fault of a field of range i is to an input of n bytes
abbrev pub fault_of : ℕ → ℕ → FieldFault → MetaFault
fault_of n i (Short left) = Truncated n
fault_of n i (Bad left) = BadRange i
fault_of n i FieldNoMemory = NoMemory

-- a field of range i in an input of n bytes
abbrev pub field : {X : Type 0} → ℕ → ℕ → Result X FieldFault → Result X MetaFault
field n i (Ok x) = Ok x
field n i (Err fault) = Err (fault_of n i fault)

-- the last path of the last of these ranges
abbrev pub last_of : List RangeLine → Option (List ℕ)
last_of lines = option_map (λ line. line.last) (slice_get lines (length lines - 1))

-- the name of range i, and its count of rows, which isn't 0
unfoldable pub read_head : ℕ → ℕ → List ℕ → Result ((Digest × ℕ) × List ℕ) MetaFault
read_head n i bytes = do
  name ← field n i (read_bytes 32 bytes)
  rows ← field n i (read_number w32 name.1)
  if rows.0 == 0 then Err (BadRange i) else Ok ((record { 0 = name.0 }, rows.0), rows.1)

-- the first path of the range behind those before it: it is above the last path before
unfoldable pub read_first : ℕ → List RangeLine → List ℕ → Result (List ℕ × List ℕ) MetaFault
read_first n before bytes = do
  path ← field n (length before) (read_path bytes)
  if is_next (last_of before) path.0 then Ok path else Err (BadRange (length before))

-- the last path of range i: it isn't below the first
unfoldable pub read_last : ℕ → ℕ → List ℕ → List ℕ → Result (List ℕ × List ℕ) MetaFault
read_last n i first bytes = do
  path ← field n i (read_path bytes)
  if is_gt (byte_order first path.0) then Err (BadRange i) else Ok path

-- what is said of the range behind those before it
unfoldable pub read_line : ℕ → List RangeLine → List ℕ → Result (RangeLine × List ℕ) MetaFault
read_line n before bytes = do
  head ← read_head n (length before) bytes
  first ← read_first n before head.1
  last ← read_last n (length before) first.0 first.1
  Ok (record { name = head.0.0; rows = head.0.1; first = first.0; last = last.0 }, last.1)

-- the ranges before, and so many more
unfoldable pub read_lines : ℕ → ℕ → List RangeLine → List ℕ → Result (List RangeLine × List ℕ) MetaFault
read_lines n zero before bytes = Ok (before, bytes)
read_lines n (suc more) before bytes = do
  line ← read_line n before bytes
  read_lines n more (before ++ line.0 ∷ []) line.1

-- the version, which is 1, and the count of ranges in four bytes
unfoldable pub read_count : ℕ → List ℕ → Result (ℕ × List ℕ) MetaFault
read_count n [] = Err (Truncated n)
read_count n (version ∷ bytes) =
    if version == 1 then field n 0 (read_number w32 bytes) else Err (Version version)

-- what a metarange says: of as many ranges as its count tells, and nothing behind them
unfoldable pub metarange_from : List ℕ → Result (List RangeLine) MetaFault
metarange_from bytes = do
  count ← read_count (length bytes) bytes
  lines ← read_lines (length bytes) count.0 [] count.1
  if length lines.1 == 0 then Ok lines.0 else Err (Trailing (length lines.1))
