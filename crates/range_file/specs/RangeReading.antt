-- Reading the rows of a range from bytes, from the left, with the first fault that is met.
use Rattle.std.specs.Prelude.{◌≡◌, ◌==◌, ℕ, zero, suc, List, [], ◌∷◌, ◌++◌, length, Result, Ok, Err, if◌then◌else◌}
use Rattle.std.specs.Int.{w32}
use Rattle.lake_format.specs.Reading.{read_number, read_path, read_entry, is_next}
use Rattle.lake_format.specs.declared.fields.FieldFault.{FieldFault}
use Rattle.lake_format.specs.declared.fields.FieldFault.TheVariants.{Short, Bad, NoMemory as FieldNoMemory}
use Rattle.range_file.specs.Rows.{RowValue, last_path}
use Rattle.range_file.specs.declared.fault.RangeFault.{RangeFault}
use Rattle.range_file.specs.declared.fault.RangeFault.TheVariants.{Version, Truncated, Empty, BadRow, Order, Trailing, NoMemory}

-- a part, and then what follows it; the first fault ends the reading
infixl 10 ◌>>=◌
abbrev pub ◌>>=◌ : {A B : Type 0} → Result A RangeFault → (A → Result B RangeFault) → Result B RangeFault
(Ok x) >>= f = f x
(Err e) >>= f = Err e

-- reading meets the fault that was answered, unless memory ran out
abbrev pub Fails : {Y : Type 0} → RangeFault → Result Y RangeFault → Type 0
Fails NoMemory read = Unit {0}
Fails fault read = read ≡ Err fault

-- What was answered, seen by view, is what reading gives, unless memory ran out.
abbrev pub ReadsAs : {X Y : Type 0} → (X → Y) → Result X RangeFault → Result Y RangeFault → Type 0
ReadsAs view (Ok x) read = read ≡ Ok (view x)
ReadsAs view (Err fault) read = Fails fault read

-- What was answered is what reading gives, unless memory ran out.
abbrev pub Answers : {Y : Type 0} → Result Y RangeFault → Result Y RangeFault → Type 0
Answers result read = ReadsAs (λ y. y) result read

-- a fault that stays, whatever follows
abbrev pub IsSettled : RangeFault → Type 0
IsSettled (Truncated n) = ⊥
IsSettled (Trailing n) = ⊥
IsSettled NoMemory = ⊥
IsSettled fault = Unit {0}

-- what a field's fault is to an input of n bytes, where `bad` tells that the field is outside its limits
abbrev pub fault_of : ℕ → RangeFault → FieldFault → RangeFault
fault_of n bad (Short left) = Truncated n
fault_of n bad (Bad left) = bad
fault_of n bad FieldNoMemory = NoMemory

-- a field of an input of n bytes
abbrev pub field : {X : Type 0} → ℕ → RangeFault → Result X FieldFault → Result X RangeFault
field n bad (Ok x) = Ok x
field n bad (Err fault) = Err (fault_of n bad fault)

-- row i, behind the i rows before it: its path, which is above the path before
unfoldable pub read_next_path : ℕ → List RowValue → List ℕ → Result (List ℕ × List ℕ) RangeFault
read_next_path n before bytes = do
  path ← field n (BadRow (length before)) (read_path bytes)
  if is_next (last_path before) path.0 then Ok path else Err (Order (length before))

-- row i, behind the i rows before it: its path, and its entry
unfoldable pub read_row : ℕ → List RowValue → List ℕ → Result (RowValue × List ℕ) RangeFault
read_row n before bytes = do
  path ← read_next_path n before bytes
  entry ← field n (BadRow (length before)) (read_entry path.1)
  Ok ((path.0, entry.0), entry.1)

-- the rows before, and so many more
unfoldable pub read_rows : ℕ → ℕ → List RowValue → List ℕ → Result (List RowValue × List ℕ) RangeFault
read_rows n zero before bytes = Ok (before, bytes)
read_rows n (suc more) before bytes = do
  row ← read_row n before bytes
  read_rows n more (before ++ row.0 ∷ []) row.1

-- the version, which is 1, and the count of rows in four bytes, which isn't 0
unfoldable pub read_count : ℕ → List ℕ → Result (ℕ × List ℕ) RangeFault
read_count n [] = Err (Truncated n)
read_count n (version ∷ bytes) =
    if version == 1 then (do
      count ← field n Empty (read_number w32 bytes)
      if count.0 == 0 then Err Empty else Ok count)
    else Err (Version version)

-- the rows of a range: as many as its count tells, and nothing behind them
unfoldable pub range_from : List ℕ → Result (List RowValue) RangeFault
range_from bytes = do
  count ← read_count (length bytes) bytes
  rows ← read_rows (length bytes) count.0 [] count.1
  if length rows.1 == 0 then Ok rows.0 else Err (Trailing (length rows.1))
