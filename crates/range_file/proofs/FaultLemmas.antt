-- What is read or refused stays so whatever follows, but for a range that is truncated or has trailing bytes.
use Rattle.std.proofs.Common.{◌≡◌, ◌≢◌, ℕ, zero, suc, ◌<◌, Bool, true, false, cond, eqb, List, [], ◌∷◌, ◌++◌, length, Result, Ok, Err, refl, sym, ap, subst}
use Rattle.std.proofs.Common.{◌∙◌, arith}
use Rattle.std.proofs.lemmas.Bool.{eqb-true, ne_eqb}
use Rattle.std.proofs.lemmas.List.{length-append}
use Rattle.std.specs.Int.{w32}
use Rattle.lake_format.specs.Reading.{read_number, read_path, read_entry, is_next}
use Rattle.lake_format.specs.Spelling.{range_spelling, IsRange}
use Rattle.lake_format.specs.declared.fields.FieldFault.{FieldFault}
use Rattle.lake_format.specs.declared.fields.FieldFault.TheVariants.{Short, Bad, NoMemory as FieldNoMemory}
use Rattle.lake_format.proofs.ReadingLemmas.{Reader, IsSteady, text_steady, entry_steady, number_steady}
use Rattle.range_file.specs.Rows.{RowValue, last_path}
use Rattle.range_file.specs.RangeReading.{◌>>=◌, IsSettled, field, read_next_path, read_row, read_rows, read_count, range_from}
use Rattle.range_file.specs.declared.fault.RangeFault.{RangeFault}
use Rattle.range_file.specs.declared.fault.RangeFault.TheVariants.{Version, Truncated, Empty, BadRow, Order, Trailing, NoMemory}
use Rattle.range_file.proofs.MemoryLemmas.{Tells, number_tells, path_tells, entry_tells}
use Rattle.range_file.proofs.ReadingLemmas.{ended, counted, range_is, counted_again, again}

-- what an input of n bytes gave is given again, with more bytes behind it, unless it was truncated; and memory didn't
-- run out
abbrev Stays : {X : Type 0} → ℕ → List ℕ → Result (X × List ℕ) RangeFault → Result (X × List ℕ) RangeFault → Type 0
Stays n more (Ok x) read = read ≡ Ok (x.0, x.1 ++ more)
Stays n more (Err (Truncated k)) read = k ≡ n
Stays n more (Err NoMemory) read = ⊥
Stays n more (Err fault) read = read ≡ Err fault

in_turn : {X Y : Type 0} (n : ℕ) (more : List ℕ) (read longer : Result (X × List ℕ) RangeFault) (next next_longer : X × List ℕ → Result (Y × List ℕ) RangeFault)
    → Stays n more read longer
    → ((x : X × List ℕ) → Stays n more (next x) (next_longer (x.0, x.1 ++ more))) → Stays n more (read >>= next) (longer >>= next_longer)
in_turn n more (Ok x) longer next next_longer h k = subst (λ r. Stays n more (next x) (r >>= next_longer)) (sym h) (k x)
in_turn n more (Err (Truncated left)) longer next next_longer h k = h
in_turn n more (Err NoMemory) longer next next_longer h k = h
in_turn n more (Err fault) longer next next_longer h k = ap (λ r. r >>= next_longer) h

either : {X : Type 0} (n : ℕ) (more : List ℕ) (b : Bool) (read longer other other_longer : Result (X × List ℕ) RangeFault) → Stays n more read longer
    → Stays n more other other_longer
    → Stays n more (cond b read other) (cond b longer other_longer)
either n more true read longer other other_longer h k = h
either n more false read longer other other_longer h k = k

field_stays : {X : Type 0} (most n m : ℕ) (bad : RangeFault) (read : Reader X) (bytes more : List ℕ) → IsSteady most read → Tells (read bytes)
    → Stays {X = X} n more (Err bad) (Err bad)
    → Stays n more (field n bad (read bytes)) (field m bad (read (bytes ++ more)))
field_stays {X = X} most n m bad read bytes more steady tells bad_stays = at (read bytes) refl tells
  where
    at : (r : Result (X × List ℕ) FieldFault) → read bytes ≡ r → Tells r → Stays n more (field n bad r) (field m bad (read (bytes ++ more)))
    at (Ok x) is t = ap (field m bad) (steady.found bytes more x.0 x.1 is)
    at (Err (Short left)) is t = refl
    at (Err (Bad left)) is t = subst (Stays n more (Err bad)) (sym (ap (field m bad) (steady.bad bytes more left is))) bad_stays
    at (Err FieldNoMemory) is t = absurd t

next_path_stays : (n m : ℕ) (before : List RowValue) (bytes more : List ℕ)
    → Stays n more (read_next_path n before bytes) (read_next_path m before (bytes ++ more))
unfolding read_next_path
next_path_stays n m before bytes more =
    in_turn n more (field n (BadRow (length before)) (read_path bytes)) (field m (BadRow (length before)) (read_path (bytes ++ more))) _ _
    (field_stays 1026 n m (BadRow (length before)) read_path bytes more (text_steady 1 1024) (path_tells bytes) refl)
    (λ path. either n more (is_next (last_path before) path.0) (Ok path) (Ok (path.0, path.1 ++ more)) (Err (Order (length before)))
    (Err (Order (length before))) refl refl)

row_stays : (n m : ℕ) (before : List RowValue) (bytes more : List ℕ) → Stays n more (read_row n before bytes) (read_row m before (bytes ++ more))
unfolding read_row
row_stays n m before bytes more =
    in_turn n more (read_next_path n before bytes) (read_next_path m before (bytes ++ more)) _ _ (next_path_stays n m before bytes more)
    (λ path. in_turn n more (field n (BadRow (length before)) (read_entry path.1)) (field m (BadRow (length before)) (read_entry (path.1 ++ more))) _ _
    (field_stays 76440 n m (BadRow (length before)) read_entry path.1 more entry_steady (entry_tells path.1) refl) (λ entry. refl))

rows_stay : (n m count : ℕ) (before : List RowValue) (bytes more : List ℕ)
    → Stays n more (read_rows n count before bytes) (read_rows m count before (bytes ++ more))
unfolding read_rows
rows_stay n m zero before bytes more = refl
rows_stay n m (suc count) before bytes more =
    in_turn n more (read_row n before bytes) (read_row m before (bytes ++ more)) _ _ (row_stays n m before bytes more)
    (λ row. rows_stay n m count (before ++ row.0 ∷ []) row.1 more)

count_stays : (n m : ℕ) (bytes more : List ℕ) → Stays n more (read_count n bytes) (read_count m (bytes ++ more))
unfolding read_count
count_stays n m [] more = refl
count_stays n m (version ∷ bytes) more =
    either n more (eqb version 1) _ _ (Err (Version version)) (Err (Version version))
    (in_turn n more (field n Empty (read_number w32 bytes)) (field m Empty (read_number w32 (bytes ++ more))) _ _
    (field_stays 4 n m Empty (read_number w32) bytes more (number_steady w32) (number_tells w32 bytes) refl)
    (λ count. either n more (eqb count.0 0) (Err Empty) (Err Empty) (Ok count) (Ok (count.0, count.1 ++ more)) refl refl))
    refl

counted_stays : (n m : ℕ) (bytes more : List ℕ) → Stays n more (counted n bytes) (counted m (bytes ++ more))
counted_stays n m bytes more =
    in_turn n more (read_count n bytes) (read_count m (bytes ++ more)) _ _ (count_stays n m bytes more) (λ count. rows_stay n m count.0 [] count.1 more)

abbrev refused : RangeFault → Result (List RowValue) RangeFault
refused fault = Err fault

fault_is : (fault other : RangeFault) → refused fault ≡ refused other → fault ≡ other
fault_is fault other e = cc

pub settled : (bytes more : List ℕ) (fault : RangeFault) → IsSettled fault → range_from bytes ≡ Err fault → range_from (bytes ++ more) ≡ Err fault
settled bytes more fault is e =
    range_is (bytes ++ more) ∙ at (counted (length bytes) bytes) (counted_stays (length bytes) (length (bytes ++ more)) bytes more) (sym (range_is bytes) ∙ e)
  where
    over : (b : Bool) (rows : List RowValue) (left : ℕ) → cond b (Ok rows) (Err (Trailing left)) ≡ refused fault → ⊥
    over true rows left e = cc
    over false rows left e = subst IsSettled (sym (fault_is (Trailing left) fault e)) is

    at : (r : Result (List RowValue × List ℕ) RangeFault) → Stays (length bytes) more r (counted (length (bytes ++ more)) (bytes ++ more))
        → (r >>= ended) ≡ Err fault
        → (counted (length (bytes ++ more)) (bytes ++ more) >>= ended) ≡ Err fault
    at (Ok x) h e = absurd (over (eqb (length x.1) 0) x.0 (length x.1) e)
    at (Err (Truncated k)) h e = absurd (subst IsSettled (sym (fault_is (Truncated k) fault e)) is)
    at (Err NoMemory) h e = absurd h
    at (Err other) h e = ap (λ r. r >>= ended) h ∙ e

pub fronts : (rows : List RowValue) (front rest : List ℕ) → IsRange rows → range_spelling rows ≡ front ++ rest → 0 < length rest
    → range_from front ≡ Err (Truncated (length front))
fronts rows front rest is parts some =
    range_is front ∙ at (counted (length front) front) (counted_stays (length front) (length (front ++ rest)) front rest)
    (sym (range_is (front ++ rest)) ∙ ap range_from (sym parts) ∙ again rows is)
  where
    whole : (b : Bool) (all : List RowValue) (left : ℕ) → cond b (Ok all) (Err (Trailing left)) ≡ Ok rows → b ≡ true
    whole true all left e = refl
    whole false all left e = absurd cc

    at : (r : Result (List RowValue × List ℕ) RangeFault) → Stays (length front) rest r (counted (length (front ++ rest)) (front ++ rest))
        → (counted (length (front ++ rest)) (front ++ rest) >>= ended) ≡ Ok rows
        → (r >>= ended) ≡ Err (Truncated (length front))
    at (Ok x) h e =
        let none = eqb-true (length (x.1 ++ rest)) 0 (whole (eqb (length (x.1 ++ rest)) 0) x.0 (length (x.1 ++ rest)) (sym (ap (λ r. r >>= ended) h) ∙ e)) in
        absurd (omega (arith, none, length-append x.1 rest))
    at (Err (Truncated k)) h e = ap (λ n. Err (Truncated n)) h
    at (Err NoMemory) h e = absurd h
    at (Err other) h e = absurd (cc (sym (ap (λ r. r >>= ended) h) ∙ e))

pub trailing : (rows : List RowValue) (rest : List ℕ) → IsRange rows → 0 < length rest → range_from (range_spelling rows ++ rest) ≡ Err (Trailing (length rest))
trailing rows rest is some =
    let not_done : eqb (length rest) 0 ≡ false = ne_eqb (length rest) 0 (λ none. omega arith) in
    range_is (range_spelling rows ++ rest) ∙ ap (λ r. r >>= ended) (counted_again (length (range_spelling rows ++ rest)) rows rest is) ∙ rw not_done refl

pub sure : (bytes : List ℕ) → range_from bytes ≢ Err NoMemory
sure bytes e = at (counted (length bytes) bytes) (counted_stays (length bytes) (length (bytes ++ [])) bytes []) (sym (range_is bytes) ∙ e)
  where
    never : (b : Bool) (rows : List RowValue) (left : ℕ) → cond b (Ok rows) (Err (Trailing left)) ≢ refused NoMemory
    never true rows left e = cc
    never false rows left e = cc

    at : (r : Result (List RowValue × List ℕ) RangeFault) → Stays (length bytes) [] r (counted (length (bytes ++ [])) (bytes ++ []))
        → (r >>= ended) ≢ Err NoMemory
    at (Ok x) h e = never (eqb (length x.1) 0) x.0 (length x.1) e
    at (Err NoMemory) h e = h
    at (Err other) h e = cc
