-- Rows that are read are the rows that were written, and what was written is read again.
use Rattle.std.proofs.Common.{◌≡◌, ℕ, zero, suc, ◌-◌, ◌+◌, ◌^◌, ◌<◌, ◌≤◌, Bool, true, false, cond, eqb, List, [], ◌∷◌, ◌++◌, length, Result, Ok, Err, refl, sym}
use Rattle.std.proofs.Common.{ap, subst, ◌∙◌, append_assoc, arith}
use Rattle.std.proofs.lemmas.Bool.{eqb-true, eqb-false, ne_eqb}
use Rattle.std.proofs.lemmas.List.{append-nil, length-append}
use Rattle.std.proofs.lemmas.List.Concat.{flat_map-cons, flat_map-append}
use Rattle.std.specs.Int.{w32, to_be_bytes}
use Rattle.std.specs.List.{flat_map, AllByRecursion}
use Rattle.lake_base.specs.Maps.{HasAscendingKeys}
use Rattle.lake_format.specs.Reading.{read_number, read_path, read_entry, is_next}
use Rattle.lake_format.specs.Spelling.{short_text, entry_spelling, row_spelling, range_spelling, AreBytes, IsRow, IsRange}
use Rattle.lake_format.specs.declared.fields.FieldFault.{FieldFault}
use Rattle.lake_format.proofs.FieldsLemmas.{Takes, takes_then, wide32, number_takes, number_again, text_limits, text_takes, text_again, path_of_text}
use Rattle.lake_format.proofs.FieldsLemmas.{text_of_path}
use Rattle.lake_format.proofs.EncodingLemmas.{entry_takes, entry_again}
use Rattle.range_file.specs.Rows.{RowValue, AreRows, last_path}
use Rattle.range_file.specs.RangeReading.{◌>>=◌, Fails, field, read_next_path, read_row, read_rows, read_count, range_from}
use Rattle.range_file.specs.declared.fault.RangeFault.{RangeFault}
use Rattle.range_file.specs.declared.fault.RangeFault.TheVariants.{Version, Empty, BadRow, Order, Trailing, NoMemory}
use Rattle.range_file.proofs.RowsLemmas.{ascend_more, next_of_ascend}

-- the value of a step that did not fail
bind_ok : {A B : Type 0} (r : Result A RangeFault) (f : A → Result B RangeFault) (y : B) → (r >>= f) ≡ Ok y → (x : A) × (r ≡ Ok x) × (f x ≡ Ok y)
bind_ok (Ok x) f y e = (x, refl, e)
bind_ok (Err d) f y e = absurd cc

-- a test that did not fail
test_ok : {A : Type 0} (b : Bool) (d : RangeFault) (r : Result A RangeFault) (y : A) → cond b r (Err d) ≡ Ok y → (b ≡ true) × (r ≡ Ok y)
test_ok true d r y e = (refl, e)
test_ok false d r y e = absurd cc

guard_ok : {A : Type 0} (b : Bool) (d : RangeFault) (r : Result A RangeFault) (y : A) → cond b (Err d) r ≡ Ok y → (b ≡ false) × (r ≡ Ok y)
guard_ok true d r y e = absurd cc
guard_ok false d r y e = (refl, e)

abbrev done : {A : Type 0} → A → Result A RangeFault
done x = Ok x

ok_is : {A : Type 0} (x y : A) → done x ≡ done y → x ≡ y
ok_is x y e = cc

field_ok : {X : Type 0} (n : ℕ) (bad : RangeFault) (r : Result X FieldFault) (x : X) → field n bad r ≡ Ok x → r ≡ Ok x
field_ok n bad (Ok y) x e = ap (λ z. Ok z) (ok_is y x e)
field_ok n bad (Err fault) x e = absurd cc

-- as many rows as the count tells, and then the end
abbrev pub counted : ℕ → List ℕ → Result (List RowValue × List ℕ) RangeFault
counted n bytes = read_count n bytes >>= λ count. read_rows n count.0 [] count.1

abbrev pub ended : List RowValue × List ℕ → Result (List RowValue) RangeFault
ended rows = cond (eqb (length rows.1) 0) (Ok rows.0) (Err (Trailing (length rows.1)))

in_two : {A B C : Type 0} (r : Result A RangeFault) (f : A → Result B RangeFault) (g : B → Result C RangeFault) → (r >>= λ x. f x >>= g) ≡ ((r >>= f) >>= g)
in_two (Ok x) f g = refl
in_two (Err e) f g = refl

pub range_is : (bytes : List ℕ) → range_from bytes ≡ (counted (length bytes) bytes >>= ended)
unfolding range_from
range_is bytes = in_two (read_count (length bytes) bytes) (λ count. read_rows (length bytes) count.0 [] count.1) ended

-- ---- a loop that reads rows

failed : {A B : Type 0} (e : RangeFault) (r : Result A RangeFault) (f : A → Result B RangeFault) → Fails e r → Fails e (r >>= f)
failed NoMemory r f h = tt
failed e r f h = ap (λ x. x >>= f) h

pub goes_on : (n count i : ℕ) (before : List RowValue) (bytes : List ℕ) (row : RowValue) (after : List ℕ) (all : Result (List RowValue × List ℕ) RangeFault)
    → i < count → read_row n before bytes ≡ Ok (row, after)
    → read_rows n (count - i) before bytes ≡ all → read_rows n (count - (i + 1)) (before ++ row ∷ []) after ≡ all
unfolding read_rows
goes_on n count i before bytes row after all lt here so_far =
    let k : count - i ≡ suc (count - (i + 1)) = omega arith in
    sym (ap (λ r. r >>= λ row. read_rows n (count - (i + 1)) (before ++ row.0 ∷ []) row.1) here) ∙ ap (λ m. read_rows n m before bytes) (sym k) ∙ so_far

pub ends : (e : RangeFault) (n count i : ℕ) (before : List RowValue) (bytes : List ℕ) (all : Result (List RowValue × List ℕ) RangeFault) → i < count
    → Fails e (read_row n before bytes)
    → read_rows n (count - i) before bytes ≡ all → Fails e all
unfolding read_rows
ends e n count i before bytes all lt fails so_far =
    let k : count - i ≡ suc (count - (i + 1)) = omega arith in
    subst (Fails e) (ap (λ m. read_rows n m before bytes) (sym k) ∙ so_far)
    (failed e (read_row n before bytes) (λ row. read_rows n (count - (i + 1)) (before ++ row.0 ∷ []) row.1) fails)

pub is_done : (n count i : ℕ) (before : List RowValue) (bytes : List ℕ) (all : Result (List RowValue × List ℕ) RangeFault) → count ≤ i
    → read_rows n (count - i) before bytes ≡ all → all ≡ Ok (before, bytes)
unfolding read_rows
is_done n count i before bytes all le so_far =
    let k : count - i ≡ 0 = omega arith in
    sym so_far ∙ ap (λ m. read_rows n m before bytes) k

-- ---- what is read is spelled so

record RowRead (before : List RowValue) (bytes : List ℕ) (row : RowValue) (rest : List ℕ) : Type 0 where
  pub takes : Takes bytes (row_spelling row) rest
  pub limits : IsRow row
  pub next : is_next (last_path before) row.0 ≡ true

row_read : (n : ℕ) (before : List RowValue) (bytes : List ℕ) (row : RowValue) (rest : List ℕ) → AreBytes bytes → read_row n before bytes ≡ Ok (row, rest)
    → RowRead before bytes row rest
unfolding read_row read_next_path
row_read n before bytes row rest fits h =
    let a = bind_ok (read_next_path n before bytes) (λ path. field n (BadRow (length before)) (read_entry path.1) >>= λ entry. Ok ((path.0, entry.0), entry.1))
    (row, rest) h in
    let b = bind_ok (field n (BadRow (length before)) (read_entry a.0.1)) (λ entry. Ok ((a.0.0, entry.0), entry.1)) (row, rest) a.2 in
    let p = bind_ok (field n (BadRow (length before)) (read_path bytes))
    (λ path. cond (is_next (last_path before) path.0) (Ok path) (Err (Order (length before)))) a.0 a.1 in
    let t = test_ok (is_next (last_path before) p.0.0) (Order (length before)) (Ok p.0) a.0 p.2 in
    let same = ok_is p.0 a.0 t.1 in
    let path_read : read_path bytes ≡ Ok a.0 = field_ok n (BadRow (length before)) (read_path bytes) p.0 p.1 ∙ ap (λ (x : List ℕ × List ℕ). Ok x) same in
    let entry_read = field_ok n (BadRow (length before)) (read_entry a.0.1) b.0 b.1 in
    let path = text_takes 1 1024 bytes a.0.0 a.0.1 fits path_read in
    let entry = entry_takes a.0.1 b.0.0 b.0.1 path.rest_fits entry_read in
    let made = ok_is ((a.0.0, b.0.0), b.0.1) (row, rest) b.2 in
    subst (λ (y : RowValue × List ℕ). RowRead before bytes y.0 y.1) {x = ((a.0.0, b.0.0), b.0.1)} made (record {
      takes = takes_then bytes (short_text a.0.0) a.0.1 (entry_spelling b.0.0) b.0.1 path entry.0;
      limits = (path_of_text a.0.0 (text_limits 1 1024 bytes a.0.0 a.0.1 path_read), entry.1);
      next = subst (λ (x : List ℕ × List ℕ). is_next (last_path before) x.0 ≡ true) same t.0;
    })

pub record RowsRead (more : ℕ) (before : List RowValue) (bytes : List ℕ) (rows : List RowValue) (rest : List ℕ) : Type 0 where
  pub spelled : flat_map row_spelling before ++ bytes ≡ flat_map row_spelling rows ++ rest
  pub rest_fits : AreBytes rest
  pub count : length rows ≡ length before + more
  pub ascend : HasAscendingKeys before → HasAscendingKeys rows
  pub each : AllByRecursion IsRow before → AllByRecursion IsRow rows

all_end : (before : List RowValue) (row : RowValue) → AllByRecursion IsRow before → IsRow row → AllByRecursion IsRow (before ++ row ∷ [])
all_end [] row each is = (is, tt)
all_end (r ∷ before) row each is = (each.0, all_end before row each.1 is)

pub rows_read : (n count : ℕ) (before : List RowValue) (bytes : List ℕ) (x : List RowValue × List ℕ) → AreBytes bytes → read_rows n count before bytes ≡ Ok x
    → RowsRead count before bytes x.0 x.1
unfolding read_rows
rows_read n zero before bytes x fits h =
    subst (λ (y : List RowValue × List ℕ). RowsRead 0 before bytes y.0 y.1) (ok_is (before, bytes) x h)
    (record { spelled = refl; rest_fits = fits; count = omega arith; ascend = λ a. a; each = λ a. a })
rows_read n (suc count) before bytes x fits h =
    let a = bind_ok (read_row n before bytes) (λ row. read_rows n count (before ++ row.0 ∷ []) row.1) x h in
    let row = a.0.0 in
    let one = row_read n before bytes row a.0.1 fits a.1 in
    let more = rows_read n count (before ++ row ∷ []) a.0.1 x one.takes.rest_fits a.2 in
    let here : flat_map row_spelling (before ++ row ∷ []) ≡ flat_map row_spelling before ++ row_spelling row =
    flat_map-append row_spelling before (row ∷ []) ∙ ap (λ l. flat_map row_spelling before ++ l) (append-nil (row_spelling row)) in
    record {
      spelled = ap (λ l. flat_map row_spelling before ++ l) one.takes.parts ∙ sym (append_assoc (flat_map row_spelling before) (row_spelling row) a.0.1)
          ∙ ap (λ l. l ++ a.0.1) (sym here) ∙ more.spelled;
      rest_fits = more.rest_fits;
      count = omega (arith, more.count, length-append before (row ∷ []));
      ascend = λ h. more.ascend (ascend_more before row h one.next);
      each = λ h. more.each (all_end before row h one.limits);
    }

-- the version and the count
record CountRead (bytes : List ℕ) (count : ℕ) (rest : List ℕ) : Type 0 where
  pub takes : Takes bytes (1 ∷ to_be_bytes w32 count) rest
  pub some : 1 ≤ count
  pub few : count < 2 ^ 32

count_read : (n : ℕ) (bytes : List ℕ) (count : ℕ) (rest : List ℕ) → AreBytes bytes → read_count n bytes ≡ Ok (count, rest) → CountRead bytes count rest
unfolding read_count
count_read n [] count rest fits h = absurd cc
count_read n (version ∷ bytes) count rest fits h =
    let v = test_ok (eqb version 1) (Version version) (field n Empty (read_number w32 bytes) >>= λ c. cond (eqb c.0 0) (Err Empty) (Ok c)) (count, rest) h in
    let c = bind_ok (field n Empty (read_number w32 bytes)) (λ c. cond (eqb c.0 0) (Err Empty) (Ok c)) (count, rest) v.1 in
    let g = guard_ok (eqb c.0.0 0) Empty (Ok c.0) (count, rest) c.2 in
    let number = field_ok n Empty (read_number w32 bytes) c.0 c.1 ∙ ap (λ (x : ℕ × List ℕ). Ok x) (ok_is c.0 (count, rest) g.1) in
    let takes = number_takes w32 (2 ^ 32) wide32 bytes count rest (λ i. fits (suc i)) number in
    let same : c.0.0 ≡ count = ap (λ (x : ℕ × List ℕ). x.0) (ok_is c.0 (count, rest) g.1) in
    record {
      takes = record { parts = ap (λ b. b ∷ bytes) (eqb-true version 1 v.0) ∙ ap (λ (l : List ℕ). 1 ∷ l) takes.0.parts; rest_fits = takes.0.rest_fits };
      some = omega (arith, eqb-false c.0.0 0 g.0, same);
      few = takes.1;
    }

pub are_rows : (n count : ℕ) (whole bytes : List ℕ) (rows : List RowValue) (rest : List ℕ) → AreBytes whole → read_count n whole ≡ Ok (count, bytes)
    → read_rows n count [] bytes ≡ Ok (rows, rest) → AreRows rows
are_rows n count whole bytes rows rest fits counted h =
    let c = count_read n whole count bytes fits counted in
    let r = rows_read n count [] bytes (rows, rest) c.takes.rest_fits h in
    record { some = omega (arith, c.some, r.count); few = omega (arith, c.few, r.count); ascend = r.ascend tt }

none_left : (rest : List ℕ) → length rest ≡ 0 → rest ≡ []
none_left [] e = refl
none_left (b ∷ rest) e = absurd (omega arith)

pub found : (bytes : List ℕ) (rows : List RowValue) → AreBytes bytes → range_from bytes ≡ Ok rows → IsRange rows × (bytes ≡ range_spelling rows)
unfolding range_from range_spelling
found bytes rows fits h =
    let n = length bytes in
    let a = bind_ok (read_count n bytes)
    (λ count. read_rows n count.0 [] count.1 >>= λ rows. cond (eqb (length rows.1) 0) (Ok rows.0) (Err (Trailing (length rows.1)))) rows h in
    let b = bind_ok (read_rows n a.0.0 [] a.0.1) (λ rows. cond (eqb (length rows.1) 0) (Ok rows.0) (Err (Trailing (length rows.1)))) rows a.2 in
    let t = test_ok (eqb (length b.0.1) 0) (Trailing (length b.0.1)) (Ok b.0.0) rows b.2 in
    let same = ok_is b.0.0 rows t.1 in
    let c = count_read n bytes a.0.0 a.0.1 fits a.1 in
    let r = rows_read n a.0.0 [] a.0.1 b.0 c.takes.rest_fits b.1 in
    let is = are_rows n a.0.0 bytes a.0.1 b.0.0 b.0.1 fits a.1 b.1 in
    let count : a.0.0 ≡ length b.0.0 = omega (arith, r.count) in
    let body : a.0.1 ≡ flat_map row_spelling b.0.0 =
    r.spelled ∙ ap (λ l. flat_map row_spelling b.0.0 ++ l) (none_left b.0.1 (eqb-true (length b.0.1) 0 t.0)) ∙ append-nil (flat_map row_spelling b.0.0) in
    subst (λ rows. IsRange rows × (bytes ≡ range_spelling rows)) same (
      record { some = is.some; few = is.few; ascend = is.ascend; each = r.each tt },
      c.takes.parts ∙ ap (λ k. 1 ∷ (to_be_bytes w32 k ++ a.0.1)) count ∙ ap (λ l. 1 ∷ (to_be_bytes w32 (length b.0.0) ++ l)) body,
    )

-- ---- what is spelled is read

row_again : (n : ℕ) (before : List RowValue) (row : RowValue) (rest : List ℕ) → IsRow row → is_next (last_path before) row.0 ≡ true
    → read_row n before (row_spelling row ++ rest) ≡ Ok (row, rest)
unfolding read_row read_next_path
row_again n before row rest is next =
    let regrouped : row_spelling row ++ rest ≡ short_text row.0 ++ (entry_spelling row.1 ++ rest) =
    append_assoc (short_text row.0) (entry_spelling row.1) rest in
    ap (read_row n before) regrouped
    ∙ rw (text_again 1 1024 row.0 (entry_spelling row.1 ++ rest) (omega arith) (text_of_path row.0 is.0), next, entry_again row.1 rest is.1) refl

pub rows_again : (n : ℕ) (before rows : List RowValue) (rest : List ℕ) → HasAscendingKeys (before ++ rows) → AllByRecursion IsRow rows
    → read_rows n (length rows) before (flat_map row_spelling rows ++ rest) ≡ Ok (before ++ rows, rest)
unfolding read_rows
rows_again n before [] rest h each = ap (λ (l : List RowValue). Ok (l, rest)) (sym (append-nil before))
rows_again n before (row ∷ rows) rest h each =
    let tail = flat_map row_spelling rows ++ rest in
    let regrouped : flat_map row_spelling (row ∷ rows) ++ rest ≡ row_spelling row ++ tail =
    ap (λ l. l ++ rest) (flat_map-cons row_spelling row rows) ∙ append_assoc (row_spelling row) (flat_map row_spelling rows) rest in
    let together : (before ++ row ∷ []) ++ rows ≡ before ++ row ∷ rows = append_assoc before (row ∷ []) rows in
    ap (read_rows n (suc (length rows)) before) regrouped
    ∙ ap (λ r. r >>= λ row. read_rows n (length rows) (before ++ row.0 ∷ []) row.1) (row_again n before row tail each.0 (next_of_ascend before row rows h))
    ∙ rows_again n (before ++ row ∷ []) rows rest (subst HasAscendingKeys (sym together) h) each.1
    ∙ ap (λ (l : List RowValue). Ok (l, rest)) together

pub counted_again : (n : ℕ) (rows : List RowValue) (rest : List ℕ) → IsRange rows → counted n (range_spelling rows ++ rest) ≡ Ok (rows, rest)
unfolding range_spelling read_count
counted_again n rows rest is =
    let count = to_be_bytes w32 (length rows) in
    let some : eqb (length rows) 0 ≡ false = ne_eqb (length rows) 0 (λ none. omega (arith, is.some)) in
    let regrouped : (count ++ flat_map row_spelling rows) ++ rest ≡ count ++ (flat_map row_spelling rows ++ rest) =
    append_assoc count (flat_map row_spelling rows) rest in
    ap (λ bytes. counted n (1 ∷ bytes)) regrouped
    ∙ rw (number_again w32 (2 ^ 32) wide32 (length rows) (flat_map row_spelling rows ++ rest) is.few, some, rows_again n [] rows rest is.ascend is.each) refl

pub again : (rows : List RowValue) → IsRange rows → range_from (range_spelling rows) ≡ Ok rows
again rows is =
    let n = length (range_spelling rows) in
    range_is (range_spelling rows) ∙ ap (λ bytes. counted n bytes >>= ended) (sym (append-nil (range_spelling rows)))
    ∙ ap (λ r. r >>= ended) (counted_again n rows [] is)

pub apart : (rows others : List RowValue) → IsRange rows → IsRange others → range_spelling rows ≡ range_spelling others → rows ≡ others
apart rows others a b e = ok_is rows others (sym (again rows a) ∙ ap range_from e ∙ again others b)
