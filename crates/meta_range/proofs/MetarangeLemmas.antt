-- What is read of ranges is what was written of them, and what was written is read again.
use Rattle.std.proofs.Common.{◌≡◌, ℕ, zero, suc, ◌-◌, ◌+◌, ◌^◌, ◌<◌, ◌≤◌, Bool, true, false, cond, eqb, List, [], ◌∷◌, ◌++◌, length, option_map, Result, Ok}
use Rattle.std.proofs.Common.{Err, refl, sym, ap, subst, ◌∙◌, append_assoc, arith}
use Rattle.std.proofs.lemmas.Bool.{eqb-true, eqb-false, ne_eqb}
use Rattle.std.proofs.lemmas.List.{append-nil, length-append}
use Rattle.std.proofs.lemmas.List.Concat.{flat_map-cons, flat_map-append}
use Rattle.std.specs.Int.{w32, to_be_bytes}
use Rattle.std.specs.Ordering.{is_lt, is_gt}
use Rattle.std.specs.List.{flat_map, AllByRecursion, slice_get}
use Rattle.lake_base.specs.Maps.{byte_order}
use Rattle.lake_base.specs.Names.{path_fault}
use Rattle.lake_base.specs.declared.digest.Digest.{Digest}
use Rattle.std.specs.Prelude.{None}
use Rattle.lake_values.proofs.CursorLemmas.{lt_is}
use Rattle.lake_format.specs.Reading.{read_number, read_bytes, read_path, is_next}
use Rattle.lake_format.specs.Spelling.{short_text, line_spelling, metarange_spelling, AreBytes, IsDigest, IsLine, FollowOn, IsMetarange}
use Rattle.lake_format.specs.declared.fields.FieldFault.{FieldFault}
use Rattle.lake_format.specs.declared.range_line.RangeLine.{RangeLine}
use Rattle.lake_format.proofs.FieldsLemmas.{Takes, takes_then, wide32, number_takes, number_again, bytes_take, bytes_takes, bytes_again, text_limits}
use Rattle.lake_format.proofs.FieldsLemmas.{text_takes, text_again, path_of_text, text_of_path}
use Rattle.meta_range.specs.ReadingSteps.{◌>>=◌}
use Rattle.meta_range.specs.Metarange.{Fails, field, last_of, read_head, read_first, read_last, read_line, read_lines, read_count, metarange_from}
use Rattle.meta_range.specs.declared.fault.MetaFault.{MetaFault}
use Rattle.meta_range.specs.declared.fault.MetaFault.TheVariants.{Version, BadRange, Trailing, NoMemory}

-- ---- steps

-- the value of a step that did not fail
pub bind_ok : {A B E : Type 0} (r : Result A E) (f : A → Result B E) (y : B) → (r >>= f) ≡ Ok y → (x : A) × (r ≡ Ok x) × (f x ≡ Ok y)
bind_ok (Ok x) f y e = (x, refl, e)
bind_ok (Err d) f y e = absurd cc

-- a test that did not fail
pub test_ok : {A E : Type 0} (b : Bool) (d : E) (r : Result A E) (y : A) → cond b r (Err d) ≡ Ok y → (b ≡ true) × (r ≡ Ok y)
test_ok true d r y e = (refl, e)
test_ok false d r y e = absurd cc

pub guard_ok : {A E : Type 0} (b : Bool) (d : E) (r : Result A E) (y : A) → cond b (Err d) r ≡ Ok y → (b ≡ false) × (r ≡ Ok y)
guard_ok true d r y e = absurd cc
guard_ok false d r y e = (refl, e)

abbrev done : {A : Type 0} → A → Result A MetaFault
done x = Ok x

ok_is : {A : Type 0} (x y : A) → done x ≡ done y → x ≡ y
ok_is x y e = cc

field_ok : {X : Type 0} (n i : ℕ) (r : Result X FieldFault) (x : X) → field n i r ≡ Ok x → r ≡ Ok x
field_ok n i (Ok y) x e = ap (λ z. Ok z) (ok_is y x e)
field_ok n i (Err fault) x e = absurd cc

-- ---- a loop that reads what is said of ranges

failed : {A B : Type 0} (e : MetaFault) (r : Result A MetaFault) (f : A → Result B MetaFault) → Fails e r → Fails e (r >>= f)
failed NoMemory r f h = tt
failed e r f h = ap (λ x. x >>= f) h

pub goes_on : (n count i : ℕ) (before : List RangeLine) (bytes : List ℕ) (line : RangeLine) (after : List ℕ) (all : Result (List RangeLine × List ℕ) MetaFault)
    → i < count → read_line n before bytes ≡ Ok (line, after)
    → read_lines n (count - i) before bytes ≡ all → read_lines n (count - (i + 1)) (before ++ line ∷ []) after ≡ all
unfolding read_lines
goes_on n count i before bytes line after all lt here so_far =
    let k : count - i ≡ suc (count - (i + 1)) = omega arith in
    sym (ap (λ r. r >>= λ line. read_lines n (count - (i + 1)) (before ++ line.0 ∷ []) line.1) here) ∙ ap (λ m. read_lines n m before bytes) (sym k) ∙ so_far

pub ends : (e : MetaFault) (n count i : ℕ) (before : List RangeLine) (bytes : List ℕ) (all : Result (List RangeLine × List ℕ) MetaFault) → i < count
    → Fails e (read_line n before bytes)
    → read_lines n (count - i) before bytes ≡ all → Fails e all
unfolding read_lines
ends e n count i before bytes all lt fails so_far =
    let k : count - i ≡ suc (count - (i + 1)) = omega arith in
    subst (Fails e) (ap (λ m. read_lines n m before bytes) (sym k) ∙ so_far)
    (failed e (read_line n before bytes) (λ line. read_lines n (count - (i + 1)) (before ++ line.0 ∷ []) line.1) fails)

pub is_done : (n count i : ℕ) (before : List RangeLine) (bytes : List ℕ) (all : Result (List RangeLine × List ℕ) MetaFault) → count ≤ i
    → read_lines n (count - i) before bytes ≡ all → all ≡ Ok (before, bytes)
unfolding read_lines
is_done n count i before bytes all le so_far =
    let k : count - i ≡ 0 = omega arith in
    sym so_far ∙ ap (λ m. read_lines n m before bytes) k

-- ---- ranges that follow each other, with one more at their end

last_of_two : (a b : RangeLine) (lines : List RangeLine) → last_of (a ∷ b ∷ lines) ≡ last_of (b ∷ lines)
last_of_two a b lines =
    let place : length (a ∷ b ∷ lines) - 1 ≡ suc (length (b ∷ lines) - 1) = omega arith in
    ap (λ at. option_map (λ (line : RangeLine). line.last) (slice_get (a ∷ b ∷ lines) at)) place

follow_more : (before : List RangeLine) (line : RangeLine) → FollowOn before → is_next (last_of before) line.first ≡ true → FollowOn (before ++ line ∷ [])
follow_more [] line h next = (tt, tt)
follow_more (a ∷ []) line h next = (lt_is _ next, (tt, tt))
follow_more (a ∷ b ∷ lines) line h next = (h.0, follow_more (b ∷ lines) line h.1 (ap (λ last. is_next last line.first) (sym (last_of_two a b lines)) ∙ next))

next_of_follow : (before : List RangeLine) (line : RangeLine) (more : List RangeLine) → FollowOn (before ++ line ∷ more)
    → is_next (last_of before) line.first ≡ true
next_of_follow [] line more h = refl
next_of_follow (a ∷ []) line more h = ap is_lt h.0
next_of_follow (a ∷ b ∷ lines) line more h = ap (λ last. is_next last line.first) (last_of_two a b lines) ∙ next_of_follow (b ∷ lines) line more h.1

-- ---- what is read is spelled so

-- the name of a range and its count of rows
record HeadRead (bytes : List ℕ) (name : Digest) (rows : ℕ) (rest : List ℕ) : Type 0 where
  pub between : List ℕ
  pub takes_name : Takes bytes name.0 between
  pub takes_rows : Takes between (to_be_bytes w32 rows) rest
  pub digest : IsDigest name.0
  pub some : 1 ≤ rows
  pub few : rows < 2 ^ 32

head_read : (n i : ℕ) (bytes : List ℕ) (head : (Digest × ℕ) × List ℕ) → AreBytes bytes → read_head n i bytes ≡ Ok head → HeadRead bytes head.0.0 head.0.1 head.1
unfolding read_head
head_read n i bytes head fits h =
    let a = bind_ok (field n i (read_bytes 32 bytes))
    (λ name. field n i (read_number w32 name.1) >>= λ rows. cond (eqb rows.0 0) (Err (BadRange i)) (Ok ((record { 0 = name.0 }, rows.0), rows.1))) head h in
    let b =
    bind_ok (field n i (read_number w32 a.0.1)) (λ rows. cond (eqb rows.0 0) (Err (BadRange i)) (Ok ((record { 0 = a.0.0 }, rows.0), rows.1))) head a.2 in
    let g = guard_ok (eqb b.0.0 0) (BadRange i) (Ok ((record { 0 = a.0.0 }, b.0.0), b.0.1)) head b.2 in
    let name_read = field_ok n i (read_bytes 32 bytes) a.0 a.1 in
    let rows_read = field_ok n i (read_number w32 a.0.1) b.0 b.1 in
    let name = bytes_takes 32 bytes a.0.0 a.0.1 fits name_read in
    let long = bytes_take 32 bytes a.0.0 a.0.1 name_read in
    let rows = number_takes w32 (2 ^ 32) wide32 a.0.1 b.0.0 b.0.1 name.0.rest_fits rows_read in
    subst (λ (y : (Digest × ℕ) × List ℕ). HeadRead bytes y.0.0 y.0.1 y.1) {x = ((record { 0 = a.0.0 }, b.0.0), b.0.1)} (ok_is _ head g.1) (record {
      between = a.0.1;
      takes_name = name.0;
      takes_rows = rows.0;
      digest = record { long = long.2; bytes = name.1 };
      some = omega (arith, eqb-false b.0.0 0 g.0);
      few = rows.1;
    })

-- a path of a range
record PathRead (bytes path rest : List ℕ) : Type 0 where
  pub takes : Takes bytes (short_text path) rest
  pub limits : path_fault path ≡ None

path_read : (bytes path rest : List ℕ) → AreBytes bytes → read_path bytes ≡ Ok (path, rest) → PathRead bytes path rest
path_read bytes path rest fits h =
    record { takes = text_takes 1 1024 bytes path rest fits h; limits = path_of_text path (text_limits 1 1024 bytes path rest h) }

first_read : (n : ℕ) (before : List RangeLine) (bytes : List ℕ) (path : List ℕ × List ℕ) → AreBytes bytes → read_first n before bytes ≡ Ok path
    → PathRead bytes path.0 path.1 × (is_next (last_of before) path.0 ≡ true)
unfolding read_first
first_read n before bytes path fits h =
    let i = length before in
    let p = bind_ok (field n i (read_path bytes)) (λ path. cond (is_next (last_of before) path.0) (Ok path) (Err (BadRange i))) path h in
    let t = test_ok (is_next (last_of before) p.0.0) (BadRange i) (Ok p.0) path p.2 in
    subst (λ (x : List ℕ × List ℕ). PathRead bytes x.0 x.1 × (is_next (last_of before) x.0 ≡ true)) (ok_is p.0 path t.1)
    (path_read bytes p.0.0 p.0.1 fits (field_ok n i (read_path bytes) p.0 p.1), t.0)

last_read : (n i : ℕ) (first bytes : List ℕ) (path : List ℕ × List ℕ) → AreBytes bytes → read_last n i first bytes ≡ Ok path
    → PathRead bytes path.0 path.1 × (is_gt (byte_order first path.0) ≡ false)
unfolding read_last
last_read n i first bytes path fits h =
    let p = bind_ok (field n i (read_path bytes)) (λ path. cond (is_gt (byte_order first path.0)) (Err (BadRange i)) (Ok path)) path h in
    let t = guard_ok (is_gt (byte_order first p.0.0)) (BadRange i) (Ok p.0) path p.2 in
    subst (λ (x : List ℕ × List ℕ). PathRead bytes x.0 x.1 × (is_gt (byte_order first x.0) ≡ false)) (ok_is p.0 path t.1)
    (path_read bytes p.0.0 p.0.1 fits (field_ok n i (read_path bytes) p.0 p.1), t.0)

record LineRead (before : List RangeLine) (bytes : List ℕ) (line : RangeLine) (rest : List ℕ) : Type 0 where
  pub takes : Takes bytes (line_spelling line) rest
  pub limits : IsLine line
  pub next : is_next (last_of before) line.first ≡ true

line_read : (n : ℕ) (before : List RangeLine) (bytes : List ℕ) (x : RangeLine × List ℕ) → AreBytes bytes → read_line n before bytes ≡ Ok x
    → LineRead before bytes x.0 x.1
unfolding read_line line_spelling
line_read n before bytes x fits h =
    let i = length before in
    let a = bind_ok (read_head n i bytes) (λ head. read_first n before head.1 >>= λ first. read_last n i first.0 first.1 >>= λ last.
    Ok (record { name = head.0.0; rows = head.0.1; first = first.0; last = last.0 }, last.1)) x h in
    let b = bind_ok (read_first n before a.0.1)
    (λ first. read_last n i first.0 first.1 >>= λ last. Ok (record { name = a.0.0.0; rows = a.0.0.1; first = first.0; last = last.0 }, last.1)) x a.2 in
    let c = bind_ok (read_last n i b.0.0 b.0.1) (λ last. Ok (record { name = a.0.0.0; rows = a.0.0.1; first = b.0.0; last = last.0 }, last.1)) x b.2 in
    let head = head_read n i bytes a.0 fits a.1 in
    let first = first_read n before a.0.1 b.0 head.takes_rows.rest_fits b.1 in
    let last = last_read n i b.0.0 b.0.1 c.0 first.0.takes.rest_fits c.1 in
    let rows = to_be_bytes w32 a.0.0.1 in
    let line : RangeLine = record { name = a.0.0.0; rows = a.0.0.1; first = b.0.0; last = c.0.0 } in
    subst (λ (y : RangeLine × List ℕ). LineRead before bytes y.0 y.1) {x = (line, c.0.1)} (ok_is (line, c.0.1) x c.2) (record {
      takes =
          takes_then bytes a.0.0.0.0 head.between (rows ++ (short_text b.0.0 ++ short_text c.0.0)) c.0.1 head.takes_name
          (takes_then head.between rows a.0.1 (short_text b.0.0 ++ short_text c.0.0) c.0.1 head.takes_rows
          (takes_then a.0.1 (short_text b.0.0) b.0.1 (short_text c.0.0) c.0.1 first.0.takes last.0.takes));
      limits = record { span = record { some = head.some; order = last.1 }; name = head.digest; wide = head.few; first = first.0.limits; last = last.0.limits };
      next = first.1;
    })

pub record LinesRead (more : ℕ) (before : List RangeLine) (bytes : List ℕ) (lines : List RangeLine) (rest : List ℕ) : Type 0 where
  pub spelled : flat_map line_spelling before ++ bytes ≡ flat_map line_spelling lines ++ rest
  pub rest_fits : AreBytes rest
  pub count : length lines ≡ length before + more
  pub follow : FollowOn before → FollowOn lines
  pub each : AllByRecursion IsLine before → AllByRecursion IsLine lines

all_end : (before : List RangeLine) (line : RangeLine) → AllByRecursion IsLine before → IsLine line → AllByRecursion IsLine (before ++ line ∷ [])
all_end [] line each is = (is, tt)
all_end (a ∷ before) line each is = (each.0, all_end before line each.1 is)

lines_read : (n count : ℕ) (before : List RangeLine) (bytes : List ℕ) (x : List RangeLine × List ℕ) → AreBytes bytes → read_lines n count before bytes ≡ Ok x
    → LinesRead count before bytes x.0 x.1
unfolding read_lines
lines_read n zero before bytes x fits h =
    subst (λ (y : List RangeLine × List ℕ). LinesRead 0 before bytes y.0 y.1) (ok_is (before, bytes) x h)
    (record { spelled = refl; rest_fits = fits; count = omega arith; follow = λ a. a; each = λ a. a })
lines_read n (suc count) before bytes x fits h =
    let a = bind_ok (read_line n before bytes) (λ line. read_lines n count (before ++ line.0 ∷ []) line.1) x h in
    let line = a.0.0 in
    let one = line_read n before bytes a.0 fits a.1 in
    let more = lines_read n count (before ++ line ∷ []) a.0.1 x one.takes.rest_fits a.2 in
    let here : flat_map line_spelling (before ++ line ∷ []) ≡ flat_map line_spelling before ++ line_spelling line =
    flat_map-append line_spelling before (line ∷ []) ∙ ap (λ l. flat_map line_spelling before ++ l) (append-nil (line_spelling line)) in
    record {
      spelled = ap (λ l. flat_map line_spelling before ++ l) one.takes.parts ∙ sym (append_assoc (flat_map line_spelling before) (line_spelling line) a.0.1)
          ∙ ap (λ l. l ++ a.0.1) (sym here) ∙ more.spelled;
      rest_fits = more.rest_fits;
      count = omega (arith, more.count, length-append before (line ∷ []));
      follow = λ h. more.follow (follow_more before line h one.next);
      each = λ h. more.each (all_end before line h one.limits);
    }

-- the version and the count
record CountRead (bytes : List ℕ) (count : ℕ) (rest : List ℕ) : Type 0 where
  pub takes : Takes bytes (1 ∷ to_be_bytes w32 count) rest
  pub few : count < 2 ^ 32

count_read : (n : ℕ) (bytes : List ℕ) (count : ℕ) (rest : List ℕ) → AreBytes bytes → read_count n bytes ≡ Ok (count, rest) → CountRead bytes count rest
unfolding read_count
count_read n [] count rest fits h = absurd cc
count_read n (version ∷ bytes) count rest fits h =
    let v = test_ok (eqb version 1) (Version version) (field n 0 (read_number w32 bytes)) (count, rest) h in
    let number = field_ok n 0 (read_number w32 bytes) (count, rest) v.1 in
    let takes = number_takes w32 (2 ^ 32) wide32 bytes count rest (λ i. fits (suc i)) number in
    record {
      takes = record { parts = ap (λ b. b ∷ bytes) (eqb-true version 1 v.0) ∙ ap (λ (l : List ℕ). 1 ∷ l) takes.0.parts; rest_fits = takes.0.rest_fits };
      few = takes.1;
    }

none_left : (rest : List ℕ) → length rest ≡ 0 → rest ≡ []
none_left [] e = refl
none_left (b ∷ rest) e = absurd (omega arith)

pub found : (bytes : List ℕ) (lines : List RangeLine) → AreBytes bytes → metarange_from bytes ≡ Ok lines
    → IsMetarange lines × (bytes ≡ metarange_spelling lines)
unfolding metarange_from metarange_spelling
found bytes lines fits h =
    let n = length bytes in
    let a = bind_ok (read_count n bytes)
    (λ count. read_lines n count.0 [] count.1 >>= λ lines. cond (eqb (length lines.1) 0) (Ok lines.0) (Err (Trailing (length lines.1)))) lines h in
    let b = bind_ok (read_lines n a.0.0 [] a.0.1) (λ lines. cond (eqb (length lines.1) 0) (Ok lines.0) (Err (Trailing (length lines.1)))) lines a.2 in
    let t = test_ok (eqb (length b.0.1) 0) (Trailing (length b.0.1)) (Ok b.0.0) lines b.2 in
    let c = count_read n bytes a.0.0 a.0.1 fits a.1 in
    let r = lines_read n a.0.0 [] a.0.1 b.0 c.takes.rest_fits b.1 in
    let count : a.0.0 ≡ length b.0.0 = omega (arith, r.count) in
    let body : a.0.1 ≡ flat_map line_spelling b.0.0 =
    r.spelled ∙ ap (λ l. flat_map line_spelling b.0.0 ++ l) (none_left b.0.1 (eqb-true (length b.0.1) 0 t.0)) ∙ append-nil (flat_map line_spelling b.0.0) in
    subst (λ lines. IsMetarange lines × (bytes ≡ metarange_spelling lines)) (ok_is b.0.0 lines t.1) (
      record { few = omega (arith, c.few); each = r.each tt; follow = r.follow tt },
      c.takes.parts ∙ ap (λ k. 1 ∷ (to_be_bytes w32 k ++ a.0.1)) count ∙ ap (λ l. 1 ∷ (to_be_bytes w32 (length b.0.0) ++ l)) body,
    )

-- ---- what is spelled is read

path_again : (path rest : List ℕ) → path_fault path ≡ None → read_path (short_text path ++ rest) ≡ Ok (path, rest)
path_again path rest is = text_again 1 1024 path rest (omega arith) (text_of_path path is)

line_again : (n : ℕ) (before : List RangeLine) (line : RangeLine) (rest : List ℕ) → IsLine line → is_next (last_of before) line.first ≡ true
    → read_line n before (line_spelling line ++ rest) ≡ Ok (line, rest)
unfolding read_line line_spelling read_head read_first read_last
line_again n before line rest is next =
    let rows = to_be_bytes w32 line.rows in
    let high = short_text line.last ++ rest in
    let low = short_text line.first ++ high in
    let regrouped : line.name.0 ++ (rows ++ (short_text line.first ++ short_text line.last)) ++ rest ≡ line.name.0 ++ (rows ++ low) = simp append_assoc in
    let some : eqb line.rows 0 ≡ false = ne_eqb line.rows 0 (λ none. omega (arith, is.span.some)) in
    ap (read_line n before) regrouped
    ∙ rw (
      bytes_again 32 line.name.0 (rows ++ low) is.name.long,
      number_again w32 (2 ^ 32) wide32 line.rows low is.wide,
      some,
      path_again line.first high is.first,
      next,
      path_again line.last rest is.last,
      is.span.order,
    ) refl

lines_again : (n : ℕ) (before lines : List RangeLine) (rest : List ℕ) → FollowOn (before ++ lines) → AllByRecursion IsLine lines
    → read_lines n (length lines) before (flat_map line_spelling lines ++ rest) ≡ Ok (before ++ lines, rest)
unfolding read_lines
lines_again n before [] rest h each = ap (λ (l : List RangeLine). Ok (l, rest)) (sym (append-nil before))
lines_again n before (line ∷ lines) rest h each =
    let tail = flat_map line_spelling lines ++ rest in
    let regrouped : flat_map line_spelling (line ∷ lines) ++ rest ≡ line_spelling line ++ tail =
    ap (λ l. l ++ rest) (flat_map-cons line_spelling line lines) ∙ append_assoc (line_spelling line) (flat_map line_spelling lines) rest in
    let together : (before ++ line ∷ []) ++ lines ≡ before ++ line ∷ lines = append_assoc before (line ∷ []) lines in
    ap (read_lines n (suc (length lines)) before) regrouped
    ∙ ap (λ r. r >>= λ line. read_lines n (length lines) (before ++ line.0 ∷ []) line.1)
    (line_again n before line tail each.0 (next_of_follow before line lines h))
    ∙ lines_again n (before ++ line ∷ []) lines rest (subst FollowOn (sym together) h) each.1
    ∙ ap (λ (l : List RangeLine). Ok (l, rest)) together

pub again : (lines : List RangeLine) → IsMetarange lines → metarange_from (metarange_spelling lines) ≡ Ok lines
unfolding metarange_from metarange_spelling read_count
again lines is =
    let n = length (metarange_spelling lines) in
    let body : read_lines n (length lines) [] (flat_map line_spelling lines) ≡ Ok (lines, []) =
    ap (read_lines n (length lines) []) (sym (append-nil (flat_map line_spelling lines))) ∙ lines_again n [] lines [] is.follow is.each in
    rw (number_again w32 (2 ^ 32) wide32 (length lines) (flat_map line_spelling lines) is.few, body) refl

pub apart : (lines others : List RangeLine) → IsMetarange lines → IsMetarange others → metarange_spelling lines ≡ metarange_spelling others → lines ≡ others
apart lines others a b e = ok_is lines others (sym (again lines a) ∙ ap metarange_from e ∙ again others b)
