-- A field that is read is the field that was written, and what was written is read again.
use Rattle.std.proofs.Common.{◌≡◌, ℕ, ◌+◌, ◌^◌, ◌<◌, ◌≤◌, Bool, true, false, cond, eqb, ltb, ◌||◌, Some, None, List, ◌++◌, length, take, drop, Result, Ok, Err}
use Rattle.std.proofs.Common.{refl, sym, ap, subst, ◌∙◌, append_assoc, arith, inl, inr}
use Rattle.std.specs.Int.{Width, w16, w32, w64, byte_len, from_be_bytes, to_be_bytes}
use Rattle.std.specs.Str.{is_utf8}
use Rattle.std.proofs.lemmas.Bool.{cases_lt, cases_Bool, eqb-true, eqb-false, ltb-false, le-ltb}
use Rattle.std.proofs.lemmas.List.{take_at, drop_at, take-append-drop, length-append, length-take, get_or-drop, get_or-take, get_or_past}
use Rattle.std.proofs.lemmas.Nat.{be_bytes_2, be_bytes_4, be_bytes_8, from_be_bytes-to_be_bytes_2, from_be_bytes-to_be_bytes_4, from_be_bytes-to_be_bytes_8}
use Rattle.lake_format.specs.declared.fields.FieldFault.{FieldFault}
use Rattle.lake_format.specs.declared.fields.FieldFault.TheVariants.{Short, Bad}
use Rattle.lake_base.specs.Names.{path_fault}
use Rattle.lake_base.specs.declared.names.NameFault.TheVariants.{Empty, TooLong, NotUtf8}
use Rattle.lake_format.specs.Spelling.{AreBytes, IsText, short_text, long_text}
use Rattle.lake_format.specs.Reading.{◌>>=◌, read_number, read_bytes, read_utf8, text_behind, read_text, read_long_text}

bytes-drop : (n : ℕ) (bytes : List ℕ) → AreBytes bytes → AreBytes (drop n bytes)
bytes-drop n bytes h i = rw get_or-drop (h (n + i))

bytes-take : (n : ℕ) (bytes : List ℕ) → AreBytes bytes → AreBytes (take n bytes)
bytes-take n bytes h i =
    elim (cases_lt i n) [
      | inl lt ↦ rw (get_or-take n bytes i 0 lt) (h i)
      | inr le ↦ rw (get_or_past (take n bytes) i 0 (omega (arith, length-take n bytes))) (omega arith)
    ]

-- the value of a step that did not fail
pub bind_ok : {A B : Type 0} (r : Result A FieldFault) (f : A → Result B FieldFault) (y : B) → (r >>= f) ≡ Ok y → (x : A) × (r ≡ Ok x) × (f x ≡ Ok y)
bind_ok (Ok x) f y e = (x, refl, e)
bind_ok (Err d) f y e = absurd cc

-- a test that did not fail
pub guard_ok : {A : Type 0} (b : Bool) (d : FieldFault) (r : Result A FieldFault) (y : A) → cond b (Err d) r ≡ Ok y → (b ≡ false) × (r ≡ Ok y)
guard_ok true d r y e = absurd cc
guard_ok false d r y e = (refl, e)

pub test_ok : {A : Type 0} (b : Bool) (d : FieldFault) (r : Result A FieldFault) (y : A) → cond b r (Err d) ≡ Ok y → (b ≡ true) × (r ≡ Ok y)
test_ok true d r y e = (refl, e)
test_ok false d r y e = absurd cc

abbrev done : {A : Type 0} → A → Result A FieldFault
done x = Ok x

pub ok_is : {A : Type 0} (x y : A) → done x ≡ done y → x ≡ y
ok_is x y e = cc

pub neither : (a b : Bool) → (a || b) ≡ false → (a ≡ false) × (b ≡ false)
neither true b e = absurd cc
neither false b e = (refl, e)

-- what a reader took from the front
pub record Takes (bytes text rest : List ℕ) : Type 0 where
  pub parts : bytes ≡ text ++ rest
  pub rest_fits : AreBytes rest

pub takes_then : (a x b y c : List ℕ) → Takes a x b → Takes b y c → Takes a (x ++ y) c
takes_then a x b y c p q = record { parts = p.parts ∙ ap (λ (t : List ℕ). x ++ t) q.parts ∙ sym (append_assoc x y c); rest_fits = q.rest_fits }

-- ---- numbers

pub record IsWide (w : Width) (limit : ℕ) : Type 0 where
  pub len : (n : ℕ) → length (to_be_bytes w n) ≡ byte_len w
  pub back : (bytes : List ℕ) → length bytes ≡ byte_len w → AreBytes bytes → to_be_bytes w (from_be_bytes w bytes) ≡ bytes
  pub again : (n : ℕ) → n < limit → from_be_bytes w (to_be_bytes w n) ≡ n
  pub below : (bytes : List ℕ) → AreBytes bytes → from_be_bytes w bytes < limit

pub wide16 : IsWide w16 (2 ^ 16)
wide16 = record {
  len = λ n. refl;
  back = λ bytes len fits. be_bytes_2 bytes _ len fits refl;
  again = λ n lt. from_be_bytes-to_be_bytes_2 n lt;
  below = λ bytes fits. omega (arith, fits 0, fits 1);
}

pub wide32 : IsWide w32 (2 ^ 32)
wide32 = record {
  len = λ n. refl;
  back = λ bytes len fits. be_bytes_4 bytes _ len fits refl;
  again = λ n lt. from_be_bytes-to_be_bytes_4 n lt;
  below = λ bytes fits. omega (arith, fits 0, fits 1, fits 2, fits 3);
}

pub wide64 : IsWide w64 (2 ^ 64)
wide64 = record {
  len = λ n. refl;
  back = λ bytes len fits. be_bytes_8 bytes _ len fits refl;
  again = λ n lt. from_be_bytes-to_be_bytes_8 n lt;
  below = λ bytes fits. omega (arith, fits 0, fits 1, fits 2, fits 3, fits 4, fits 5, fits 6, fits 7);
}

pub number_takes : (w : Width) (limit : ℕ) (wide : IsWide w limit) (bytes : List ℕ) (n : ℕ) (rest : List ℕ) → AreBytes bytes
    → read_number w bytes ≡ Ok (n, rest) → Takes bytes (to_be_bytes w n) rest × (n < limit)
number_takes w limit wide bytes n rest fits e =
    let g =
    guard_ok (ltb (length bytes) (byte_len w)) (Short (length bytes)) (Ok (from_be_bytes w (take (byte_len w) bytes), drop (byte_len w) bytes)) (n, rest) e in
    let made = ok_is (from_be_bytes w (take (byte_len w) bytes), drop (byte_len w) bytes) (n, rest) g.1 in
    let long : byte_len w ≤ length bytes = ltb-false _ _ g.0 in
    let n-is : from_be_bytes w (take (byte_len w) bytes) ≡ n = ap (λ (p : ℕ × List ℕ). p.0) made in
    let rest-is : drop (byte_len w) bytes ≡ rest = ap (λ (p : ℕ × List ℕ). p.1) made in
    let front : to_be_bytes w n ≡ take (byte_len w) bytes =
    rw (← n-is) (wide.back (take (byte_len w) bytes) (omega (arith, length-take (byte_len w) bytes)) (bytes-take (byte_len w) bytes fits)) in (
      record { parts = rw (front, ← rest-is) (sym (take-append-drop (byte_len w) bytes)); rest_fits = rw (← rest-is) (bytes-drop (byte_len w) bytes fits) },
      rw (← n-is) (wide.below (take (byte_len w) bytes) (bytes-take (byte_len w) bytes fits)),
    )

pub number_again : (w : Width) (limit : ℕ) (wide : IsWide w limit) (n : ℕ) (rest : List ℕ) → n < limit → read_number w (to_be_bytes w n ++ rest) ≡ Ok (n, rest)
number_again w limit wide n rest lt =
    let len = wide.len n in
    let long : ltb (length (to_be_bytes w n ++ rest)) (byte_len w) ≡ false = le-ltb _ _ (omega (arith, length-append (to_be_bytes w n) rest)) in
    rw (long, take_at (to_be_bytes w n) rest (byte_len w) len, drop_at (to_be_bytes w n) rest (byte_len w) len, wide.again n lt) refl

-- ---- bytes

pub bytes_take : (n : ℕ) (bytes text rest : List ℕ) → read_bytes n bytes ≡ Ok (text, rest) → (text ≡ take n bytes) × (rest ≡ drop n bytes) × (length text ≡ n)
bytes_take n bytes text rest e =
    let g = guard_ok (ltb (length bytes) n) (Short (length bytes)) (Ok (take n bytes, drop n bytes)) (text, rest) e in
    let made = ok_is (take n bytes, drop n bytes) (text, rest) g.1 in
    let long : n ≤ length bytes = ltb-false _ _ g.0 in
    let text-is : text ≡ take n bytes = sym (ap (λ (p : List ℕ × List ℕ). p.0) made) in
    (text-is, sym (ap (λ (p : List ℕ × List ℕ). p.1) made), ap length text-is ∙ omega (arith, length-take n bytes))

pub bytes_takes : (n : ℕ) (bytes text rest : List ℕ) → AreBytes bytes → read_bytes n bytes ≡ Ok (text, rest) → Takes bytes text rest × AreBytes text
bytes_takes n bytes text rest fits e =
    let t = bytes_take n bytes text rest e in
    (record { parts = rw (t.0, t.1) (sym (take-append-drop n bytes)); rest_fits = rw t.1 (bytes-drop n bytes fits) }, rw t.0 (bytes-take n bytes fits))

pub bytes_again : (n : ℕ) (text rest : List ℕ) → length text ≡ n → read_bytes n (text ++ rest) ≡ Ok (text, rest)
bytes_again n text rest len =
    let long : ltb (length (text ++ rest)) n ≡ false = le-ltb _ _ (omega (arith, length-append text rest, len)) in
    rw (long, take_at text rest n len, drop_at text rest n len) refl

-- ---- texts

pub utf8_take : (left n : ℕ) (bytes text rest : List ℕ) → read_utf8 left n bytes ≡ Ok (text, rest)
    → (read_bytes n bytes ≡ Ok (text, rest)) × (is_utf8 text ≡ true)
utf8_take left n bytes text rest e =
    let g = guard_ok (ltb (length bytes) n) (Short left) (cond (is_utf8 (take n bytes)) (Ok (take n bytes, drop n bytes)) (Err (Bad left))) (text, rest) e in
    let t = test_ok (is_utf8 (take n bytes)) (Bad left) (Ok (take n bytes, drop n bytes)) (text, rest) g.1 in
    let same = ok_is (take n bytes, drop n bytes) (text, rest) t.1 in (
      rw g.0 t.1,
      subst (λ (p : List ℕ × List ℕ). is_utf8 p.0 ≡ true) same t.0,
    )

-- a text behind its length
record TextParts (w : Width) (least most : ℕ) (bytes text rest : List ℕ) : Type 0 where
  pub count : ℕ
  pub middle : List ℕ
  pub count_read : read_number w bytes ≡ Ok (count, middle)
  pub enough : least ≤ count
  pub few : count ≤ most
  pub text_read : read_bytes count middle ≡ Ok (text, rest)
  pub utf8 : is_utf8 text ≡ true

text_parts : (w : Width) (least most : ℕ) (bytes text rest : List ℕ) → text_behind w least most bytes ≡ Ok (text, rest) → TextParts w least most bytes text rest
text_parts w least most bytes text rest e =
    let b =
    bind_ok (read_number w bytes) (λ n. cond (ltb n.0 least || ltb most n.0) (Err (Bad (length bytes))) (read_utf8 (length bytes) n.0 n.1)) (text, rest) e in
    let n = b.0 in
    let g = guard_ok (ltb n.0 least || ltb most n.0) (Bad (length bytes)) (read_utf8 (length bytes) n.0 n.1) (text, rest) b.2 in
    let two = neither (ltb n.0 least) (ltb most n.0) g.0 in
    let u = utf8_take (length bytes) n.0 n.1 text rest g.1 in
    record { count = n.0; middle = n.1; count_read = b.1; enough = ltb-false _ _ two.0; few = ltb-false _ _ two.1; text_read = u.0; utf8 = u.1 }

-- a text that is read is within its limits
behind_limits : (w : Width) (least most : ℕ) (bytes text rest : List ℕ) → text_behind w least most bytes ≡ Ok (text, rest) → IsText least most text
behind_limits w least most bytes text rest e =
    let p = text_parts w least most bytes text rest e in
    let len = (bytes_take p.count p.middle text rest p.text_read).2 in
    record { long = omega (arith, p.enough, len); short = omega (arith, p.few, len); utf8 = p.utf8 }

behind_takes : (w : Width) (limit : ℕ) (wide : IsWide w limit) (least most : ℕ) (bytes text rest : List ℕ) → AreBytes bytes
    → text_behind w least most bytes ≡ Ok (text, rest) → Takes bytes (to_be_bytes w (length text) ++ text) rest
behind_takes w limit wide least most bytes text rest fits e =
    let p = text_parts w least most bytes text rest e in
    let len = (bytes_take p.count p.middle text rest p.text_read).2 in
    let t = number_takes w limit wide bytes p.count p.middle fits p.count_read in
    let both = takes_then bytes (to_be_bytes w p.count) p.middle text rest t.0 (bytes_takes p.count p.middle text rest t.0.rest_fits p.text_read).0 in
    subst (λ (k : ℕ). Takes bytes (to_be_bytes w k ++ text) rest) (sym len) both

behind_again : (w : Width) (limit : ℕ) (wide : IsWide w limit) (least most : ℕ) (text rest : List ℕ) → most < limit → IsText least most text
    → text_behind w least most ((to_be_bytes w (length text) ++ text) ++ rest) ≡ Ok (text, rest)
behind_again w limit wide least most text rest small is =
    let regrouped : (to_be_bytes w (length text) ++ text) ++ rest ≡ to_be_bytes w (length text) ++ (text ++ rest) =
    append_assoc (to_be_bytes w (length text)) text rest in
    let enough : ltb (length text) least ≡ false = le-ltb _ _ is.long in
    let few : ltb most (length text) ≡ false = le-ltb _ _ is.short in
    let long : ltb (length (text ++ rest)) (length text) ≡ false = le-ltb _ _ (omega (arith, length-append text rest)) in
    ap (text_behind w least most) regrouped
    ∙ rw (
      number_again w limit wide (length text) (text ++ rest) (omega (arith, is.short)),
      enough,
      few,
      long,
      take_at text rest (length text) refl,
      drop_at text rest (length text) refl,
      is.utf8,
    ) refl

pub text_limits : (least most : ℕ) (bytes text rest : List ℕ) → read_text least most bytes ≡ Ok (text, rest) → IsText least most text
unfolding read_text
text_limits least most bytes text rest e = behind_limits w16 least most bytes text rest e

pub text_takes : (least most : ℕ) (bytes text rest : List ℕ) → AreBytes bytes → read_text least most bytes ≡ Ok (text, rest)
    → Takes bytes (short_text text) rest
unfolding read_text
text_takes least most bytes text rest fits e = behind_takes w16 (2 ^ 16) wide16 least most bytes text rest fits e

pub text_again : (least most : ℕ) (text rest : List ℕ) → most < 2 ^ 16 → IsText least most text
    → read_text least most (short_text text ++ rest) ≡ Ok (text, rest)
unfolding read_text
text_again least most text rest small is = behind_again w16 (2 ^ 16) wide16 least most text rest small is

pub long_text_limits : (most : ℕ) (bytes text rest : List ℕ) → read_long_text most bytes ≡ Ok (text, rest) → IsText 0 most text
unfolding read_long_text
long_text_limits most bytes text rest e = behind_limits w32 0 most bytes text rest e

pub long_text_takes : (most : ℕ) (bytes text rest : List ℕ) → AreBytes bytes → read_long_text most bytes ≡ Ok (text, rest) → Takes bytes (long_text text) rest
unfolding read_long_text
long_text_takes most bytes text rest fits e = behind_takes w32 (2 ^ 32) wide32 0 most bytes text rest fits e

pub long_text_again : (most : ℕ) (text rest : List ℕ) → most < 2 ^ 32 → IsText 0 most text → read_long_text most (long_text text ++ rest) ≡ Ok (text, rest)
unfolding read_long_text
long_text_again most text rest small is = behind_again w32 (2 ^ 32) wide32 0 most text rest small is

-- ---- paths

no_fault : (empty long utf8 : Bool) → cond empty (Some Empty) (cond long (Some TooLong) (cond utf8 None (Some NotUtf8))) ≡ None
    → (empty ≡ false) × (long ≡ false) × (utf8 ≡ true)
no_fault true long utf8 e = absurd cc
no_fault false true utf8 e = absurd cc
no_fault false false true e = (refl, refl, refl)
no_fault false false false e = absurd cc

some_bytes : (bytes : List ℕ) → 1 ≤ length bytes → eqb (length bytes) 0 ≡ false
some_bytes bytes some =
    elim (cases_Bool (eqb (length bytes) 0)) [
      | inl none ↦ absurd (omega (arith, eqb-true (length bytes) 0 none))
      | inr not_none ↦ not_none
    ]

-- a path is a text of 1 to 1,024 bytes
pub path_of_text : (path : List ℕ) → IsText 1 1024 path → path_fault path ≡ None
path_of_text path is =
    let short : ltb 1024 (length path) ≡ false = le-ltb _ _ is.short in
    rw (some_bytes path is.long, short, is.utf8) refl

pub text_of_path : (path : List ℕ) → path_fault path ≡ None → IsText 1 1024 path
text_of_path path none =
    let f = no_fault (eqb (length path) 0) (ltb 1024 (length path)) (is_utf8 path) none in
    record { long = omega (arith, eqb-false (length path) 0 f.0); short = ltb-false _ _ f.1; utf8 = f.2 }
