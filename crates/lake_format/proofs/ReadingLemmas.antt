-- What is read or refused stays so whatever follows, at the same place from the front, and enough bytes are never too few.
use Rattle.std.proofs.Common.{◌≡◌, ◌≢◌, ℕ, zero, suc, ◌+◌, ◌*◌, ◌≤◌, Bool, true, false, cond, ltb, ◌||◌, List, [], ◌∷◌, ◌++◌, length, take, drop, Option, Some}
use Rattle.std.proofs.Common.{None, Result, Ok, Err, nat_eq, codes, refl, sym, ap, ◌∙◌, arith}
use Rattle.std.specs.Int.{Width, w16, w32, w64, byte_len, from_be_bytes}
use Rattle.std.specs.List.{starts_with}
use Rattle.std.specs.Str.{is_utf8}
use Rattle.std.proofs.lemmas.Bool.{ltb-false, le-ltb}
use Rattle.std.proofs.lemmas.List.{take-append-le, drop-append-le, length-append, length-drop}
use Rattle.lake_values.specs.Entry.{EntryValue}
use Rattle.lake_values.specs.declared.entry.Place.{Place}
use Rattle.lake_values.specs.declared.entry.Place.TheVariants.{Own, External}
use Rattle.lake_format.specs.declared.fields.FieldFault.{FieldFault}
use Rattle.lake_format.specs.declared.fields.FieldFault.TheVariants.{Short, Bad, NoMemory}
use Rattle.lake_format.specs.Reading.{◌>>=◌, read_number, read_bytes, read_utf8, text_behind, read_text, read_long_text, read_address, read_own, read_external}
use Rattle.lake_format.specs.Reading.{read_place, is_next, read_key, read_pair, read_pairs, read_metadata, read_entry}
use Rattle.lake_format.proofs.FieldsLemmas.{bind_ok, guard_ok, ok_is, neither}

-- a reader of a value from the front
abbrev pub Reader : Type 0 → Type 0
Reader X = List ℕ → Result (X × List ℕ) FieldFault

-- what the reader read or refused stays so, it takes at most so many bytes, and that many are enough for it
pub record IsSteady {X : Type 0} (most : ℕ) (read : Reader X) : Type 0 where
  pub found : (bytes more : List ℕ) (x : X) (rest : List ℕ) → read bytes ≡ Ok (x, rest) → read (bytes ++ more) ≡ Ok (x, rest ++ more)
  pub bad : (bytes more : List ℕ) (left : ℕ) → read bytes ≡ Err (Bad left) → read (bytes ++ more) ≡ Err (Bad (left + length more))
  pub bad_place : (bytes : List ℕ) (left : ℕ) → read bytes ≡ Err (Bad left) → left ≤ length bytes
  pub short_place : (bytes : List ℕ) (left : ℕ) → read bytes ≡ Err (Short left) → left ≤ length bytes
  pub takes : (bytes : List ℕ) (x : X) (rest : List ℕ) → read bytes ≡ Ok (x, rest) → length bytes ≤ most + length rest
  pub shrinks : (bytes : List ℕ) (x : X) (rest : List ℕ) → read bytes ≡ Ok (x, rest) → length rest ≤ length bytes
  pub enough : (bytes : List ℕ) (left : ℕ) → most ≤ length bytes → read bytes ≢ Err (Short left)

-- the same of what is left of a field that begins where `start` bytes are left
pub record IsSteadyPart {X : Type 0} (most : ℕ) (read : ℕ → Reader X) : Type 0 where
  pub found : (start : ℕ) (bytes more : List ℕ) (x : X) (rest : List ℕ) → read start bytes ≡ Ok (x, rest)
      → read (start + length more) (bytes ++ more) ≡ Ok (x, rest ++ more)
  pub bad : (start : ℕ) (bytes more : List ℕ) (left : ℕ) → read start bytes ≡ Err (Bad left)
      → read (start + length more) (bytes ++ more) ≡ Err (Bad (left + length more))
  pub bad_place : (start : ℕ) (bytes : List ℕ) (left : ℕ) → length bytes ≤ start → read start bytes ≡ Err (Bad left) → left ≤ start
  pub short_place : (start : ℕ) (bytes : List ℕ) (left : ℕ) → length bytes ≤ start → read start bytes ≡ Err (Short left) → left ≤ start
  pub takes : (start : ℕ) (bytes : List ℕ) (x : X) (rest : List ℕ) → read start bytes ≡ Ok (x, rest) → length bytes ≤ most + length rest
  pub shrinks : (start : ℕ) (bytes : List ℕ) (x : X) (rest : List ℕ) → read start bytes ≡ Ok (x, rest) → length rest ≤ length bytes
  pub enough : (start : ℕ) (bytes : List ℕ) (left : ℕ) → most ≤ length bytes → read start bytes ≢ Err (Short left)

module _ {X : Type 0} where
  abbrev fault : FieldFault → Result (X × List ℕ) FieldFault
  fault e = Err e

  bad_is : (left at : ℕ) → fault (Bad left) ≡ fault (Bad at) → left ≡ at
  bad_is left at e = cc

  short_is : (left at : ℕ) → fault (Short left) ≡ fault (Short at) → left ≡ at
  short_is left at e = cc

  -- a whole field as a part
  pub part : (m : ℕ) (read : Reader X) → IsSteady m read → IsSteadyPart m (λ start. read)
  part m read a = record {
    found = λ start. a.found;
    bad = λ start. a.bad;
    bad_place = λ start bytes left le e. omega (arith, a.bad_place bytes left e);
    short_place = λ start bytes left le e. omega (arith, a.short_place bytes left e);
    takes = λ start. a.takes;
    shrinks = λ start. a.shrinks;
    enough = λ start. a.enough;
  }

  -- a higher limit
  pub wider : (n m : ℕ) (read : Reader X) → n ≤ m → IsSteady n read → IsSteady m read
  wider n m read le a = record {
    found = a.found;
    bad = a.bad;
    bad_place = a.bad_place;
    short_place = a.short_place;
    takes = λ bytes x rest e. omega (arith, a.takes bytes x rest e);
    shrinks = a.shrinks;
    enough = λ bytes left long. a.enough bytes left (omega arith);
  }

  pub wider_part : (n m : ℕ) (read : ℕ → Reader X) → n ≤ m → IsSteadyPart n read → IsSteadyPart m read
  wider_part n m read le a = record {
    found = a.found;
    bad = a.bad;
    bad_place = a.bad_place;
    short_place = a.short_place;
    takes = λ start bytes x rest e. omega (arith, a.takes start bytes x rest e);
    shrinks = a.shrinks;
    enough = λ start bytes left long. a.enough start bytes left (omega arith);
  }

  -- a value that takes nothing
  pub value : (y : X) → IsSteady 0 (λ bytes. Ok (y, bytes))
  value y = record {
    found = λ bytes more x rest e. ap (λ (p : X × List ℕ). Ok (p.0, p.1 ++ more)) (ok_is (y, bytes) (x, rest) e);
    bad = λ bytes more left e. absurd (cc e);
    bad_place = λ bytes left e. absurd (cc e);
    short_place = λ bytes left e. absurd (cc e);
    takes = λ bytes x rest e. omega (arith, ap length (ap (λ (p : X × List ℕ). p.1) (ok_is (y, bytes) (x, rest) e)));
    shrinks = λ bytes x rest e. omega (arith, ap length (ap (λ (p : X × List ℕ). p.1) (ok_is (y, bytes) (x, rest) e)));
    enough = λ bytes left long e. cc e;
  }

  -- the whole field is bad
  bad_field : (m : ℕ) → IsSteadyPart {X = X} m (λ start bytes. Err (Bad start))
  bad_field m = record {
    found = λ start bytes more x rest e. absurd (cc e);
    bad = λ start bytes more left e. ap (λ l. Err (Bad (l + length more))) (bad_is start left e);
    bad_place = λ start bytes left le e. omega (arith, bad_is start left e);
    short_place = λ start bytes left le e. absurd (cc e);
    takes = λ start bytes x rest e. absurd (cc e);
    shrinks = λ start bytes x rest e. absurd (cc e);
    enough = λ start bytes left long e. cc e;
  }

  -- a test that has to fail, and one that has to pass
  pub unless : (b : Bool) (m : ℕ) (read : ℕ → Reader X) → (b ≡ false → IsSteadyPart m read)
      → IsSteadyPart m (λ start bytes. cond b (Err (Bad start)) (read start bytes))
  unless true m read a = bad_field m
  unless false m read a = a refl

  pub where_true : (b : Bool) (m : ℕ) (read : ℕ → Reader X) → IsSteadyPart m read → IsSteadyPart m (λ start bytes. cond b (read start bytes) (Err (Bad start)))
  where_true true m read a = a
  where_true false m read a = bad_field m

  -- so many bytes, seen by a function
  never_bad : (b : Bool) (left at : ℕ) (y : X × List ℕ) → cond b (Err (Short left)) (Ok y) ≡ Err (Bad at) → ⊥
  never_bad true left at y e = cc
  never_bad false left at y e = cc

  short_at : (b : Bool) (left at : ℕ) (y : X × List ℕ) → cond b (Err (Short left)) (Ok y) ≡ Err (Short at) → left ≡ at
  short_at true left at y e = short_is left at e
  short_at false left at y e = absurd (cc e)

  short_only : (b : Bool) (left at : ℕ) (y : X × List ℕ) → cond b (Err (Short left)) (Ok y) ≡ Err (Short at) → b ≡ true
  short_only true left at y e = refl
  short_only false left at y e = absurd (cc e)

  front : (n : ℕ) (view : List ℕ → X) → IsSteady n (λ bytes. cond (ltb (length bytes) n) (Err (Short (length bytes))) (Ok (view (take n bytes), drop n bytes)))
  front n view = record {
    found = λ bytes more x rest e.
        let g = guard_ok (ltb (length bytes) n) (Short (length bytes)) (Ok (view (take n bytes), drop n bytes)) (x, rest) e in
        let le : n ≤ length bytes = ltb-false _ _ g.0 in
        let long : ltb (length (bytes ++ more)) n ≡ false = le-ltb _ _ (omega (arith, length-append bytes more)) in
        rw (long, take-append-le n bytes more le, drop-append-le n bytes more le)
        (ap (λ (p : X × List ℕ). Ok (p.0, p.1 ++ more)) (ok_is (view (take n bytes), drop n bytes) (x, rest) g.1));
    bad = λ bytes more left e. absurd (never_bad (ltb (length bytes) n) (length bytes) left (view (take n bytes), drop n bytes) e);
    bad_place = λ bytes left e. absurd (never_bad (ltb (length bytes) n) (length bytes) left (view (take n bytes), drop n bytes) e);
    short_place = λ bytes left e. omega (arith, short_at (ltb (length bytes) n) (length bytes) left (view (take n bytes), drop n bytes) e);
    takes = λ bytes x rest e. omega (arith, length-drop n bytes, ap length (left_is bytes x rest e));
    shrinks = λ bytes x rest e. omega (arith, length-drop n bytes, ap length (left_is bytes x rest e));
    enough = λ bytes left long e.
        let few : ltb (length bytes) n ≡ false = le-ltb _ _ long in
        cc (sym few ∙ (short_only (ltb (length bytes) n) (length bytes) left (view (take n bytes), drop n bytes) e));
  }
    where
      left_is : (bytes : List ℕ) (x : X) (rest : List ℕ)
          → cond (ltb (length bytes) n) (fault (Short (length bytes))) (Ok (view (take n bytes), drop n bytes)) ≡ Ok (x, rest) → drop n bytes ≡ rest
      left_is bytes x rest e =
          let g = guard_ok (ltb (length bytes) n) (Short (length bytes)) (Ok (view (take n bytes), drop n bytes)) (x, rest) e in
          ap (λ (p : X × List ℕ). p.1) (ok_is (view (take n bytes), drop n bytes) (x, rest) g.1)

-- a reader, and one that goes on with its value in the same field
pub in_field : {X Y : Type 0} (n m : ℕ) (read : Reader X) (next : X → ℕ → Reader Y) → IsSteady n read → ((x : X) → IsSteadyPart m (next x))
    → IsSteady (n + m) (λ bytes. read bytes >>= λ x. next x.0 (length bytes) x.1)
in_field {X} {Y} n m read next a b = record {
  found = λ bytes more y rest e.
      let p = bind_ok (read bytes) (λ x. next x.0 (length bytes) x.1) (y, rest) e in
      ap (λ (r : Result (X × List ℕ) FieldFault). r >>= λ x. next x.0 (length (bytes ++ more)) x.1) (a.found bytes more p.0.0 p.0.1 p.1)
      ∙ ap (λ l. next p.0.0 l (p.0.1 ++ more)) (length-append bytes more) ∙ (b p.0.0).found (length bytes) p.0.1 more y rest p.2;
  bad = λ bytes more left e. stays bytes more left (read bytes) refl e;
  bad_place = λ bytes left e. bad_within bytes left (read bytes) refl e;
  short_place = λ bytes left e. short_within bytes left (read bytes) refl e;
  takes = λ bytes y rest e.
      let p = bind_ok (read bytes) (λ x. next x.0 (length bytes) x.1) (y, rest) e in
      omega (arith, a.takes bytes p.0.0 p.0.1 p.1, (b p.0.0).takes (length bytes) p.0.1 y rest p.2);
  shrinks = λ bytes y rest e.
      let p = bind_ok (read bytes) (λ x. next x.0 (length bytes) x.1) (y, rest) e in
      omega (arith, a.shrinks bytes p.0.0 p.0.1 p.1, (b p.0.0).shrinks (length bytes) p.0.1 y rest p.2);
  enough = λ bytes left long e. never bytes left long (read bytes) refl e;
}
  where
    stays : (bytes more : List ℕ) (left : ℕ) (r : Result (X × List ℕ) FieldFault) → read bytes ≡ r → (r >>= λ x. next x.0 (length bytes) x.1) ≡ Err (Bad left)
        → (read (bytes ++ more) >>= λ x. next x.0 (length (bytes ++ more)) x.1) ≡ Err (Bad (left + length more))
    stays bytes more left (Ok x) is e =
        ap (λ (r : Result (X × List ℕ) FieldFault). r >>= λ x. next x.0 (length (bytes ++ more)) x.1) (a.found bytes more x.0 x.1 is)
        ∙ ap (λ l. next x.0 l (x.1 ++ more)) (length-append bytes more) ∙ (b x.0).bad (length bytes) x.1 more left e
    stays bytes more left (Err (Bad at)) is e =
        ap (λ (r : Result (X × List ℕ) FieldFault). r >>= λ x. next x.0 (length (bytes ++ more)) x.1) (a.bad bytes more at is)
        ∙ ap (λ l. Err (Bad (l + length more))) (bad_is at left e)
    stays bytes more left (Err (Short at)) is e = absurd (cc e)
    stays bytes more left (Err NoMemory) is e = absurd (cc e)

    bad_within : (bytes : List ℕ) (left : ℕ) (r : Result (X × List ℕ) FieldFault) → read bytes ≡ r → (r >>= λ x. next x.0 (length bytes) x.1) ≡ Err (Bad left)
        → left ≤ length bytes
    bad_within bytes left (Ok x) is e = (b x.0).bad_place (length bytes) x.1 left (a.shrinks bytes x.0 x.1 is) e
    bad_within bytes left (Err (Bad at)) is e = omega (arith, a.bad_place bytes at is, bad_is {X = Y} at left e)
    bad_within bytes left (Err (Short at)) is e = absurd (cc e)
    bad_within bytes left (Err NoMemory) is e = absurd (cc e)

    short_within : (bytes : List ℕ) (left : ℕ) (r : Result (X × List ℕ) FieldFault) → read bytes ≡ r
        → (r >>= λ x. next x.0 (length bytes) x.1) ≡ Err (Short left) → left ≤ length bytes
    short_within bytes left (Ok x) is e = (b x.0).short_place (length bytes) x.1 left (a.shrinks bytes x.0 x.1 is) e
    short_within bytes left (Err (Bad at)) is e = absurd (cc e)
    short_within bytes left (Err (Short at)) is e = omega (arith, a.short_place bytes at is, short_is {X = Y} at left e)
    short_within bytes left (Err NoMemory) is e = absurd (cc e)

    never : (bytes : List ℕ) (left : ℕ) → n + m ≤ length bytes → (r : Result (X × List ℕ) FieldFault) → read bytes ≡ r
        → (r >>= λ x. next x.0 (length bytes) x.1) ≡ Err (Short left) → ⊥
    never bytes left long (Ok x) is e = (b x.0).enough (length bytes) x.1 left (omega (arith, a.takes bytes x.0 x.1 is)) e
    never bytes left long (Err (Bad at)) is e = cc e
    never bytes left long (Err (Short at)) is e = a.enough bytes at (omega arith) is
    never bytes left long (Err NoMemory) is e = cc e

-- a reader, and one that goes on with its value
pub in_turn : {X Y : Type 0} (n m : ℕ) (read : Reader X) (next : X → Reader Y) → IsSteady n read → ((x : X) → IsSteady m (next x))
    → IsSteady (n + m) (λ bytes. read bytes >>= λ x. next x.0 x.1)
in_turn n m read next a b = in_field n m read (λ x start. next x) a (λ x. part m (next x) (b x))

-- ---- fields

pub number_steady : (w : Width) → IsSteady (byte_len w) (read_number w)
number_steady w = front (byte_len w) (from_be_bytes w)

pub bytes_steady : (n : ℕ) → IsSteady n (read_bytes n)
bytes_steady n = front n (λ text. text)

-- the bytes of a text
utf8_bad : (long utf8 : Bool) (start at : ℕ) (y : List ℕ × List ℕ) → cond long (Err (Short start)) (cond utf8 (Ok y) (Err (Bad start))) ≡ Err (Bad at)
    → (long ≡ false) × (utf8 ≡ false) × (start ≡ at)
utf8_bad true utf8 start at y e = absurd (cc e)
utf8_bad false true start at y e = absurd (cc e)
utf8_bad false false start at y e = (refl, refl, bad_is start at e)

utf8_short : (long utf8 : Bool) (start at : ℕ) (y : List ℕ × List ℕ) → cond long (Err (Short start)) (cond utf8 (Ok y) (Err (Bad start))) ≡ Err (Short at)
    → (long ≡ true) × (start ≡ at)
utf8_short true utf8 start at y e = (refl, short_is start at e)
utf8_short false true start at y e = absurd (cc e)
utf8_short false false start at y e = absurd (cc e)

utf8_found : (long utf8 : Bool) (start : ℕ) (y x : List ℕ × List ℕ) → cond long (Err (Short start)) (cond utf8 (Ok y) (Err (Bad start))) ≡ Ok x
    → (long ≡ false) × (utf8 ≡ true) × (y ≡ x)
utf8_found true utf8 start y x e = absurd (cc e)
utf8_found false true start y x e = (refl, refl, ok_is y x e)
utf8_found false false start y x e = absurd (cc e)

utf8_steady : (n : ℕ) → IsSteadyPart n (λ start. read_utf8 start n)
utf8_steady n = record {
  found = λ start bytes more x rest e.
      let f = utf8_found (ltb (length bytes) n) (is_utf8 (take n bytes)) start (take n bytes, drop n bytes) (x, rest) e in
      let le : n ≤ length bytes = ltb-false _ _ f.0 in
      let long : ltb (length (bytes ++ more)) n ≡ false = le-ltb _ _ (omega (arith, length-append bytes more)) in
      rw (long, take-append-le n bytes more le, drop-append-le n bytes more le, f.1) (ap (λ (p : List ℕ × List ℕ). Ok (p.0, p.1 ++ more)) f.2);
  bad = λ start bytes more left e.
      let f = utf8_bad (ltb (length bytes) n) (is_utf8 (take n bytes)) start left (take n bytes, drop n bytes) e in
      let le : n ≤ length bytes = ltb-false _ _ f.0 in
      let long : ltb (length (bytes ++ more)) n ≡ false = le-ltb _ _ (omega (arith, length-append bytes more)) in
      rw (long, take-append-le n bytes more le, f.1) (ap (λ l. Err (Bad (l + length more))) f.2);
  bad_place = λ start bytes left le e. omega (arith, (utf8_bad (ltb (length bytes) n) (is_utf8 (take n bytes)) start left (take n bytes, drop n bytes) e).2);
  short_place =
      λ start bytes left le e. omega (arith, (utf8_short (ltb (length bytes) n) (is_utf8 (take n bytes)) start left (take n bytes, drop n bytes) e).1);
  takes = λ start bytes x rest e.
      let f = utf8_found (ltb (length bytes) n) (is_utf8 (take n bytes)) start (take n bytes, drop n bytes) (x, rest) e in
      omega (arith, length-drop n bytes, ap length (ap (λ (p : List ℕ × List ℕ). p.1) f.2));
  shrinks = λ start bytes x rest e.
      let f = utf8_found (ltb (length bytes) n) (is_utf8 (take n bytes)) start (take n bytes, drop n bytes) (x, rest) e in
      omega (arith, length-drop n bytes, ap length (ap (λ (p : List ℕ × List ℕ). p.1) f.2));
  enough = λ start bytes left long e.
      let f = utf8_short (ltb (length bytes) n) (is_utf8 (take n bytes)) start left (take n bytes, drop n bytes) e in
      let few : ltb (length bytes) n ≡ false = le-ltb _ _ long in
      cc (sym f.0 ∙ few);
}

behind_steady : (w : Width) (least most : ℕ) → IsSteady (byte_len w + most) (text_behind w least most)
behind_steady w least most =
    in_field (byte_len w) most (read_number w) (λ n start bytes. cond (ltb n least || ltb most n) (Err (Bad start)) (read_utf8 start n bytes)) (number_steady w)
    (λ n. unless (ltb n least || ltb most n) most (λ start. read_utf8 start n)
    (λ no. wider_part n most (λ start. read_utf8 start n) (ltb-false _ _ (neither (ltb n least) (ltb most n) no).1) (utf8_steady n)))

pub text_steady : (least most : ℕ) → IsSteady (2 + most) (read_text least most)
unfolding read_text
text_steady least most = behind_steady w16 least most

pub long_text_steady : (most : ℕ) → IsSteady (4 + most) (read_long_text most)
unfolding read_long_text
long_text_steady most = behind_steady w32 0 most

address_steady : IsSteady 2050 read_address
unfolding read_address
address_steady =
    in_field 2050 0 (read_text 1 2048) (λ at start bytes. cond (starts_with nat_eq at (codes "lake://")) (Err (Bad start)) (Ok (at, bytes)))
    (text_steady 1 2048)
    (λ at. unless (starts_with nat_eq at (codes "lake://")) 0 (λ start bytes. Ok (at, bytes)) (λ no. part 0 (λ bytes. Ok (at, bytes)) (value at)))

own_steady : IsSteady 40 read_own
unfolding read_own
own_steady =
    in_turn 8 32 (read_number w64) (λ number bytes. read_bytes 32 bytes >>= λ digest. Ok (Own number (record { 0 = digest.0 }), digest.1)) (number_steady w64)
    (λ number. in_turn 32 0 (read_bytes 32) (λ digest bytes. Ok (Own number (record { 0 = digest }), bytes)) (bytes_steady 32)
    (λ digest. value (Own number (record { 0 = digest }))))

external_steady : IsSteady 2180 read_external
unfolding read_external
external_steady =
    in_turn 2050 130 read_address (λ at bytes. read_text 0 128 bytes >>= λ checksum. Ok (External at checksum.0, checksum.1)) address_steady
    (λ at. in_turn 130 0 (read_text 0 128) (λ checksum bytes. Ok (External at checksum, bytes)) (text_steady 0 128) (λ checksum. value (External at checksum)))

place_found : (bytes more : List ℕ) (place : Place) (rest : List ℕ) → read_place bytes ≡ Ok (place, rest)
    → read_place (bytes ++ more) ≡ Ok (place, rest ++ more)
unfolding read_place
place_found [] more place rest e = absurd cc
place_found (zero ∷ bytes) more place rest e = own_steady.found bytes more place rest e
place_found (suc zero ∷ bytes) more place rest e = external_steady.found bytes more place rest e
place_found (suc (suc b) ∷ bytes) more place rest e = absurd cc

place_bad : (bytes more : List ℕ) (left : ℕ) → read_place bytes ≡ Err (Bad left) → read_place (bytes ++ more) ≡ Err (Bad (left + length more))
unfolding read_place
place_bad [] more left e = absurd (cc e)
place_bad (zero ∷ bytes) more left e = own_steady.bad bytes more left e
place_bad (suc zero ∷ bytes) more left e = external_steady.bad bytes more left e
place_bad (suc (suc b) ∷ bytes) more left e = ap (λ l. Err (Bad l)) (omega (arith, length-append bytes more, bad_is {X = Place} (suc (length bytes)) left e))

place_bad_place : (bytes : List ℕ) (left : ℕ) → read_place bytes ≡ Err (Bad left) → left ≤ length bytes
unfolding read_place
place_bad_place [] left e = absurd (cc e)
place_bad_place (zero ∷ bytes) left e = omega (arith, own_steady.bad_place bytes left e)
place_bad_place (suc zero ∷ bytes) left e = omega (arith, external_steady.bad_place bytes left e)
place_bad_place (suc (suc b) ∷ bytes) left e = omega (arith, bad_is {X = Place} (suc (length bytes)) left e)

place_short_place : (bytes : List ℕ) (left : ℕ) → read_place bytes ≡ Err (Short left) → left ≤ length bytes
unfolding read_place
place_short_place [] left e = omega (arith, short_is {X = Place} 0 left e)
place_short_place (zero ∷ bytes) left e = omega (arith, own_steady.short_place bytes left e)
place_short_place (suc zero ∷ bytes) left e = omega (arith, external_steady.short_place bytes left e)
place_short_place (suc (suc b) ∷ bytes) left e = absurd (cc e)

place_takes : (bytes : List ℕ) (place : Place) (rest : List ℕ) → read_place bytes ≡ Ok (place, rest) → length bytes ≤ 2181 + length rest
unfolding read_place
place_takes [] place rest e = absurd cc
place_takes (zero ∷ bytes) place rest e = omega (arith, own_steady.takes bytes place rest e)
place_takes (suc zero ∷ bytes) place rest e = omega (arith, external_steady.takes bytes place rest e)
place_takes (suc (suc b) ∷ bytes) place rest e = absurd cc

place_shrinks : (bytes : List ℕ) (place : Place) (rest : List ℕ) → read_place bytes ≡ Ok (place, rest) → length rest ≤ length bytes
unfolding read_place
place_shrinks [] place rest e = absurd cc
place_shrinks (zero ∷ bytes) place rest e = omega (arith, own_steady.shrinks bytes place rest e)
place_shrinks (suc zero ∷ bytes) place rest e = omega (arith, external_steady.shrinks bytes place rest e)
place_shrinks (suc (suc b) ∷ bytes) place rest e = absurd cc

place_enough : (bytes : List ℕ) (left : ℕ) → 2181 ≤ length bytes → read_place bytes ≢ Err (Short left)
unfolding read_place
place_enough [] left long e = omega arith
place_enough (zero ∷ bytes) left long e = own_steady.enough bytes left (omega arith) e
place_enough (suc zero ∷ bytes) left long e = external_steady.enough bytes left (omega arith) e
place_enough (suc (suc b) ∷ bytes) left long e = cc

place_steady : IsSteady 2181 read_place
place_steady = record {
  found = place_found;
  bad = place_bad;
  bad_place = place_bad_place;
  short_place = place_short_place;
  takes = place_takes;
  shrinks = place_shrinks;
  enough = place_enough;
}

-- ---- metadata

key_steady : (last : Option (List ℕ)) → IsSteady 130 (read_key last)
unfolding read_key
key_steady last =
    in_field 130 0 (read_text 1 128) (λ key start bytes. cond (is_next last key) (Ok (key, bytes)) (Err (Bad start))) (text_steady 1 128)
    (λ key. where_true (is_next last key) 0 (λ start bytes. Ok (key, bytes)) (part 0 (λ bytes. Ok (key, bytes)) (value key)))

pair_steady : (last : Option (List ℕ)) → IsSteady 1156 (read_pair last)
unfolding read_pair
pair_steady last =
    in_turn 130 1026 (read_key last) (λ key bytes. read_text 0 1024 bytes >>= λ value. Ok ((key, value.0), value.1)) (key_steady last)
    (λ key. in_turn 1026 0 (read_text 0 1024) (λ text bytes. Ok ((key, text), bytes)) (text_steady 0 1024) (λ text. value (key, text)))

pairs_steady : (n : ℕ) (last : Option (List ℕ)) → IsSteady (n * 1156) (read_pairs n last)
unfolding read_pairs
pairs_steady zero last = value []
pairs_steady (suc n) last =
    wider (1156 + (n * 1156 + 0)) (suc n * 1156)
    (λ bytes. read_pair last bytes >>= λ pair. read_pairs n (Some pair.0.0) pair.1 >>= λ more. Ok (pair.0 ∷ more.0, more.1)) (omega arith)
    (in_turn 1156 (n * 1156 + 0) (read_pair last) (λ pair bytes. read_pairs n (Some pair.0) bytes >>= λ more. Ok (pair ∷ more.0, more.1)) (pair_steady last)
    (λ pair. in_turn (n * 1156) 0 (read_pairs n (Some pair.0)) (λ more bytes. Ok (pair ∷ more, bytes)) (pairs_steady n (Some pair.0))
    (λ more. value (pair ∷ more))))

pub metadata_steady : IsSteady 73986 read_metadata
unfolding read_metadata
metadata_steady =
    in_field 2 73984 (read_number w16) (λ count start bytes. cond (ltb 64 count) (Err (Bad start)) (read_pairs count None bytes)) (number_steady w16)
    (λ count. unless (ltb 64 count) 73984 (λ start. read_pairs count None) (λ few.
    let le : count ≤ 64 = ltb-false _ _ few in
    part 73984 (read_pairs count None) (wider (count * 1156) 73984 (read_pairs count None) (omega arith) (pairs_steady count None))))

-- ---- entries

abbrev after_type : Place → ℕ → ℕ → List ℕ → Reader EntryValue
after_type place size mtime content_type bytes =
    read_metadata bytes >>= λ metadata.
    Ok (record { place = place; size = size; mtime = mtime; content_type = content_type; metadata = metadata.0 }, metadata.1)

abbrev after_mtime : Place → ℕ → ℕ → Reader EntryValue
after_mtime place size mtime bytes = read_text 0 255 bytes >>= λ content_type. after_type place size mtime content_type.0 content_type.1

abbrev after_size : Place → ℕ → Reader EntryValue
after_size place size bytes = read_number w64 bytes >>= λ mtime. after_mtime place size mtime.0 mtime.1

abbrev after_place : Place → Reader EntryValue
after_place place bytes = read_number w64 bytes >>= λ size. after_size place size.0 size.1

pub entry_steady : IsSteady 76440 read_entry
unfolding read_entry
entry_steady =
    in_turn 2181 74259 read_place after_place place_steady
    (λ place. in_turn 8 74251 (read_number w64) (after_size place) (number_steady w64)
    (λ size. in_turn 8 74243 (read_number w64) (after_mtime place size) (number_steady w64)
    (λ mtime. in_turn 257 73986 (read_text 0 255) (after_type place size mtime) (text_steady 0 255)
    (λ content_type. in_turn 73986 0 read_metadata
    (λ metadata bytes. Ok (record { place = place; size = size; mtime = mtime; content_type = content_type; metadata = metadata }, bytes)) metadata_steady
    (λ metadata. value (record { place = place; size = size; mtime = mtime; content_type = content_type; metadata = metadata }))))))
