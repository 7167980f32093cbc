-- A field of a key or a value that is read is the field that was written, and what was written is read again.
use Rattle.std.proofs.Common.{◌≡◌, ℕ, zero, suc, ◌-◌, ◌+◌, ◌^◌, ◌<◌, ◌≤◌, Bool, true, false, cond, eqb, ltb, not, ◌&&◌, List, [], ◌∷◌, ◌++◌, length, take, drop}
use Rattle.std.proofs.Common.{is_none, Option, Some, None, Result, Ok, Err, refl, sym, ap, subst, ◌∙◌, append_assoc, arith}
use Rattle.std.proofs.lemmas.Bool.{eqb-true, ltb-false, le-ltb}
use Rattle.std.proofs.lemmas.List.{append-nil, length-append, take_at, drop_at}
use Rattle.std.proofs.lemmas.List.Concat.{flat_map-cons, flat_map-append}
use Rattle.std.specs.Int.{w16, w32, w64, to_be_bytes}
use Rattle.std.specs.List.{flat_map, AllByRecursion}
use Rattle.std.specs.Option.{option_map_or}
use Rattle.lake_base.specs.Names.{repo_fault, ref_fault, is_like_id, bad_byte, begins_repo, continues_repo, begins_ref, continues_ref}
use Rattle.lake_base.specs.declared.names.NameFault.TheVariants.{Empty, TooShort, TooLong}
use Rattle.lake_base.specs.declared.digest.Digest.{Digest}
use Rattle.lake_values.specs.declared.entry.Change.{Change}
use Rattle.lake_values.specs.declared.entry.Change.TheVariants.{Put, Delete}
use Rattle.lake_format.specs.Reading.{◌>>=◌, Fails, read_number, read_bytes, read_entry}
use Rattle.lake_format.specs.Spelling.{short_text, AreBytes, IsDigest}
use Rattle.lake_format.specs.declared.fields.FieldFault.{FieldFault}
use Rattle.lake_format.specs.declared.fields.FieldFault.TheVariants.{Short, Bad, NoMemory}
use Rattle.lake_format.proofs.FieldsLemmas.{bind_ok, test_ok, ok_is, Takes, takes_then, wide16, wide32, wide64, number_takes, number_again, bytes_take}
use Rattle.lake_format.proofs.FieldsLemmas.{bytes_takes, bytes_again}
use Rattle.lake_format.proofs.EncodingLemmas.{entry_takes, entry_again}
use Rattle.lake_values.specs.declared.settings.NoteName.{NoteName}
use Rattle.lake_values.specs.declared.settings.NoteName.TheVariants.{Retention, Protection, Hooks}
use Rattle.pair_format.specs.Keys.{note_number, note_of}
use Rattle.pair_format.specs.PairSpelling.{tokens_spelling, flag, change_spelling, IsRefName, AreTokens, IsSpelledChange}
use Rattle.pair_format.specs.PairReading.{Reader, both, read_u64, read_digest, read_short, read_name, is_repo, is_ref, read_repo, read_ref, read_note}
use Rattle.pair_format.specs.PairReading.{read_more_tokens, read_tokens, read_flag, read_change}

-- ---- a loop that reads tokens

abbrev Tokens : Type 0
Tokens = Result (List ℕ × List ℕ) FieldFault

pub goes_on : (count i : ℕ) (before : List ℕ) (bytes : List ℕ) (token : ℕ) (after : List ℕ) (all : Tokens) → i < count
    → read_number w64 bytes ≡ Ok (token, after)
    → read_more_tokens (count - i) before bytes ≡ all → read_more_tokens (count - (i + 1)) (before ++ token ∷ []) after ≡ all
unfolding read_more_tokens
goes_on count i before bytes token after all lt here so_far =
    let k : count - i ≡ suc (count - (i + 1)) = omega arith in
    sym (ap (λ (r : Result (ℕ × List ℕ) FieldFault). r >>= λ token. read_more_tokens (count - (i + 1)) (before ++ token.0 ∷ []) token.1) here)
    ∙ ap (λ m. read_more_tokens m before bytes) (sym k) ∙ so_far

failed : {A B : Type 0} (e : FieldFault) (r : Result A FieldFault) (f : A → Result B FieldFault) → Fails e r → Fails e (r >>= f)
failed NoMemory r f h = tt
failed (Short left) r f h = ap (λ x. x >>= f) h
failed (Bad left) r f h = ap (λ x. x >>= f) h

pub ends : (e : FieldFault) (count i : ℕ) (before : List ℕ) (bytes : List ℕ) (all : Tokens) → i < count → Fails e (read_number w64 bytes)
    → read_more_tokens (count - i) before bytes ≡ all → Fails e all
unfolding read_more_tokens
ends e count i before bytes all lt fails so_far =
    let k : count - i ≡ suc (count - (i + 1)) = omega arith in
    subst (Fails e) (ap (λ m. read_more_tokens m before bytes) (sym k) ∙ so_far)
    (failed e (read_number w64 bytes) (λ token. read_more_tokens (count - (i + 1)) (before ++ token.0 ∷ []) token.1) fails)

pub is_done : (count i : ℕ) (before : List ℕ) (bytes : List ℕ) (all : Tokens) → count ≤ i → read_more_tokens (count - i) before bytes ≡ all
    → all ≡ Ok (before, bytes)
unfolding read_more_tokens
is_done count i before bytes all le so_far =
    let k : count - i ≡ 0 = omega arith in
    sym so_far ∙ ap (λ m. read_more_tokens m before bytes) k

-- ---- readers that take what was spelled

-- a reader takes the spelling of a value within its limits from the front, and no other bytes
pub record IsReader {A : Type 0} (read : Reader A) (spelling : A → List ℕ) (Is : A → Type 0) : Type 0 where
  pub takes : (bytes : List ℕ) (x : A) (rest : List ℕ) → AreBytes bytes → read bytes ≡ Ok (x, rest) → Takes bytes (spelling x) rest × Is x
  pub again : (x : A) (rest : List ℕ) → Is x → read (spelling x ++ rest) ≡ Ok (x, rest)

pub both_reader : {A B : Type 0} {first : Reader A} {second : Reader B} {s : A → List ℕ} {t : B → List ℕ} {P : A → Type 0} {Q : B → Type 0}
    → IsReader first s P → IsReader second t Q → IsReader (both first second) (λ (x : A × B). s x.0 ++ t x.1) (λ (x : A × B). P x.0 × Q x.1)
both_reader {A} {B} {first} {second} {s} {t} {P} {Q} f g = record {
  takes = λ bytes x rest fits e.
      let a = bind_ok (first bytes) (λ x. second x.1 >>= λ y. Ok ((x.0, y.0), y.1)) (x, rest) e in
      let b = bind_ok (second a.0.1) (λ y. Ok ((a.0.0, y.0), y.1)) (x, rest) a.2 in
      let one = f.takes bytes a.0.0 a.0.1 fits a.1 in
      let two = g.takes a.0.1 b.0.0 b.0.1 one.0.rest_fits b.1 in
      subst (λ (z : (A × B) × List ℕ). Takes bytes (s z.0.0 ++ t z.0.1) z.1 × (P z.0.0 × Q z.0.1)) {x = ((a.0.0, b.0.0), b.0.1)}
      (ok_is ((a.0.0, b.0.0), b.0.1) (x, rest) b.2)
      (takes_then bytes (s a.0.0) a.0.1 (t b.0.0) b.0.1 one.0 two.0, (one.1, two.1));
  again = λ x rest is.
      ap (λ l. first l >>= λ x. second x.1 >>= λ y. Ok ((x.0, y.0), y.1)) (append_assoc (s x.0) (t x.1) rest)
      ∙ ap (λ (r : Result (A × List ℕ) FieldFault). r >>= λ x. second x.1 >>= λ y. Ok ((x.0, y.0), y.1)) (f.again x.0 (t x.1 ++ rest) is.0)
      ∙ ap (λ (r : Result (B × List ℕ) FieldFault). r >>= λ y. Ok ((x.0, y.0), y.1)) (g.again x.1 rest is.1);
}

-- a number of eight bytes
pub u64_reader : IsReader read_u64 (to_be_bytes w64) (λ n. n < 2 ^ 64)
u64_reader = record {
  takes = λ bytes n rest fits e. number_takes w64 (2 ^ 64) wide64 bytes n rest fits e;
  again = λ n rest lt. number_again w64 (2 ^ 64) wide64 n rest lt;
}

-- a digest
pub digest_reader : IsReader read_digest (λ (d : Digest). d.0) (λ (d : Digest). IsDigest d.0)
digest_reader = record {
  takes = λ bytes d rest fits e.
      let a = bind_ok (read_bytes 32 bytes) (λ x. Ok (record { 0 = x.0 }, x.1)) (d, rest) e in
      let t = bytes_takes 32 bytes a.0.0 a.0.1 fits a.1 in
      let len = (bytes_take 32 bytes a.0.0 a.0.1 a.1).2 in
      subst (λ (z : Digest × List ℕ). Takes bytes z.0.0 z.1 × IsDigest z.0.0) {x = (record { 0 = a.0.0 }, a.0.1)}
      (ok_is (record { 0 = a.0.0 }, a.0.1) (d, rest) a.2)
      (t.0, record { long = len; bytes = t.1 });
  again = λ d rest is. ap (λ (r : Result (List ℕ × List ℕ) FieldFault). r >>= λ x. Ok (record { 0 = x.0 }, x.1)) (bytes_again 32 d.0 rest is.long);
}

-- ---- names

abbrev parted : ℕ → List ℕ → Result (List ℕ × List ℕ) FieldFault
parted m l = Ok (take m l, drop m l)

short_takes : (bytes name rest : List ℕ) → AreBytes bytes → read_short bytes ≡ Ok (name, rest) → Takes bytes (short_text name) rest
unfolding read_short
short_takes bytes name rest fits e =
    let a = bind_ok (read_number w16 bytes) (λ n. cond (ltb (length n.1) n.0) (Err (Short (length bytes))) (Ok (take n.0 n.1, drop n.0 n.1))) (name, rest) e in
    let n = number_takes w16 (2 ^ 16) wide16 bytes a.0.0 a.0.1 fits a.1 in
    let back : read_bytes a.0.0 a.0.1 ≡ Ok (name, rest) = short_bytes a.0.0 a.0.1 (ltb (length a.0.1) a.0.0) a.2 in
    let t = bytes_takes a.0.0 a.0.1 name rest n.0.rest_fits back in
    let len = (bytes_take a.0.0 a.0.1 name rest back).2 in
    subst (λ (k : ℕ). Takes bytes (to_be_bytes w16 k ++ name) rest) (sym len) (takes_then bytes (to_be_bytes w16 a.0.0) a.0.1 name rest n.0 t.0)
  where
    short_bytes : (m : ℕ) (l : List ℕ) (b : Bool) → cond b (Err (Short (length bytes))) (parted m l) ≡ Ok (name, rest)
        → cond b (Err (Short (length l))) (parted m l) ≡ Ok (name, rest)
    short_bytes m l true h = absurd cc
    short_bytes m l false h = h

short_again : (name rest : List ℕ) → length name < 2 ^ 16 → read_short (short_text name ++ rest) ≡ Ok (name, rest)
unfolding read_short
short_again name rest lt =
    let long : ltb (length (name ++ rest)) (length name) ≡ false = le-ltb _ _ (omega (arith, length-append name rest)) in
    ap (λ l. read_short l) (append_assoc (to_be_bytes w16 (length name)) name rest)
    ∙ rw (
      number_again w16 (2 ^ 16) wide16 (length name) (name ++ rest) lt,
      long,
      take_at name rest (length name) refl,
      drop_at name rest (length name) refl,
    ) refl

-- a name that passes a test, which no name of 2^16 bytes passes
name_reader : (fits : List ℕ → Bool) (Is : List ℕ → Type 0) → ((name : List ℕ) → fits name ≡ true → Is name)
    → ((name : List ℕ) → Is name → (fits name ≡ true) × (length name < 2 ^ 16))
    → IsReader (read_name fits) short_text Is
unfolding read_name
name_reader fits Is to from = record {
  takes = λ bytes name rest are e.
      let a = bind_ok (read_short bytes) (λ x. cond (fits x.0) (Ok x) (Err (Bad (length bytes)))) (name, rest) e in
      let t = test_ok (fits a.0.0) (Bad (length bytes)) (Ok a.0) (name, rest) a.2 in
      subst (λ (z : List ℕ × List ℕ). Takes bytes (short_text z.0) z.1 × Is z.0) {x = a.0} (ok_is a.0 (name, rest) t.1)
      (short_takes bytes a.0.0 a.0.1 are a.1, to a.0.0 t.0);
  again = λ name rest is.
      let f = from name is in
      rw (short_again name rest f.1, f.0) refl;
}

some_is : {A : Type 0} (x y : A) → Some x ≡ Some y → x ≡ y
some_is x y e = cc

none_is : {A : Type 0} (o : Option A) → is_none o ≡ true → o ≡ None
none_is None e = refl
none_is (Some x) e = absurd cc

is_none_of : {A : Type 0} (o : Option A) → o ≡ None → is_none o ≡ true
is_none_of o e = ap is_none e

two_guards : {A : Type 0} (a b : Bool) (x y : A) (r : Option A) → cond a (Some x) (cond b (Some y) r) ≡ None → b ≡ false
two_guards true b x y r h = absurd cc
two_guards false true x y r h = absurd cc
two_guards false false x y r h = refl

three_guards : {A : Type 0} (a b c : Bool) (x y z : A) (r : Option A) → cond a (Some x) (cond b (Some y) (cond c (Some z) r)) ≡ None → c ≡ false
three_guards true b c x y z r h = absurd cc
three_guards false b c x y z r h = two_guards b c y z r h

repo_len : (name : List ℕ) → repo_fault name ≡ None → length name < 2 ^ 16
repo_len name e =
    let few : length name ≤ 63 = ltb-false _ _
    (three_guards (eqb (length name) 0) (ltb (length name) 3) (ltb 63 (length name)) Empty TooShort TooLong (bad_byte begins_repo continues_repo name) e) in
    omega arith

ref_len : (name : List ℕ) → ref_fault name ≡ None → length name < 2 ^ 16
ref_len name e =
    let few : length name ≤ 255 =
    ltb-false _ _ (two_guards (eqb (length name) 0) (ltb 255 (length name)) Empty TooLong (bad_byte begins_ref continues_ref name) e) in
    omega arith

-- the name of a repository
pub repo_reader : IsReader read_repo short_text (λ name. repo_fault name ≡ None)
repo_reader =
    name_reader is_repo (λ name. repo_fault name ≡ None) (λ name e. none_is (repo_fault name) e) (λ name e. (is_none_of (repo_fault name) e, repo_len name e))

tests : (a b : Bool) → (a && not b) ≡ true → (a ≡ true) × (b ≡ false)
tests true true e = absurd cc
tests true false e = (refl, refl)
tests false b e = absurd cc

passes : (a b : Bool) → a ≡ true → b ≡ false → (a && not b) ≡ true
passes a b e f = (λ i. e i && not (f i))

-- the name of a branch or a tag
pub ref_reader : IsReader read_ref short_text IsRefName
ref_reader = name_reader is_ref IsRefName
    (λ name e. let t = tests (is_none (ref_fault name)) (is_like_id name) e in record { valid = none_is (ref_fault name) t.0; unlike = t.1 })
    (λ name is. (passes (is_none (ref_fault name)) (is_like_id name) (is_none_of (ref_fault name) is.valid) is.unlike, ref_len name is.valid))

-- ---- single bytes

rest_bytes : (b : ℕ) (bytes : List ℕ) → AreBytes (b ∷ bytes) → AreBytes bytes
rest_bytes b bytes h i = h (suc i)

-- the name of a setting has its byte
note_back : (byte : ℕ) (name : NoteName) → note_of byte ≡ Some name → byte ≡ note_number name
note_back byte name e = one (eqb byte 1) refl e
  where
    three : (b : Bool) → eqb byte 3 ≡ b → cond b (Some Hooks) None ≡ Some name → byte ≡ note_number name
    three true is h = eqb-true byte 3 is ∙ ap note_number (some_is Hooks name h)
    three false is h = absurd cc

    two : (b : Bool) → eqb byte 2 ≡ b → cond b (Some Protection) (cond (eqb byte 3) (Some Hooks) None) ≡ Some name → byte ≡ note_number name
    two true is h = eqb-true byte 2 is ∙ ap note_number (some_is Protection name h)
    two false is h = three (eqb byte 3) refl h

    one : (b : Bool) → eqb byte 1 ≡ b → cond b (Some Retention) (cond (eqb byte 2) (Some Protection) (cond (eqb byte 3) (Some Hooks) None)) ≡ Some name
        → byte ≡ note_number name
    one true is h = eqb-true byte 1 is ∙ ap note_number (some_is Retention name h)
    one false is h = two (eqb byte 2) refl h

note_there : (name : NoteName) → note_of (note_number name) ≡ Some name
note_there Retention = refl
note_there Protection = refl
note_there Hooks = refl

abbrev named : List ℕ → NoteName → Result (NoteName × List ℕ) FieldFault
named bytes name = Ok (name, bytes)

note_takes : (bytes : List ℕ) (name : NoteName) (rest : List ℕ) → AreBytes bytes → read_note bytes ≡ Ok (name, rest)
    → Takes bytes (note_number name ∷ []) rest × Unit {0}
unfolding read_note
note_takes [] name rest fits e = absurd cc
note_takes (byte ∷ bytes) name rest fits e =
    let n = note_ok (note_of byte) e in
    (record { parts = (λ i. note_back byte name n.0 i ∷ n.1 i); rest_fits = subst AreBytes n.1 (rest_bytes byte bytes fits) }, tt)
  where
    note_ok : (o : Option NoteName) → option_map_or (named bytes) o (Err (Bad (length (byte ∷ bytes)))) ≡ Ok (name, rest) → (o ≡ Some name) × (bytes ≡ rest)
    note_ok (Some x) h =
        (ap (λ (z : NoteName × List ℕ). Some z.0) (ok_is (x, bytes) (name, rest) h), ap (λ (z : NoteName × List ℕ). z.1) (ok_is (x, bytes) (name, rest) h))
    note_ok None h = absurd cc

-- the byte of a setting's name
pub note_reader : IsReader read_note (λ name. note_number name ∷ []) (λ name. Unit {0})
unfolding read_note
note_reader = record {
  takes = note_takes;
  again = λ name rest is. ap (λ o. option_map_or (named rest) o (Err (Bad (length (note_number name ∷ rest))))) (note_there name);
}

flag_takes : (bytes : List ℕ) (holds : Bool) (rest : List ℕ) → AreBytes bytes → read_flag bytes ≡ Ok (holds, rest)
    → Takes bytes (flag holds ∷ []) rest × Unit {0}
unfolding read_flag
flag_takes [] holds rest fits e = absurd cc
flag_takes (zero ∷ bytes) holds rest fits e =
    subst (λ (z : Bool × List ℕ). Takes (0 ∷ bytes) (flag z.0 ∷ []) z.1 × Unit {0}) {x = (false, bytes)} (ok_is (false, bytes) (holds, rest) e)
    (record { parts = refl; rest_fits = rest_bytes 0 bytes fits }, tt)
flag_takes (suc zero ∷ bytes) holds rest fits e =
    subst (λ (z : Bool × List ℕ). Takes (1 ∷ bytes) (flag z.0 ∷ []) z.1 × Unit {0}) {x = (true, bytes)} (ok_is (true, bytes) (holds, rest) e)
    (record { parts = refl; rest_fits = rest_bytes 1 bytes fits }, tt)
flag_takes (suc (suc b) ∷ bytes) holds rest fits e = absurd cc

flag_again : (holds : Bool) (rest : List ℕ) → Unit {0} → read_flag ((flag holds ∷ []) ++ rest) ≡ Ok (holds, rest)
unfolding read_flag
flag_again false rest is = refl
flag_again true rest is = refl

-- a byte that says whether something holds
pub flag_reader : IsReader read_flag (λ holds. flag holds ∷ []) (λ holds. Unit {0})
flag_reader = record { takes = flag_takes; again = flag_again }

change_takes : (bytes : List ℕ) (change : Change) (rest : List ℕ) → AreBytes bytes → read_change bytes ≡ Ok (change, rest)
    → Takes bytes (change_spelling change) rest × IsSpelledChange change
unfolding read_change
change_takes [] change rest fits e = absurd cc
change_takes (zero ∷ bytes) change rest fits e =
    subst (λ (z : Change × List ℕ). Takes (0 ∷ bytes) (change_spelling z.0) z.1 × IsSpelledChange z.0) {x = (Delete, bytes)}
    (ok_is (Delete, bytes) (change, rest) e)
    (record { parts = refl; rest_fits = rest_bytes 0 bytes fits }, tt)
change_takes (suc zero ∷ bytes) change rest fits e =
    let a = bind_ok (read_entry bytes) (λ x. Ok (Put x.0, x.1)) (change, rest) e in
    let t = entry_takes bytes a.0.0 a.0.1 (rest_bytes 1 bytes fits) a.1 in
    subst (λ (z : Change × List ℕ). Takes (1 ∷ bytes) (change_spelling z.0) z.1 × IsSpelledChange z.0) {x = (Put a.0.0, a.0.1)}
    (ok_is (Put a.0.0, a.0.1) (change, rest) a.2)
    (record { parts = ap (λ l. 1 ∷ l) t.0.parts; rest_fits = t.0.rest_fits }, t.1)
change_takes (suc (suc b) ∷ bytes) change rest fits e = absurd cc

change_again : (change : Change) (rest : List ℕ) → IsSpelledChange change → read_change (change_spelling change ++ rest) ≡ Ok (change, rest)
unfolding read_change
change_again Delete rest is = refl
change_again (Put entry) rest is = ap (λ r. r >>= λ x. Ok (Put x.0, x.1)) (entry_again entry rest is)

-- a deletion, or an entry that is put
pub change_reader : IsReader read_change change_spelling IsSpelledChange
change_reader = record { takes = change_takes; again = change_again }

-- ---- tokens

record TokensRead (more : ℕ) (before : List ℕ) (bytes : List ℕ) (tokens : List ℕ) (rest : List ℕ) : Type 0 where
  pub spelled : flat_map (to_be_bytes w64) before ++ bytes ≡ flat_map (to_be_bytes w64) tokens ++ rest
  pub rest_fits : AreBytes rest
  pub count : length tokens ≡ length before + more
  pub each : AllByRecursion (λ token. token < 2 ^ 64) before → AllByRecursion (λ token. token < 2 ^ 64) tokens

all_end : (before : List ℕ) (token : ℕ) → AllByRecursion (λ token. token < 2 ^ 64) before → token < 2 ^ 64
    → AllByRecursion (λ token. token < 2 ^ 64) (before ++ token ∷ [])
all_end [] token each is = (is, tt)
all_end (t ∷ before) token each is = (each.0, all_end before token each.1 is)

tokens_read : (count : ℕ) (before : List ℕ) (bytes : List ℕ) (x : List ℕ × List ℕ) → AreBytes bytes → read_more_tokens count before bytes ≡ Ok x
    → TokensRead count before bytes x.0 x.1
unfolding read_more_tokens
tokens_read zero before bytes x fits h =
    subst (λ (y : List ℕ × List ℕ). TokensRead 0 before bytes y.0 y.1) (ok_is (before, bytes) x h)
    (record { spelled = refl; rest_fits = fits; count = omega arith; each = λ a. a })
tokens_read (suc count) before bytes x fits h =
    let a = bind_ok (read_number w64 bytes) (λ token. read_more_tokens count (before ++ token.0 ∷ []) token.1) x h in
    let one = number_takes w64 (2 ^ 64) wide64 bytes a.0.0 a.0.1 fits a.1 in
    let more = tokens_read count (before ++ a.0.0 ∷ []) a.0.1 x one.0.rest_fits a.2 in
    let token = to_be_bytes w64 a.0.0 in
    let here : flat_map (to_be_bytes w64) (before ++ a.0.0 ∷ []) ≡ flat_map (to_be_bytes w64) before ++ token =
    flat_map-append (to_be_bytes w64) before (a.0.0 ∷ []) ∙ ap (λ l. flat_map (to_be_bytes w64) before ++ l) (append-nil token) in
    record {
      spelled = ap (λ l. flat_map (to_be_bytes w64) before ++ l) one.0.parts ∙ sym (append_assoc (flat_map (to_be_bytes w64) before) token a.0.1)
          ∙ ap (λ l. l ++ a.0.1) (sym here) ∙ more.spelled;
      rest_fits = more.rest_fits;
      count = omega (arith, more.count, length-append before (a.0.0 ∷ []));
      each = λ h. more.each (all_end before a.0.0 h one.1);
    }

tokens_take : (bytes tokens rest : List ℕ) → AreBytes bytes → read_tokens bytes ≡ Ok (tokens, rest)
    → Takes bytes (tokens_spelling tokens) rest × AreTokens tokens
unfolding read_tokens
tokens_take bytes tokens rest fits e =
    let a = bind_ok (read_number w32 bytes) (λ count. read_more_tokens count.0 [] count.1) (tokens, rest) e in
    let n = number_takes w32 (2 ^ 32) wide32 bytes a.0.0 a.0.1 fits a.1 in
    let r = tokens_read a.0.0 [] a.0.1 (tokens, rest) n.0.rest_fits a.2 in
    let count : length tokens ≡ a.0.0 = omega (arith, r.count) in
    let both =
    takes_then bytes (to_be_bytes w32 a.0.0) a.0.1 (flat_map (to_be_bytes w64) tokens) rest n.0 (record { parts = r.spelled; rest_fits = r.rest_fits }) in (
      subst (λ (k : ℕ). Takes bytes (to_be_bytes w32 k ++ flat_map (to_be_bytes w64) tokens) rest) (sym count) both,
      record { few = subst (λ (k : ℕ). k < 2 ^ 32) (sym count) n.1; each = r.each tt },
    )

more_again : (before tokens rest : List ℕ) → AllByRecursion (λ token. token < 2 ^ 64) tokens
    → read_more_tokens (length tokens) before (flat_map (to_be_bytes w64) tokens ++ rest) ≡ Ok (before ++ tokens, rest)
unfolding read_more_tokens
more_again before [] rest each = ap (λ (l : List ℕ). Ok (l, rest)) (sym (append-nil before))
more_again before (token ∷ tokens) rest each =
    let tail = flat_map (to_be_bytes w64) tokens ++ rest in
    let regrouped : flat_map (to_be_bytes w64) (token ∷ tokens) ++ rest ≡ to_be_bytes w64 token ++ tail =
    ap (λ l. l ++ rest) (flat_map-cons (to_be_bytes w64) token tokens) ∙ append_assoc (to_be_bytes w64 token) (flat_map (to_be_bytes w64) tokens) rest in
    ap (read_more_tokens (suc (length tokens)) before) regrouped
    ∙ ap (λ (r : Result (ℕ × List ℕ) FieldFault). r >>= λ t. read_more_tokens (length tokens) (before ++ t.0 ∷ []) t.1)
    (number_again w64 (2 ^ 64) wide64 token tail each.0)
    ∙ more_again (before ++ token ∷ []) tokens rest each.1
    ∙ ap (λ (l : List ℕ). Ok (l, rest)) (append_assoc before (token ∷ []) tokens)

tokens_again : (tokens rest : List ℕ) → AreTokens tokens → read_tokens (tokens_spelling tokens ++ rest) ≡ Ok (tokens, rest)
unfolding read_tokens
tokens_again tokens rest is =
    let each = flat_map (to_be_bytes w64) tokens in
    ap (λ l. read_tokens l) (append_assoc (to_be_bytes w32 (length tokens)) each rest)
    ∙ ap (λ (r : Result (ℕ × List ℕ) FieldFault). r >>= λ count. read_more_tokens count.0 [] count.1)
    (number_again w32 (2 ^ 32) wide32 (length tokens) (each ++ rest) is.few)
    ∙ more_again [] tokens rest is.each

-- tokens behind their count
pub tokens_reader : IsReader read_tokens tokens_spelling AreTokens
tokens_reader = record { takes = tokens_take; again = tokens_again }
