-- A pair that is read is the pair that was written, and what was written is read again.
use Rattle.std.proofs.Common.{◌≡◌, ℕ, suc, Bool, true, false, cond, eqb, is_none, List, [], ◌∷◌, ◌++◌, length, Option, Some, None, Result, Ok, Err, refl, sym}
use Rattle.std.proofs.Common.{ap, subst, ◌∙◌, arith}
use Rattle.std.proofs.lemmas.Bool.{eqb-true}
use Rattle.std.proofs.lemmas.List.{append-nil, nil_from_length}
use Rattle.std.specs.Option.{option_map_or}
use Rattle.std.specs.Int.{w64, to_be_bytes}
use Rattle.lake_base.specs.Names.{path_fault}
use Rattle.lake_values.specs.Commit.{CommitRecordValue}
use Rattle.lake_format.specs.Reading.{◌>>=◌}
use Rattle.lake_format.specs.Spelling.{short_text, commit_spelling, AreBytes, IsSpelledCommit}
use Rattle.lake_format.specs.declared.fields.FieldFault.{FieldFault}
use Rattle.lake_format.specs.declared.fields.FieldFault.TheVariants.{Bad}
use Rattle.lake_format.proofs.FieldsLemmas.{bind_ok, test_ok, ok_is}
use Rattle.commit_graph.specs.CommitReading.{read_commit, whole, commit_from}
use Rattle.commit_graph.specs.declared.fault.CommitFault.TheVariants.{Version, Trailing}
use Rattle.commit_graph.proofs.ReadingLemmas.{found as commit_found, again as commit_again}
use Rattle.pair_format.specs.declared.fault.PairFault.{PairFault}
use Rattle.pair_format.specs.declared.fault.PairFault.TheVariants.{Key, Value}
use Rattle.pair_format.specs.declared.kind.Kind.{Kind}
use Rattle.pair_format.specs.declared.kind.Kind.TheVariants as kind
use Rattle.pair_format.specs.declared.key.OwnedKey.{OwnedKey}
use Rattle.pair_format.specs.declared.key.OwnedKey.TheVariants as key
use Rattle.pair_format.specs.declared.stored.Stored.{Stored}
use Rattle.pair_format.specs.declared.stored.Stored.TheVariants.{Repository, Branch, Tag, Commit, MetaRange, Range, Staged, Note, Gone, Counts}
use Rattle.pair_format.specs.Keys.{kind_of, note_number}
use Rattle.pair_format.specs.PairSpelling.{key_of, key_spelling, value_spelling, pair_spelling, IsSpelledKey, IsSpelledValue, IsSpelledStored}
use Rattle.pair_format.specs.PairReading.{Reader, both, map_reader, read_rest, read_path, read_versioned, key_fields, value_fields, alone, read_key, read_value}
use Rattle.pair_format.specs.PairReading.{with_place, value_from, pair_from}
use Rattle.pair_format.proofs.FieldsLemmas.{IsReader, u64_reader, digest_reader, repo_reader, ref_reader, note_reader, flag_reader, change_reader}
use Rattle.pair_format.proofs.FieldsLemmas.{tokens_reader}

-- ---- readers that take all that is left

-- a reader takes the spelling of a value within its limits, to the end, and no other bytes
record IsWhole {A : Type 0} (read : Reader A) (spelling : A → List ℕ) (Is : A → Type 0) : Type 0 where
  pub takes : (bytes : List ℕ) (x : A) → AreBytes bytes → read bytes ≡ Ok (x, []) → (bytes ≡ spelling x) × Is x
  pub again : (x : A) → Is x → read (spelling x) ≡ Ok (x, [])

-- what a reader takes from the front it takes to the end
whole_reader : {A : Type 0} {read : Reader A} {s : A → List ℕ} {P : A → Type 0} → IsReader read s P → IsWhole read s P
whole_reader {A} {read} {s} {P} r = record {
  takes = λ bytes x fits e. let t = r.takes bytes x [] fits e in (t.0.parts ∙ append-nil (s x), t.1);
  again = λ x is. ap read (sym (append-nil (s x))) ∙ r.again x [] is;
}

-- a field, and what is left behind it
then_whole : {A B : Type 0} {first : Reader A} {second : Reader B} {s : A → List ℕ} {t : B → List ℕ} {P : A → Type 0} {Q : B → Type 0}
    → IsReader first s P → IsWhole second t Q → IsWhole (both first second) (λ (x : A × B). s x.0 ++ t x.1) (λ (x : A × B). P x.0 × Q x.1)
then_whole {A} {B} {first} {second} {s} {t} {P} {Q} f g = record {
  takes = λ bytes x fits e.
      let a = bind_ok (first bytes) (λ x. second x.1 >>= λ y. Ok ((x.0, y.0), y.1)) (x, []) e in
      let b = bind_ok (second a.0.1) (λ y. Ok ((a.0.0, y.0), y.1)) (x, []) a.2 in
      let made = ok_is ((a.0.0, b.0.0), b.0.1) (x, []) b.2 in
      let none : b.0.1 ≡ [] = ap (λ (z : (A × B) × List ℕ). z.1) made in
      let one = f.takes bytes a.0.0 a.0.1 fits a.1 in
      let two = g.takes a.0.1 b.0.0 one.0.rest_fits (b.1 ∙ ap (λ (l : List ℕ). Ok (b.0.0, l)) none) in
      subst (λ (z : (A × B) × List ℕ). (bytes ≡ s z.0.0 ++ t z.0.1) × (P z.0.0 × Q z.0.1)) {x = ((a.0.0, b.0.0), b.0.1)} made
      (one.0.parts ∙ ap (λ l. s a.0.0 ++ l) two.0, (one.1, two.1));
  again = λ x is.
      ap (λ (r : Result (A × List ℕ) FieldFault). r >>= λ x. second x.1 >>= λ y. Ok ((x.0, y.0), y.1)) (f.again x.0 (t x.1) is.0)
      ∙ ap (λ (r : Result (B × List ℕ) FieldFault). r >>= λ y. Ok ((x.0, y.0), y.1)) (g.again x.1 is.1);
}

-- all bytes that are left
rest_whole : IsWhole read_rest (λ bytes. bytes) AreBytes
rest_whole = record {
  takes = λ bytes x fits e.
      let same : bytes ≡ x = ap (λ (z : List ℕ × List ℕ). z.0) (ok_is (bytes, []) (x, []) e) in
      (same, subst AreBytes same fits);
  again = λ x is. refl;
}

none_is : {A : Type 0} (o : Option A) → is_none o ≡ true → o ≡ None
none_is None e = refl
none_is (Some x) e = absurd cc

-- a path, to the end
path_whole : IsWhole read_path (λ path. path) (λ path. path_fault path ≡ None)
path_whole = record {
  takes = λ bytes x fits e.
      let t = test_ok (is_none (path_fault bytes)) (Bad (length bytes)) (Ok (bytes, [])) (x, []) e in
      let same : bytes ≡ x = ap (λ (z : List ℕ × List ℕ). z.0) (ok_is (bytes, []) (x, []) t.1) in
      (same, subst (λ path. path_fault path ≡ None) same (none_is (path_fault bytes) t.0));
  again = λ x is. ap (λ o. cond (is_none o) (Ok (x, [])) (Err (Bad (length x)))) is;
}

-- ---- a commit

abbrev Made : Type 0
Made = Result (CommitRecordValue × List ℕ) FieldFault

nothing_left : (n : ℕ) (c d : CommitRecordValue) (b : Bool) → cond b (Ok d) (Err (Trailing n)) ≡ Ok c → (b ≡ true) × (d ≡ c)
nothing_left n c d true e = (refl, cc)
nothing_left n c d false e = absurd cc

whole_ok : (n : ℕ) (r : Made) (c : CommitRecordValue) → whole n r ≡ Ok c → r ≡ Ok (c, [])
whole_ok n (Ok x) c h =
    let t = nothing_left (length x.1) c x.0 (eqb (length x.1) 0) h in
    let none : x.1 ≡ [] = nil_from_length x.1 (eqb-true (length x.1) 0 t.0) in
    ap (λ (d : CommitRecordValue). Ok (d, x.1)) t.1 ∙ ap (λ (l : List ℕ). Ok (c, l)) none
whole_ok n (Err fault) c h = absurd cc

-- a commit of version 1 is read as a commit is
versioned_from : (bytes : List ℕ) (c : CommitRecordValue) → read_versioned bytes ≡ Ok (c, []) → commit_from bytes ≡ Ok c
unfolding read_versioned commit_from
versioned_from [] c e = absurd cc
versioned_from (version ∷ fields) c e = by (eqb version 1) e
  where
    by : (b : Bool) → cond b (read_commit fields) (Err (Bad (length (version ∷ fields)))) ≡ Ok (c, [])
        → cond b (whole (length (version ∷ fields)) (read_commit fields)) (Err (Version version)) ≡ Ok c
    by true h = ap (whole (length (version ∷ fields))) h
    by false h = absurd cc

versioned_to : (c : CommitRecordValue) → commit_from (commit_spelling c) ≡ Ok c → read_versioned (commit_spelling c) ≡ Ok (c, [])
unfolding read_versioned commit_from commit_spelling
versioned_to c e = whole_ok (length (commit_spelling c)) (read_versioned (commit_spelling c)) c e

versioned_whole : IsWhole read_versioned commit_spelling IsSpelledCommit
versioned_whole = record {
  takes = λ bytes c fits e. let f = commit_found bytes c fits (versioned_from bytes c e) in (f.1, f.0);
  again = λ c is. versioned_to c (commit_again c is);
}

-- ---- keys

-- the letter of a kind
abbrev letter_of : Kind → ℕ
letter_of kind.Repository = 82
letter_of kind.Branch = 66
letter_of kind.Tag = 84
letter_of kind.Commit = 67
letter_of kind.MetaRange = 77
letter_of kind.Range = 71
letter_of kind.Staged = 83
letter_of kind.Note = 78
letter_of kind.Gone = 88
letter_of kind.Counts = 90

-- a test for one more letter
one_letter : (letter : ℕ) (k x : Kind) (n : ℕ) (r : Option Kind) → letter_of k ≡ n → (r ≡ Some x → letter ≡ letter_of x)
    → cond (eqb letter n) (Some k) r ≡ Some x → letter ≡ letter_of x
one_letter letter k x n r is else h = by (eqb letter n) refl h
  where
    by : (b : Bool) → eqb letter n ≡ b → cond b (Some k) r ≡ Some x → letter ≡ letter_of x
    by true e g = let same : k ≡ x = cc in eqb-true letter n e ∙ sym is ∙ ap letter_of same
    by false e g = else g

kind_back : (letter : ℕ) (x : Kind) → kind_of letter ≡ Some x → letter ≡ letter_of x
kind_back letter x =
    one_letter letter kind.Repository x 82 _ refl (
    one_letter letter kind.Branch x 66 _ refl (
    one_letter letter kind.Tag x 84 _ refl (
    one_letter letter kind.Commit x 67 _ refl (
    one_letter letter kind.MetaRange x 77 _ refl (
    one_letter letter kind.Range x 71 _ refl (
    one_letter letter kind.Staged x 83 _ refl (
    one_letter letter kind.Note x 78 _ refl (
    one_letter letter kind.Gone x 88 _ refl (
    one_letter letter kind.Counts x 90 None refl (λ none. absurd cc))))))))))

kind_there : (k : Kind) → kind_of (letter_of k) ≡ Some k
kind_there kind.Repository = refl
kind_there kind.Branch = refl
kind_there kind.Tag = refl
kind_there kind.Commit = refl
kind_there kind.MetaRange = refl
kind_there kind.Range = refl
kind_there kind.Staged = refl
kind_there kind.Note = refl
kind_there kind.Gone = refl
kind_there kind.Counts = refl

-- the kind of a key
abbrev kind_in : OwnedKey → Kind
kind_in (key.Repository repo) = kind.Repository
kind_in (key.Branch repo branch) = kind.Branch
kind_in (key.Tag repo tag) = kind.Tag
kind_in (key.Commit repo id) = kind.Commit
kind_in (key.MetaRange name) = kind.MetaRange
kind_in (key.Range name) = kind.Range
kind_in (key.Staged token path) = kind.Staged
kind_in (key.Note repo name) = kind.Note
kind_in (key.Gone number) = kind.Gone
kind_in key.Counts = kind.Counts

-- what fields make, in a spelling of its own
taken : {A B : Type 0} {read : Reader A} {s : A → List ℕ} {P : A → Type 0} (whole : IsWhole read s P) (f : A → B) (bytes : List ℕ) (y : B) → AreBytes bytes
    → map_reader f read bytes ≡ Ok (y, [])
    → (x : A) × (f x ≡ y) × (bytes ≡ s x) × P x
taken {A} {B} {read} {s} {P} whole f bytes y fits e =
    let a = bind_ok (read bytes) (λ x. Ok (f x.0, x.1)) (y, []) e in
    let made = ok_is (f a.0.0, a.0.1) (y, []) a.2 in
    let none : a.0.1 ≡ [] = ap (λ (z : B × List ℕ). z.1) made in
    let t = whole.takes bytes a.0.0 fits (a.1 ∙ ap (λ (l : List ℕ). Ok (a.0.0, l)) none) in
    (a.0.0, ap (λ (z : B × List ℕ). z.0) made, t.0, t.1)

remade : {A B : Type 0} {read : Reader A} {s : A → List ℕ} {P : A → Type 0} (whole : IsWhole read s P) (f : A → B) (x : A) → P x
    → map_reader f read (s x) ≡ Ok (f x, [])
remade {A} {B} {read} {s} {P} whole f x is = ap (λ (r : Result (A × List ℕ) FieldFault). r >>= λ x. Ok (f x.0, x.1)) (whole.again x is)

-- a key that is spelled by its letter and these bytes
abbrev SpellsKey : Kind → List ℕ → OwnedKey → Type 0
SpellsKey k bytes y = (letter_of k ∷ bytes ≡ key_spelling y) × IsSpelledKey y

key_taken : {A : Type 0} {read : Reader A} {s : A → List ℕ} {P : A → Type 0} (k : Kind) (whole : IsWhole read s P) (f : A → OwnedKey)
    → ((x : A) → letter_of k ∷ s x ≡ key_spelling (f x)) → ((x : A) → P x → IsSpelledKey (f x))
    → (bytes : List ℕ) (y : OwnedKey) → AreBytes bytes → map_reader f read bytes ≡ Ok (y, []) → SpellsKey k bytes y
key_taken k whole f spelled limits bytes y fits e =
    let t = taken whole f bytes y fits e in
    subst (SpellsKey k bytes) t.1 (ap (λ l. letter_of k ∷ l) t.2 ∙ spelled t.0, limits t.0 t.3)

key_takes : (k : Kind) (bytes : List ℕ) (y : OwnedKey) → AreBytes bytes → key_fields k bytes ≡ Ok (y, []) → SpellsKey k bytes y
unfolding key_fields
key_takes kind.Repository = key_taken kind.Repository (whole_reader repo_reader) key.Repository (λ x. refl) (λ x is. is)
key_takes kind.Branch = key_taken kind.Branch (then_whole repo_reader (whole_reader ref_reader)) (λ x. key.Branch x.0 x.1) (λ x. refl) (λ x is. is)
key_takes kind.Tag = key_taken kind.Tag (then_whole repo_reader (whole_reader ref_reader)) (λ x. key.Tag x.0 x.1) (λ x. refl) (λ x is. is)
key_takes kind.Commit = key_taken kind.Commit (then_whole repo_reader (whole_reader digest_reader)) (λ x. key.Commit x.0 x.1) (λ x. refl) (λ x is. is)
key_takes kind.MetaRange = key_taken kind.MetaRange (whole_reader digest_reader) key.MetaRange (λ x. refl) (λ x is. is)
key_takes kind.Range = key_taken kind.Range (whole_reader digest_reader) key.Range (λ x. refl) (λ x is. is)
key_takes kind.Staged = key_taken kind.Staged (then_whole u64_reader path_whole) (λ x. key.Staged x.0 x.1) (λ x. refl) (λ x is. is)
key_takes kind.Note = key_taken kind.Note (then_whole repo_reader (whole_reader note_reader)) (λ x. key.Note x.0 x.1) (λ x. refl) (λ x is. is.0)
key_takes kind.Gone = key_taken kind.Gone (whole_reader u64_reader) key.Gone (λ x. refl) (λ x is. is)
key_takes kind.Counts = λ bytes y fits e.
    let made = ok_is (key.Counts, bytes) (y, []) e in
    let none : bytes ≡ [] = ap (λ (z : OwnedKey × List ℕ). z.1) made in
    subst (SpellsKey kind.Counts bytes) (ap (λ (z : OwnedKey × List ℕ). z.0) made) (ap (λ l. 90 ∷ l) none, tt)

-- the bytes of a key behind its letter
abbrev fields_in : OwnedKey → List ℕ
fields_in (key.Repository repo) = short_text repo
fields_in (key.Branch repo branch) = short_text repo ++ short_text branch
fields_in (key.Tag repo tag) = short_text repo ++ short_text tag
fields_in (key.Commit repo id) = short_text repo ++ id.0
fields_in (key.MetaRange name) = name.0
fields_in (key.Range name) = name.0
fields_in (key.Staged token path) = to_be_bytes w64 token ++ path
fields_in (key.Note repo name) = short_text repo ++ note_number name ∷ []
fields_in (key.Gone number) = to_be_bytes w64 number
fields_in key.Counts = []

key_parts : (y : OwnedKey) → key_spelling y ≡ letter_of (kind_in y) ∷ fields_in y
key_parts (key.Repository repo) = refl
key_parts (key.Branch repo branch) = refl
key_parts (key.Tag repo tag) = refl
key_parts (key.Commit repo id) = refl
key_parts (key.MetaRange name) = refl
key_parts (key.Range name) = refl
key_parts (key.Staged token path) = refl
key_parts (key.Note repo name) = refl
key_parts (key.Gone number) = refl
key_parts key.Counts = refl

fields_again : (y : OwnedKey) → IsSpelledKey y → key_fields (kind_in y) (fields_in y) ≡ Ok (y, [])
unfolding key_fields
fields_again (key.Repository repo) is = remade (whole_reader repo_reader) key.Repository repo is
fields_again (key.Branch repo branch) is = remade (then_whole repo_reader (whole_reader ref_reader)) (λ x. key.Branch x.0 x.1) (repo, branch) is
fields_again (key.Tag repo tag) is = remade (then_whole repo_reader (whole_reader ref_reader)) (λ x. key.Tag x.0 x.1) (repo, tag) is
fields_again (key.Commit repo id) is = remade (then_whole repo_reader (whole_reader digest_reader)) (λ x. key.Commit x.0 x.1) (repo, id) is
fields_again (key.MetaRange name) is = remade (whole_reader digest_reader) key.MetaRange name is
fields_again (key.Range name) is = remade (whole_reader digest_reader) key.Range name is
fields_again (key.Staged token path) is = remade (then_whole u64_reader path_whole) (λ x. key.Staged x.0 x.1) (token, path) is
fields_again (key.Note repo name) is = remade (then_whole repo_reader (whole_reader note_reader)) (λ x. key.Note x.0 x.1) (repo, name) (is, tt)
fields_again (key.Gone number) is = remade (whole_reader u64_reader) key.Gone number is
fields_again key.Counts is = refl

-- a value behind which nothing stands
alone_ok : {A : Type 0} (r : Result (A × List ℕ) FieldFault) (y : A) → (r >>= alone) ≡ Ok y → r ≡ Ok (y, [])
alone_ok {A} r y e =
    let a = bind_ok r alone y e in
    let t = test_ok (eqb (length a.0.1) 0) (Bad (length a.0.1)) (Ok a.0.0) y a.2 in
    let none : a.0.1 ≡ [] = nil_from_length a.0.1 (eqb-true (length a.0.1) 0 t.0) in
    a.1 ∙ ap (λ (x : A). Ok (x, a.0.1)) (ok_is a.0.0 y t.1) ∙ ap (λ (l : List ℕ). Ok (y, l)) none

rest_bytes : (b : ℕ) (bytes : List ℕ) → AreBytes (b ∷ bytes) → AreBytes bytes
rest_bytes b bytes h i = h (suc i)

abbrev key_read : List ℕ → Kind → Result OwnedKey FieldFault
key_read fields k = key_fields k fields >>= alone

key_found : (bytes : List ℕ) (y : OwnedKey) → AreBytes bytes → read_key bytes ≡ Ok y → (bytes ≡ key_spelling y) × IsSpelledKey y
unfolding read_key
key_found [] y fits e = absurd cc
key_found (letter ∷ fields) y fits e = by (kind_of letter) refl e
  where
    by : (o : Option Kind) → kind_of letter ≡ o → option_map_or (key_read fields) o (Err (Bad (length (letter ∷ fields)))) ≡ Ok y
        → (letter ∷ fields ≡ key_spelling y) × IsSpelledKey y
    by (Some k) is h =
        let t = key_takes k fields y (rest_bytes letter fields fits) (alone_ok (key_fields k fields) y h) in
        (ap (λ l. l ∷ fields) (kind_back letter k is) ∙ t.0, t.1)
    by None is h = absurd cc

key_again : (y : OwnedKey) → IsSpelledKey y → read_key (key_spelling y) ≡ Ok y
unfolding read_key
key_again y is =
    let k = kind_in y in
    let fields = fields_in y in
    ap read_key (key_parts y)
    ∙ ap (λ o. option_map_or (key_read fields) o (Err (Bad (length (letter_of k ∷ fields))))) (kind_there k)
    ∙ ap (λ (r : Result (OwnedKey × List ℕ) FieldFault). r >>= alone) (fields_again y is)

pub keys_apart : (a b : OwnedKey) → IsSpelledKey a → IsSpelledKey b → key_spelling a ≡ key_spelling b → a ≡ b
keys_apart a b ha hb e = ok_is a b (sym (key_again a ha) ∙ ap read_key e ∙ key_again b hb)

-- ---- values

-- what is stored under this key, with these bytes as its value
abbrev SpellsValue : OwnedKey → List ℕ → Stored → Type 0
SpellsValue k bytes y = (key_of y ≡ k) × (bytes ≡ value_spelling y) × IsSpelledValue y

value_taken : {A : Type 0} {read : Reader A} {s : A → List ℕ} {P : A → Type 0} (k : OwnedKey) (whole : IsWhole read s P) (f : A → Stored)
    → ((x : A) → key_of (f x) ≡ k) → ((x : A) → s x ≡ value_spelling (f x)) → ((x : A) → P x → IsSpelledValue (f x))
    → (bytes : List ℕ) (y : Stored) → AreBytes bytes → map_reader f read bytes ≡ Ok (y, []) → SpellsValue k bytes y
value_taken k whole f keyed spelled limits bytes y fits e =
    let t = taken whole f bytes y fits e in
    subst (SpellsValue k bytes) t.1 (keyed t.0, t.2 ∙ spelled t.0, limits t.0 t.3)

value_takes : (k : OwnedKey) (bytes : List ℕ) (y : Stored) → AreBytes bytes → value_fields k bytes ≡ Ok (y, []) → SpellsValue k bytes y
unfolding value_fields
value_takes (key.Repository repo) = value_taken (key.Repository repo) (then_whole u64_reader (then_whole ref_reader (whole_reader u64_reader)))
    (λ x. Repository repo x.0 x.1.0 x.1.1) (λ x. refl) (λ x. refl) (λ x is. is)
value_takes (key.Branch repo branch) =
    value_taken (key.Branch repo branch) (then_whole u64_reader (then_whole digest_reader (then_whole u64_reader (whole_reader tokens_reader))))
    (λ x. Branch repo branch x.0 x.1.0 x.1.1.0 x.1.1.1) (λ x. refl) (λ x. refl) (λ x is. is)
value_takes (key.Tag repo tag) = value_taken (key.Tag repo tag) (whole_reader digest_reader) (Tag repo tag) (λ x. refl) (λ x. refl) (λ x is. is)
value_takes (key.Commit repo id) =
    value_taken (key.Commit repo id) (then_whole flag_reader versioned_whole) (λ x. Commit repo id x.0 x.1) (λ x. refl) (λ x. refl) (λ x is. is.1)
value_takes (key.MetaRange name) = value_taken (key.MetaRange name) rest_whole (MetaRange name) (λ x. refl) (λ x. refl) (λ x is. is)
value_takes (key.Range name) = value_taken (key.Range name) rest_whole (Range name) (λ x. refl) (λ x. refl) (λ x is. is)
value_takes (key.Staged token path) = value_taken (key.Staged token path) (whole_reader change_reader) (Staged token path) (λ x. refl) (λ x. refl) (λ x is. is)
value_takes (key.Note repo name) = value_taken (key.Note repo name) rest_whole (Note repo name) (λ x. refl) (λ x. refl) (λ x is. is)
value_takes (key.Gone number) = λ bytes y fits e.
    let made = ok_is (Gone number, bytes) (y, []) e in
    let none : bytes ≡ [] = ap (λ (z : Stored × List ℕ). z.1) made in
    subst (SpellsValue (key.Gone number) bytes) (ap (λ (z : Stored × List ℕ). z.0) made) (refl, none, tt)
value_takes key.Counts = value_taken key.Counts (then_whole u64_reader (then_whole u64_reader (whole_reader u64_reader))) (λ x. Counts x.0 x.1.0 x.1.1)
    (λ x. refl) (λ x. refl) (λ x is. is)

value_again : (y : Stored) → IsSpelledValue y → value_fields (key_of y) (value_spelling y) ≡ Ok (y, [])
unfolding value_fields
value_again (Repository repo created default_branch settings) is =
    remade (then_whole u64_reader (then_whole ref_reader (whole_reader u64_reader))) (λ x. Repository repo x.0 x.1.0 x.1.1)
    (created, (default_branch, settings)) is
value_again (Branch repo branch version head staging sealed) is =
    remade (then_whole u64_reader (then_whole digest_reader (then_whole u64_reader (whole_reader tokens_reader))))
    (λ x. Branch repo branch x.0 x.1.0 x.1.1.0 x.1.1.1) (version, (head, (staging, sealed))) is
value_again (Tag repo tag commit) is = remade (whole_reader digest_reader) (Tag repo tag) commit is
value_again (Commit repo id expired commit) is = remade (then_whole flag_reader versioned_whole) (λ x. Commit repo id x.0 x.1) (expired, commit) (tt, is)
value_again (MetaRange name bytes) is = remade rest_whole (MetaRange name) bytes is
value_again (Range name bytes) is = remade rest_whole (Range name) bytes is
value_again (Staged token path change) is = remade (whole_reader change_reader) (Staged token path) change is
value_again (Note repo name text) is = remade rest_whole (Note repo name) text is
value_again (Gone number) is = refl
value_again (Counts number version token) is =
    remade (then_whole u64_reader (then_whole u64_reader (whole_reader u64_reader))) (λ x. Counts x.0 x.1.0 x.1.1) (number, (version, token)) is

-- ---- pairs

placed_ok : {A : Type 0} (side : ℕ → PairFault) (n : ℕ) (r : Result A FieldFault) (y : A) → with_place side n r ≡ Ok y → r ≡ Ok y
placed_ok side n (Ok x) y e = let same : x ≡ y = cc in ap (λ z. Ok z) same
placed_ok side n (Err fault) y e = absurd cc

record Parts (key value : List ℕ) (s : Stored) : Type 0 where
  pub parts : OwnedKey
  pub key_is : read_key key ≡ Ok parts
  pub value_is : read_value parts value ≡ Ok s

pair_parts : (key value : List ℕ) (s : Stored) → pair_from key value ≡ Ok s → Parts key value s
unfolding pair_from
pair_parts key value s e = by (read_key key) refl e
  where
    by : (r : Result OwnedKey FieldFault) → read_key key ≡ r → value_from value (with_place Key (length key) r) ≡ Ok s → Parts key value s
    by (Ok k) is h = record { parts = k; key_is = is; value_is = placed_ok Value (length value) (read_value k value) s h }
    by (Err fault) is h = absurd cc

pub found : (key value : List ℕ) (s : Stored) → AreBytes key → AreBytes value → pair_from key value ≡ Ok s
    → IsSpelledStored s × (key ≡ key_spelling (key_of s)) × (value ≡ value_spelling s)
found key value s key_fits value_fits e =
    let p = pair_parts key value s e in
    let k = key_found key p.parts key_fits p.key_is in
    let v = value_takes p.parts value s value_fits (alone_ok (value_fields p.parts value) s p.value_is) in
    (record { named = subst IsSpelledKey (sym v.0) k.1; valued = v.2 }, k.0 ∙ ap key_spelling (sym v.0), v.1)

pub again : (s : Stored) → IsSpelledStored s → pair_from (key_spelling (key_of s)) (value_spelling s) ≡ Ok s
unfolding pair_from
again s is =
    ap (λ r. value_from (value_spelling s) (with_place Key (length (key_spelling (key_of s))) r)) (key_again (key_of s) is.named)
    ∙ ap (λ (r : Result (Stored × List ℕ) FieldFault). with_place Value (length (value_spelling s)) (r >>= alone)) (value_again s is.valued)

abbrev done : Stored → Result Stored PairFault
done s = Ok s

pub apart : (a b : Stored) → IsSpelledStored a → IsSpelledStored b → pair_spelling a ≡ pair_spelling b → a ≡ b
apart a b ha hb e =
    let same : done a ≡ done b = sym (again a ha) ∙ ap (λ p. pair_from p.key p.value) e ∙ again b hb in
    cc
