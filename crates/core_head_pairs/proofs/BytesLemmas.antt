-- The files of a map that a tree can hold are bytes.
use Rattle.std.proofs.Common.{◌≡◌, ◌⊎◌, ◌<◌, ◌≤◌, ◌+◌, ◌/◌, ◌%◌, ◌&&◌, inl, inr, ℕ, zero, suc, Bool, true, false, cond, ltb, List, [], ◌∷◌, ◌++◌}
use Rattle.std.proofs.Common.{map, length, flat_map, arith, refl, subst}
use Rattle.std.proofs.lemmas.Bool.{ltb-true}
use Rattle.std.proofs.lemmas.Str.{IsUtf8-from_is_utf8}
use Rattle.std.proofs.Math.Utf8.{encode, encodes, scalar, scalar_cases, scalars}
use Rattle.std.specs.Str.{IsUtf8, is_utf8}
use Rattle.std.specs.Int.{Width, byte_len, w16, w32, w64, byte_at, bytes_high_first, to_be_bytes}
use Rattle.std.specs.FinMap.{entries}
use Rattle.std.specs.List.{AllByRecursion, Contains}
use Rattle.lake_values.specs.Entry.{EntryValue}
use Rattle.lake_values.specs.KeyMap.{KeyMapValue}
use Rattle.lake_values.specs.declared.entry.Place.{Place}
use Rattle.lake_values.specs.declared.entry.Place.TheVariants.{Own, External}
use Rattle.lake_values.proofs.OrderLemmas.{Contains-from_map, each_holds, first_or_later}
use Rattle.lake_pages.proofs.ListingPrefixLemmas.{path_utf8}
use Rattle.lake_format.specs.Cutting.{files, metarange_of, ranges}
use Rattle.lake_format.specs.Spelling.{AreBytes, IsEntry, IsLine, IsMetadata, IsRange, IsRow, IsSpelledPlace, entry_spelling, line_of, line_spelling}
use Rattle.lake_format.specs.Spelling.{metarange_spelling, pair_spelling, pairs_spelling, place_spelling, range_spelling, row_spelling, short_text}
use Rattle.lake_format.specs.declared.cut.Cut.{Cut}
use Rattle.lake_format.specs.declared.range_line.RangeLine.{RangeLine}
use Rattle.meta_range.specs.Files.{FitsTree}
use Rattle.meta_range.proofs.LawLemmas.{ranges_are}
use Rattle.meta_range.proofs.RangesLemmas.{is_metarange}

-- ---- lists of bytes

-- the same as a record, so that a list is found from it
record Low (bytes : List ℕ) : Type 0 where
  all : AreBytes bytes

append_bytes : (a b : List ℕ) → AreBytes a → AreBytes b → AreBytes (a ++ b)
append_bytes [] b left right i = right i
append_bytes (x ∷ a) b left right zero = left zero
append_bytes (x ∷ a) b left right (suc i) = append_bytes a b (λ k. left (suc k)) right i

cons_bytes : (x : ℕ) (a : List ℕ) → x < 256 → AreBytes a → AreBytes (x ∷ a)
cons_bytes x a low all zero = low
cons_bytes x a low all (suc i) = all i

append : {a b : List ℕ} → Low a → Low b → Low (a ++ b)
append {a} {b} left right = record { all = append_bytes a b left.all right.all }

cons : {a : List ℕ} (x : ℕ) → x < 256 → Low a → Low (x ∷ a)
cons {a} x low rest = record { all = cons_bytes x a low rest.all }

none : Low []
none = record { all = λ i. omega arith }

each_part : {X : Type 0} (f : X → List ℕ) (xs : List X) → AllByRecursion (λ x. Low (f x)) xs → Low (flat_map f xs)
each_part f [] all = none
each_part f (x ∷ xs) all = append all.0 (each_part f xs all.1)

each_alike : {X : Type 0} (P Q : X → Type 0) (xs : List X) → ((x : X) → P x → Q x) → AllByRecursion P xs → AllByRecursion Q xs
each_alike P Q [] h all = tt
each_alike P Q (x ∷ xs) h all = (h x all.0, each_alike P Q xs h all.1)

-- ---- numbers and texts

low_byte : (k n : ℕ) → byte_at k n < 256
low_byte zero n = omega arith
low_byte (suc k) n = omega arith

high_first : (k n : ℕ) → AreBytes (bytes_high_first k n)
high_first zero n i = omega arith
high_first (suc k) n zero = low_byte k n
high_first (suc k) n (suc i) = high_first k n i

number : (w : Width) (n : ℕ) → Low (to_be_bytes w n)
number w n = record { all = high_first (byte_len w) n }

char : (c : ℕ) → c < 1114112 → Low (encode c)
unfolding encode
char c low = by (ltb c 128) (ltb c 2048) (ltb c 65536) refl refl refl
  where
    by : (p q r : Bool) → ltb c 128 ≡ p → ltb c 2048 ≡ q → ltb c 65536 ≡ r
        → Low (cond p (c ∷ []) (cond q ((192 + c / 64) ∷ (128 + c % 64) ∷ []) (cond r ((224 + c / 4096)
        ∷ (128 + (c / 64) % 64) ∷ (128 + c % 64) ∷ []) ((240 + c / 262144) ∷ (128 + (c / 4096) % 64) ∷ (128 + (c / 64) % 64) ∷ (128 + c % 64) ∷ []))))
    by true q r d e f = cons c (omega (arith, ltb-true c 128 d)) none
    by false true r d e f = cons (192 + c / 64) (omega (arith, ltb-true c 2048 e)) (cons (128 + c % 64) (omega arith) none)
    by false false true d e f =
        cons (224 + c / 4096) (omega (arith, ltb-true c 65536 f)) (cons (128 + (c / 64) % 64) (omega arith) (cons (128 + c % 64) (omega arith) none))
    by false false false d e f =
        cons (240 + c / 262144) (omega arith) (cons (128 + (c / 4096) % 64) (omega arith) (cons (128 + (c / 64) % 64) (omega arith)
        (cons (128 + c % 64) (omega arith) none)))

and_parts : (a b : Bool) → (a && b) ≡ true → (a ≡ true) × (b ≡ true)
and_parts true b e = (refl, e)
and_parts false b e = absurd cc

low_scalar : (c : ℕ) → scalar c ≡ true → c < 1114112
low_scalar c is = by (scalar_cases c is)
  where
    by : (c < 55296) ⊎ ((57344 ≤ c) × (c < 1114112)) → c < 1114112
    by (inl low) = omega arith
    by (inr both) = both.1

chars : (cs : List ℕ) → scalars cs ≡ true → Low (encodes cs)
chars [] all = none
chars (c ∷ cs) all = let parts = and_parts (scalar c) (scalars cs) all in append (char c (low_scalar c parts.0)) (chars cs parts.1)

text : (bytes : List ℕ) → is_utf8 bytes ≡ true → Low bytes
text bytes utf8 = let u : IsUtf8 bytes = IsUtf8-from_is_utf8 bytes utf8 in subst Low u.1.1 (chars u.0 u.1.0)

short : (bytes : List ℕ) → Low bytes → Low (short_text bytes)
short bytes all = append (number w16 (length bytes)) all

-- ---- entries

place : (p : Place) → IsSpelledPlace p → Low (place_spelling p)
place (Own n digest) is = cons 0 (omega arith) (append (number w64 n) (record { all = is.sum.bytes }))
place (External at checksum) is = cons 1 (omega arith) (append (short at (text at is.address)) (short checksum (text checksum is.sum)))

pair : (p : List ℕ × List ℕ) → (is_utf8 p.0 ≡ true) × (is_utf8 p.1 ≡ true) → Low (pair_spelling p)
pair p utf8 = append (short p.0 (text p.0 utf8.0)) (short p.1 (text p.1 utf8.1))

metadata : (pairs : List (List ℕ × List ℕ)) → IsMetadata pairs → Low (pairs_spelling pairs)
metadata pairs is =
    append (number w16 (length pairs))
    (each_part pair_spelling pairs
    (each_alike (λ p. (is_utf8 p.0 ≡ true) × (is_utf8 p.1 ≡ true)) (λ p. Low (pair_spelling p)) pairs pair is.utf8))

entry : (e : EntryValue) → IsEntry e → Low (entry_spelling e)
entry e is =
    append (place e.place is.place) (append (number w64 e.size) (append (number w64 e.mtime)
    (append (short e.content_type (text e.content_type is.content_type.utf8)) (metadata e.metadata is.metadata))))

row : (r : List ℕ × EntryValue) → IsRow r → Low (row_spelling r)
row r is = append (short r.0 (text r.0 (path_utf8 r.0 is.0))) (entry r.1 is.1)

-- ---- files

range_bytes : (rows : List (List ℕ × EntryValue)) → IsRange rows → Low (range_spelling rows)
unfolding range_spelling
range_bytes rows is =
    cons 1 (omega arith) (append (number w32 (length rows))
    (each_part row_spelling rows (each_alike IsRow (λ r. Low (row_spelling r)) rows row is.each)))

line : (l : RangeLine) → IsLine l → Low (line_spelling l)
unfolding line_spelling
line l is =
    append (record { all = is.name.bytes }) (append (number w32 l.rows)
    (append (short l.first (text l.first (path_utf8 l.first is.first))) (short l.last (text l.last (path_utf8 l.last is.last)))))

metarange_bytes : (lines : List RangeLine) → AllByRecursion IsLine lines → Low (metarange_spelling lines)
unfolding metarange_spelling
metarange_bytes lines each =
    cons 1 (omega arith) (append (number w32 (length lines))
    (each_part line_spelling lines (each_alike IsLine (λ l. Low (line_spelling l)) lines line each)))

pub files_bytes : (cut : Cut) (objects : KeyMapValue) → FitsTree objects → (file : List ℕ) → Contains (files cut objects) file → AreBytes file
unfolding files
files_bytes cut objects fits file among = by (first_or_later (metarange_of cut objects) file (map range_spelling (ranges cut (entries objects))) among)
  where
    by : (metarange_of cut objects ≡ file) ⊎ Contains (map range_spelling (ranges cut (entries objects))) file → AreBytes file
    by (inl is) =
        subst AreBytes is (metarange_bytes (map line_of (ranges cut (entries objects)))
        (is_metarange (ranges cut (entries objects)) (ranges_are cut objects fits)).each).all
    by (inr later) =
        let one = Contains-from_map range_spelling (ranges cut (entries objects)) file later in
        subst AreBytes one.2 (range_bytes one.0 (each_holds IsRange (ranges cut (entries objects)) one.0 (ranges_are cut objects fits).each one.1)).all
