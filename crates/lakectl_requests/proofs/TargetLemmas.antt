-- The bytes of a target that words make are visible.
use Rattle.std.proofs.Common.{◌≡◌, ◌≤◌, ◌<◌, ◌==◌, ℕ, true, List, [], ◌∷◌, ◌++◌, length, fold, All, codes, Option, Some, None, refl}
use Rattle.std.proofs.Common.{⊎_elim, arith}
use Rattle.std.specs.List.{flat_map, list_all}
use Rattle.std.proofs.lemmas.Bool.{cond_both}
use Rattle.std.proofs.lemmas.Bool.Decides.{nat_tests}
use Rattle.std.proofs.lemmas.List.{length-append}
use Rattle.std.proofs.lemmas.List.Elements.{All-append, All-cons, All-nil, All-weaker}
use Rattle.percent_encoding.specs.Percent.{percent_encode_byte}
use Rattle.percent_encoding.proofs.PercentLemmas.{IsEscapeByte, All-percent_encode_byte}
use Rattle.form_urlencoded.specs.Form.{append_pair, byte_serialize, is_nonempty, separator}
use Rattle.form_urlencoded.proofs.FormLemmas.{IsSerializedByte, All-byte_serialize}
use Rattle.http_wire.proofs.LineLemmas.{all_from_test}
use Rattle.lakectl_verbs.specs.ReadWords.{is_visible}
use Rattle.lakectl_verbs.specs.VerbCommands.{GivenValue}
use Rattle.lakectl_verbs.specs.declared.verb.Verb.{Verb}
use Rattle.lakectl_sent.specs.UriPlaces.{PlaceValue}
use Rattle.lakectl_sent.specs.SentMessages.{is_kept, escaped_byte, escaped, behind_slash, path_text, segments_of, with_key, query_of, query_text, target_text}
use Rattle.lakectl_sent.specs.SentMessages.{target_of}

-- a visible byte of ASCII
abbrev pub IsVisible : ℕ → Type 0
IsVisible byte = (33 ≤ byte) × (byte ≤ 126)

tested : (b : ℕ) → is_visible b ≡ true → IsVisible b
tested b is = (grind (arith, nat_tests, is), grind (arith, nat_tests, is))

literal : (bs : List ℕ) → list_all is_visible bs ≡ true → All IsVisible bs
literal bs is = all_from_test is_visible IsVisible tested bs is

-- ---- segments

escape_visible : (b : ℕ) → IsEscapeByte b → IsVisible b
escape_visible b is = (grind arith, grind arith)

kept_visible : (b : ℕ) → is_kept b ≡ true → IsVisible b
kept_visible b is = (grind (arith, nat_tests, is), grind (arith, nat_tests, is))

byte_visible : (b : ℕ) → All IsVisible (escaped_byte b)
byte_visible b =
    cond_both (is_kept b) (b ∷ []) (percent_encode_byte b) (All IsVisible)
    (λ kept. All-cons IsVisible b [] (kept_visible b kept) (All-nil IsVisible))
    (λ _. All-weaker IsEscapeByte IsVisible escape_visible (percent_encode_byte b) (All-percent_encode_byte b))

escaped_visible : (bs : List ℕ) → All IsVisible (escaped bs)
escaped_visible [] = All-nil IsVisible
escaped_visible (b ∷ bs) = All-append IsVisible (escaped_byte b) (escaped bs) (byte_visible b) (escaped_visible bs)

segments_visible : (segments : List (List ℕ)) → All IsVisible (flat_map behind_slash segments)
segments_visible [] = All-nil IsVisible
segments_visible (segment ∷ segments) =
    All-append IsVisible (behind_slash segment) (flat_map behind_slash segments)
    (All-append IsVisible (codes "/") (escaped segment) (literal (codes "/") refl) (escaped_visible segment)) (segments_visible segments)

path_visible : (segments : List (List ℕ)) → All IsVisible (path_text segments)
path_visible segments =
    All-append IsVisible (codes "/api/v1/repositories") (flat_map behind_slash segments) (literal (codes "/api/v1/repositories") refl)
    (segments_visible segments)

-- ---- queries

serialized_visible : (b : ℕ) → IsSerializedByte b → IsVisible b
serialized_visible b is = (
  ⊎_elim (λ kept. grind (arith, nat_tests, kept)) (λ other. grind arith) is.allowed,
  ⊎_elim (λ kept. grind (arith, nat_tests, kept)) (λ other. grind arith) is.allowed,
)

form_visible : (bs : List ℕ) → All IsVisible (byte_serialize bs)
form_visible bs = All-weaker IsSerializedByte IsVisible serialized_visible (byte_serialize bs) (All-byte_serialize bs)

mark_visible : (form : List ℕ) → All IsVisible (separator form)
mark_visible form = cond_both (is_nonempty form) (38 ∷ []) [] (All IsVisible) (λ _. literal (38 ∷ []) refl) (λ _. All-nil IsVisible)

pair_visible : (form name value : List ℕ) → All IsVisible form → All IsVisible (append_pair form name value)
pair_visible form name value all =
    All-append IsVisible (form ++ separator form) ((byte_serialize name ++ 61 ∷ []) ++ byte_serialize value)
    (All-append IsVisible form (separator form) all (mark_visible form))
    (All-append IsVisible (byte_serialize name ++ 61 ∷ []) (byte_serialize value)
    (All-append IsVisible (byte_serialize name) (61 ∷ []) (form_visible name) (literal (61 ∷ []) refl)) (form_visible value))

key_visible : (form name : List ℕ) (value : Option (List ℕ)) → All IsVisible form → All IsVisible (with_key form (name, value))
key_visible form name None all = all
key_visible form name (Some value) all = pair_visible form name value all

keys_visible : (keys : List (List ℕ × Option (List ℕ))) (form : List ℕ) → All IsVisible form → All IsVisible (fold with_key form keys)
keys_visible [] form all = all
keys_visible (key ∷ keys) form all = keys_visible keys (with_key form key) (key_visible form key.0 key.1 all)

-- ---- targets

text_visible : (path query : List ℕ) → All IsVisible path → All IsVisible query → All IsVisible (target_text path query)
text_visible path query all more =
    cond_both (length query == 0) path (path ++ codes "?" ++ query) (All IsVisible) (λ _. all)
    (λ _. All-append IsVisible (path ++ codes "?") query (All-append IsVisible path (codes "?") all (literal (codes "?") refl)) more)

pub target_visible : (v : Verb) (at other : PlaceValue) (values : List GivenValue) → All IsVisible (target_of v at other values)
target_visible v at other values =
    text_visible (path_text (segments_of v at other)) (query_text (query_of v at values)) (path_visible (segments_of v at other))
    (keys_visible (query_of v at values) [] (All-nil IsVisible))

text_some : (path query : List ℕ) → 0 < length path → 0 < length (target_text path query)
text_some path query some =
    cond_both (length query == 0) path (path ++ codes "?" ++ query) (λ (l : List ℕ). 0 < length l) (λ _. some)
    (λ _. omega (arith, some, length-append (path ++ codes "?") query, length-append path (codes "?")))

pub target_some : (v : Verb) (at other : PlaceValue) (values : List GivenValue) → 0 < length (target_of v at other values)
target_some v at other values =
    text_some (path_text (segments_of v at other)) (query_text (query_of v at values))
    (omega (arith, length-append (codes "/api/v1/repositories") (flat_map behind_slash (segments_of v at other))))
