-- What an object of JSON must have to be shown, and what is shown of it (this project's profile).
use Rattle.std.specs.Prelude.{ℕ, Bool, false, is_some, if◌then◌else◌, List, [], codes, Option, None, unwrap_or, option_and_then}
use Rattle.std.specs.Option.{option_map_or}
use Rattle.std.specs.List.{list_all, flat_map}
use Rattle.std.specs.Str.{bytes_eq, is_utf8}
use Rattle.std.specs.Fmt.{decimal}
use Rattle.serde_json.specs.Data.{Data}
use Rattle.serde_json.specs.Find.{get, as_object, as_array, as_str, as_bool, as_number, as_u64}
use Rattle.serde_json.specs.Read.{read}
use Rattle.lakectl_shown.specs.declared.form.Content.{Content}
use Rattle.lakectl_shown.specs.declared.form.Content.TheVariants as content
use Rattle.lakectl_shown.specs.declared.form.Key.{Key}
use Rattle.lakectl_shown.specs.declared.form.Piece.{Piece}
use Rattle.lakectl_shown.specs.declared.form.Piece.TheVariants as piece

-- the value of a body, which is a text of JSON in UTF-8 (RFC 8259, nested at most 127 deep)
abbrev pub json_of : List ℕ → Option Data
json_of body = if is_utf8 body then read body else None

-- a whole number of 64 bits, written without a sign, a fraction and an exponent
abbrev pub whole_of : Data → Option ℕ
whole_of value = option_and_then as_u64 (as_number value)

-- the value is this text
abbrev pub is_word : (word : List ℕ) → Data → Bool
is_word word value = option_map_or (λ text. bytes_eq text word) (as_str value) false

-- the value is of this kind
abbrev pub is_content : Content → Data → Bool
is_content content.Text value = is_some (as_str value)
is_content content.Whole value = is_some (whole_of value)
is_content content.Truth value = is_some (as_bool value)
is_content content.Object value = is_some (as_object value)
is_content content.List value = is_some (as_array value)
is_content content.ObjectWord value = is_word (codes "object") value
is_content content.PrefixWord value = is_word (codes "common_prefix") value

-- the object has this key, and its value is of the key's kind
abbrev pub has_key : Data → List ℕ × Content → Bool
has_key value key = option_map_or (is_content key.1) (get key.0 value) false

-- a piece of what is shown of an object: words, the text of a key, or the number of a key in decimal digits
pub data PieceForm : Type 0 where
  words text_of number_of : List ℕ → PieceForm

-- the bytes that are shown of a piece
abbrev pub piece_bytes : Data → PieceForm → List ℕ
piece_bytes value (words bytes) = bytes
piece_bytes value (text_of name) = unwrap_or (option_and_then as_str (get name value)) []
piece_bytes value (number_of name) = option_map_or decimal (option_and_then whole_of (get name value)) []

-- ---- what contracts see

abbrev pub key_seen : Key → List ℕ × Content
key_seen key = (key.name.now, key.content)

abbrev pub piece_seen : Piece → PieceForm
piece_seen (piece.Words bytes) = words bytes.now
piece_seen (piece.Text name) = text_of name.now
piece_seen (piece.Number name) = number_of name.now
