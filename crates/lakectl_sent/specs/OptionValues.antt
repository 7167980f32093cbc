-- The values of options that aren't plain texts (this project's profile).
use Rattle.std.specs.Prelude.{ℕ, ◌==◌, ◌&&◌, Bool, true, not, nat_lt, nat_le, is_none, is_some, if◌then◌else◌, List, [], ◌∷◌, length}
use Rattle.std.specs.Prelude.{Option, Some, None, option_map, option_and_then, codes, Result, Ok, Err}
use Rattle.std.specs.Char.{is_ascii_digit}
use Rattle.std.specs.List.{list_all, find, slice_split}
use Rattle.std.specs.Str.Parse.{digits_value}
use Rattle.serde_json.specs.Data.{Data, string, Members, no_members, put}
use Rattle.serde_json.specs.Find.{get_member}
use Rattle.lakectl_verbs.specs.Cuts.{cut}
use Rattle.lakectl_verbs.specs.VerbCommands.{GivenValue}
use Rattle.lakectl_verbs.specs.declared.argument.Kind.{Kind}
use Rattle.lakectl_verbs.specs.declared.argument.Kind.TheVariants.{Any, Number, Meta, Uri}

-- 1 to 19 decimal digits
abbrev pub is_number : List ℕ → Bool
is_number text = nat_lt 0 (length text) && nat_le (length text) 19 && list_all is_ascii_digit text

-- the number that they write
abbrev pub number_of : List ℕ → Option ℕ
number_of text = if is_number text then Some (digits_value 10 text) else None

-- a key with its value, where the key isn't empty and isn't there yet
abbrev pub with_pair : Members → List ℕ × List ℕ → Option Members
with_pair found pair =
    if length pair.0 == 0 then None
    else if is_some (get_member pair.0 found) then None
    else Some (put pair.0 (string pair.1) found)

-- a piece `K=V`
abbrev pub with_piece : Members → (piece : List ℕ) → Option Members
with_piece found piece = option_and_then (with_pair found) (cut 61 piece)

-- the pieces, one after the other
abbrev pub with_pieces : Members → List (List ℕ) → Option Members
with_pieces found [] = Some found
with_pieces found (piece ∷ pieces) = option_and_then (λ next. with_pieces next pieces) (with_piece found piece)

-- metadata: pieces `K=V`, parted by commas
abbrev pub metadata_of : List ℕ → Option Members
metadata_of text = with_pieces no_members (slice_split (λ byte. byte == 44) text)

-- the value is of its argument's kind; a URI is tested before
abbrev pub fits : GivenValue → Bool
fits value = of_kind value.0.kind
  where
    of_kind : Kind → Bool
    of_kind Any = true
    of_kind Number = is_some (number_of value.1)
    of_kind Meta = is_some (metadata_of value.1)
    of_kind (Uri parts) = true

-- the name of the first value that isn't, in the order of the table
abbrev pub first_bad : List GivenValue → Option (List ℕ)
first_bad values = option_map (λ value. value.0.name) (find (λ value. not (fits value)) values)
