-- What the fields of a message's head say: of its length, and of the connection's end.
use Rattle.std.specs.Prelude.{ℕ, ◌==◌, ◌&&◌, ◌||◌, Bool, true, nat_lt, nat_le, if◌then◌else◌, codes, List, [], ◌∷◌, length, map, filter, Option, Some}
use Rattle.std.specs.Prelude.{None, Result, Ok, Err}
use Rattle.std.specs.List.{list_any, list_all, slice_split}
use Rattle.std.specs.Char.{is_ascii_digit}
use Rattle.std.specs.Str.{str_eq_ignore_ascii_case}
use Rattle.std.specs.Str.Parse.{digits_value}
use Rattle.httparse.specs.Grammar.{trim_ows}
use Rattle.http_wire.specs.declared.message.Field.{Field}
use Rattle.http_wire.specs.declared.fault.WireFault.{WireFault}
use Rattle.http_wire.specs.declared.fault.WireFault.TheVariants.{Chunked, BadLength, BodyTooLong}

-- the field has the name, its letters in any case
abbrev pub is_named : List ℕ → Field → Bool
is_named name field = str_eq_ignore_ascii_case field.name name

-- the values of all fields of the name, in order
abbrev pub values_of : List ℕ → List Field → List (List ℕ)
values_of name fields = map (λ (f : Field). f.value) (filter (is_named name) fields)

-- the word is `close`, its letters in any case, the blanks around it dropped
abbrev pub is_close : List ℕ → Bool
is_close word = str_eq_ignore_ascii_case (trim_ows word) (codes "close")

-- the value has the member `close`: members are parted by commas
abbrev pub asks_close : List ℕ → Bool
asks_close value = list_any is_close (slice_split (λ byte. byte == 44) value)

-- the field is `Connection` with that member
abbrev pub is_closing : Field → Bool
is_closing field = is_named (codes "connection") field && asks_close field.value

-- the sender closes the connection behind a message: one of HTTP/1.0, or one with `Connection: close`
abbrev pub closes : ℕ → List Field → Bool
closes minor fields = (minor == 0) || list_any is_closing fields

-- a length is 1 to 19 digits
abbrev pub is_length : List ℕ → Bool
is_length value = nat_lt 0 (length value) && nat_le (length value) 19 && list_all is_ascii_digit value

-- the number of a length, where the value is one
abbrev pub stated_number : List ℕ → Option ℕ
stated_number value = if is_length value then Some (digits_value 10 value) else None

-- the length that the values of all Content-Length fields state: 0 without one, and none where there are two
abbrev pub stated_length : List (List ℕ) → Option ℕ
stated_length [] = Some 0
stated_length (value ∷ []) = stated_number value
stated_length (value ∷ next ∷ values) = None

-- a body of this length is taken, where there is a limit
abbrev pub is_taken : Option ℕ → ℕ → Bool
is_taken None n = true
is_taken (Some most) n = nat_le n most

-- the length of the body by the stated one, or its fault
abbrev pub length_within : Option ℕ → Option ℕ → Result ℕ WireFault
length_within limit None = Err BadLength
length_within limit (Some n) = if is_taken limit n then Ok n else Err (BodyTooLong n)

-- the length of the body behind these fields, or the first fault: a coding, a bad length, one above the limit
abbrev pub body_length : Option ℕ → List Field → Result ℕ WireFault
body_length limit fields =
    if list_any (is_named (codes "transfer-encoding")) fields then Err Chunked
    else length_within limit (stated_length (values_of (codes "content-length") fields))
