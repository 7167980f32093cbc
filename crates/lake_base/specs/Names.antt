-- Which bytes are texts, paths and names, and the first fault of those that aren't.
use Rattle.std.specs.Prelude.{is_none, take, min, ◌≡◌, ◌==◌, ◌&&◌, ◌||◌, ◌+◌, ℕ, Bool, not, nat_lt, nat_le, if◌then◌else◌, List, length, drop, slice_index}
use Rattle.std.specs.Prelude.{position, Option, Some, None, option_map, Result, Ok, Err}
use Rattle.std.specs.Str.{is_utf8}
use Rattle.std.specs.Option.{option_or}
use Rattle.lake_base.specs.declared.names.NameFault.{NameFault}
use Rattle.lake_base.specs.declared.names.NameFault.TheVariants.{Empty, TooShort, TooLong, NotUtf8, BadByte, NoMemory}

-- What a reader answers: the first fault where there is one, and else a value with P, unless memory ran out.
abbrev pub ReadsName : {X : Type 0} → Result X NameFault → Option NameFault → (X → Type 0) → Type 0
ReadsName (Ok value) found P = (found ≡ None) × P value
ReadsName (Err NoMemory) found P = found ≡ None
ReadsName (Err Empty) found P = found ≡ Some Empty
ReadsName (Err TooShort) found P = found ≡ Some TooShort
ReadsName (Err TooLong) found P = found ≡ Some TooLong
ReadsName (Err NotUtf8) found P = found ≡ Some NotUtf8
ReadsName (Err (BadByte at)) found P = found ≡ Some (BadByte at)

-- a text is UTF-8 of at most so many bytes
abbrev pub text_fault : ℕ → List ℕ → Option NameFault
text_fault most bytes = if nat_lt most (length bytes) then Some TooLong else if is_utf8 bytes then None else Some NotUtf8

-- a path is UTF-8 of 1 to 1,024 bytes
abbrev pub path_fault : List ℕ → Option NameFault
path_fault bytes = if length bytes == 0 then Some Empty else text_fault 1024 bytes

-- a decimal digit of ASCII
abbrev pub is_digit : ℕ → Bool
is_digit byte = nat_le 48 byte && nat_le byte 57

-- a lower-case letter of ASCII
abbrev pub is_lower : ℕ → Bool
is_lower byte = nat_le 97 byte && nat_le byte 122

-- an upper-case letter of ASCII
abbrev pub is_upper : ℕ → Bool
is_upper byte = nat_le 65 byte && nat_le byte 90

-- the least place at which the first byte, or one of the others, fails its test
abbrev pub bad_byte : (ℕ → Bool) → (ℕ → Bool) → List ℕ → Option NameFault
bad_byte first others bytes =
    if first (slice_index bytes 0) then option_map (λ at. BadByte (at + 1)) (position (λ byte. not (others byte)) (drop 1 bytes))
    else Some (BadByte 0)

-- a lower-case letter or a digit
abbrev pub begins_repo : ℕ → Bool
begins_repo byte = is_lower byte || is_digit byte

-- a lower-case letter, a digit or a hyphen
abbrev pub continues_repo : ℕ → Bool
continues_repo byte = begins_repo byte || (byte == 45)

-- the name of a repository: 3 to 63 lower-case letters, digits and hyphens, no hyphen at the front
abbrev pub repo_fault : List ℕ → Option NameFault
repo_fault bytes =
    if length bytes == 0 then Some Empty
    else if nat_lt (length bytes) 3 then Some TooShort
    else if nat_lt 63 (length bytes) then Some TooLong
    else bad_byte begins_repo continues_repo bytes

-- a letter, a digit or an underscore
abbrev pub begins_ref : ℕ → Bool
begins_ref byte = is_lower byte || is_upper byte || is_digit byte || (byte == 95)

-- a letter, a digit, an underscore or a hyphen
abbrev pub continues_ref : ℕ → Bool
continues_ref byte = begins_ref byte || (byte == 45)

-- the name of a branch or a tag: 1 to 255 letters, digits, underscores and hyphens, no hyphen at the front
abbrev pub ref_fault : List ℕ → Option NameFault
ref_fault bytes =
    if length bytes == 0 then Some Empty
    else if nat_lt 255 (length bytes) then Some TooLong
    else bad_byte begins_ref continues_ref bytes

-- a lower-case hex digit
abbrev pub is_hex : ℕ → Bool
is_hex byte = is_digit byte || (nat_le 97 byte && nat_le byte 102)

-- the first of these bytes that is no lower-case hex digit
abbrev pub stray_hex : List ℕ → Option ℕ
stray_hex bytes = position (λ byte. not (is_hex byte)) bytes

-- a name that could be taken for the id of a commit: 64 lower-case hex digits
abbrev pub is_like_id : List ℕ → Bool
is_like_id name = (length name == 64) && is_none (stray_hex name)

-- where a text stops being 64 lower-case hex digits: a stray byte among the first 64, a shorter text's end, or place 64
abbrev pub digest_fault : List ℕ → Option ℕ
digest_fault text = option_or (stray_hex (take 64 text)) (if length text == 64 then None else Some (min 64 (length text)))
