-- What the fields of a head say of a call.
use Rattle.std.specs.Prelude.{◌&&◌, ◌==◌, ℕ, Bool, false, nat_le, nat_lt, List, length, codes, is_none, if◌then◌else◌}
use Rattle.std.specs.Prelude.{Option, Some, None, option_map, Result, Ok}
use Rattle.std.specs.List.{find, list_all}
use Rattle.std.specs.Str.{str_eq_ignore_ascii_case}
use Rattle.http_wire.specs.declared.message.Field.{Field}
use Rattle.lake_base.specs.Names.{text_fault}
use Rattle.lake_calls.specs.declared.reply.FormRefusal.{FormRefusal}
use Rattle.api_routes.specs.FormNames.{checked}
use Rattle.api_routes.specs.FormSteps.{in_turn}

-- the value of the first field of this name, whose letters count in any case
abbrev pub value_of : (name : List ℕ) → List Field → Option (List ℕ)
value_of name fields = option_map (λ field. field.value) (find (λ field. str_eq_ignore_ascii_case field.name name) fields)

-- a visible byte of ASCII
abbrev pub is_visible : ℕ → Bool
is_visible byte = nat_le 33 byte && nat_le byte 126

-- a committer: 1 to 128 such bytes
abbrev pub is_committer : List ℕ → Bool
is_committer bytes =
    if length bytes == 0 then false
    else if nat_lt 128 (length bytes) then false
    else list_all is_visible bytes

-- a text of at most so many bytes; else a bad value of this name
abbrev pub short_text_of : (name : List ℕ) (most : ℕ) (bytes : List ℕ) → Result (List ℕ) FormRefusal
short_text_of name most bytes = checked (is_none (text_fault most bytes)) name bytes

-- the committer of a request: the field `Lake-User`, and `anonymous` without it
abbrev pub committer_of : List Field → Result (List ℕ) FormRefusal
committer_of fields = committer_in (value_of (codes "Lake-User") fields)
  where
    committer_in : Option (List ℕ) → Result (List ℕ) FormRefusal
    committer_in None = Ok (codes "anonymous")
    committer_in (Some bytes) = in_turn (checked (is_committer bytes) (codes "Lake-User") bytes) (short_text_of (codes "Lake-User") 128)

-- the content type of an upload: the field `Content-Type`, UTF-8 of at most 255 bytes, and `application/octet-stream` without it
abbrev pub content_type_of : List Field → Result (List ℕ) FormRefusal
content_type_of fields = content_type_in (value_of (codes "Content-Type") fields)
  where
    content_type_in : Option (List ℕ) → Result (List ℕ) FormRefusal
    content_type_in None = Ok (codes "application/octet-stream")
    content_type_in (Some bytes) = short_text_of (codes "Content-Type") 255 bytes
