-- Bytes that are to be a name, a path or a commit's id; else a bad value of the name of their place.
use Rattle.std.specs.Prelude.{◌/◌, ℕ, ℤ, pos, negsuc, List, [], Bool, not, Option, Some, None, is_none, if◌then◌else◌, Result, Ok, Err}
use Rattle.lake_base.specs.Names.{repo_fault, ref_fault, path_fault, is_like_id, digest_fault}
use Rattle.lake_base.specs.declared.digest.Digest.{Digest}
use Rattle.lake_calls.specs.declared.reply.FormRefusal.{FormRefusal}
use Rattle.lake_calls.specs.declared.reply.FormRefusal.TheVariants.{BadValue}
use Rattle.hex.specs.Hex.{decode_of}
use Rattle.hex.specs.declared.error.FromHexError.{FromHexError}
use Rattle.jiff.specs.Words.{Error, parse_timestamp}
use Rattle.api_routes.specs.FormSteps.{in_turn}

-- the value, where a test passes; else a bad value of this name
abbrev pub checked : {X : Type 0} → Bool → (name : List ℕ) → X → Result X FormRefusal
checked passes name value = if passes then Ok value else Err (BadValue name)

-- a repository's name
abbrev pub repo_of : (name bytes : List ℕ) → Result (List ℕ) FormRefusal
repo_of name bytes = checked (is_none (repo_fault bytes)) name bytes

-- a branch's or a tag's name
abbrev pub ref_name_of : (name bytes : List ℕ) → Result (List ℕ) FormRefusal
ref_name_of name bytes = checked (is_none (ref_fault bytes)) name bytes

-- the name of a branch or a tag that is to be made: it couldn't be taken for a commit's id
abbrev pub new_ref_name_of : (name bytes : List ℕ) → Result (List ℕ) FormRefusal
new_ref_name_of name bytes = in_turn (ref_name_of name bytes) (λ found. checked (not (is_like_id found)) name found)

-- a path
abbrev pub path_of : (name bytes : List ℕ) → Result (List ℕ) FormRefusal
path_of name bytes = checked (is_none (path_fault bytes)) name bytes

-- the bytes that hex text stands for, none where it is no hex text
abbrev pub bytes_in : Result (List ℕ) FromHexError → List ℕ
bytes_in (Ok bytes) = bytes
bytes_in (Err fault) = []

abbrev pub hex_bytes : List ℕ → List ℕ
hex_bytes text = bytes_in (decode_of text)

-- a commit's id: 64 lower-case hex digits
abbrev pub digest_of : (name text : List ℕ) → Result Digest FormRefusal
digest_of name text = checked (is_none (digest_fault text)) name (record { 0 = hex_bytes text })

-- the whole seconds from 1970 to an instant in nanoseconds, rounded down; 0 before 1970
abbrev pub seconds_of : ℤ → ℕ
seconds_of (pos nanoseconds) = nanoseconds / 1000000000
seconds_of (negsuc nanoseconds) = 0

-- a moment that `jiff` reads as a timestamp, in such seconds
abbrev pub moment_of : (name text : List ℕ) → Result ℕ FormRefusal
moment_of name text = moment_in (parse_timestamp text)
  where
    moment_in : Result ℤ Error → Result ℕ FormRefusal
    moment_in (Ok instant) = Ok (seconds_of instant)
    moment_in (Err fault) = Err (BadValue name)
