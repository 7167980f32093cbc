-- URIs (this project's profile): `lakefs://REPO`, `lakefs://REPO/REF` or `lakefs://REPO/REF/PATH`.
use Rattle.std.specs.Prelude.{ℕ, nat_eq, nat_lt, ◌==◌, ◌&&◌, Bool, true, false, not, is_none, is_some, if◌then◌else◌, List, [], ◌∷◌, length, drop, codes}
use Rattle.std.specs.Prelude.{Option, Some, None, option_map, option_and_then, unwrap_or, slice_get, ok_or, Result, Ok, Err}
use Rattle.std.specs.List.{starts_with}
use Rattle.std.specs.Option.{option_map_or}
use Rattle.std.specs.Str.{bytes_eq}
use Rattle.lakectl_verbs.specs.Cuts.{cut}
use Rattle.lakectl_verbs.specs.VerbCommands.{GivenValue}
use Rattle.lakectl_verbs.specs.declared.argument.Kind.{Kind}
use Rattle.lakectl_verbs.specs.declared.argument.Kind.TheVariants.{Any, Number, Meta, Uri as UriOf}
use Rattle.lakectl_verbs.specs.declared.argument.UriParts.{UriParts}
use Rattle.lakectl_verbs.specs.declared.argument.UriParts.TheVariants.{Repo, Ref, Path, Prefix}
use Rattle.lakectl_sent.specs.declared.place.Place.{Place}
use Rattle.lakectl_sent.specs.declared.place.Uri.{Uri}

-- the parts of a URI, as far as it goes
pub record UriValue : Type 0 where
  pub repo : List ℕ
  pub reference : Option (List ℕ)
  pub path : Option (List ℕ)

-- what stands behind the scheme
abbrev pub uri_rest : List ℕ → Option (List ℕ)
uri_rest word = if starts_with nat_eq word (codes "lakefs://") then Some (drop 9 word) else None

-- the reference ends at the first `/` behind it, and the path is the rest
abbrev pub reference_in : (repo rest : List ℕ) → UriValue
reference_in repo rest = parted (cut 47 rest)
  where
    parted : Option (List ℕ × List ℕ) → UriValue
    parted None = record { repo = repo; reference = Some rest; path = None }
    parted (Some parts) = record { repo = repo; reference = Some parts.0; path = Some parts.1 }

-- the repository ends at the first `/`
abbrev pub uri_in : (rest : List ℕ) → UriValue
uri_in rest = parted (cut 47 rest)
  where
    parted : Option (List ℕ × List ℕ) → UriValue
    parted None = record { repo = rest; reference = None; path = None }
    parted (Some parts) = reference_in parts.0 parts.1

-- a part is there and not empty
abbrev pub is_full : Option (List ℕ) → Bool
is_full part = option_map_or (λ text. not (length text == 0)) part false

-- the URI has just these parts, and none of them is empty; the path of a prefix may be empty or missing
abbrev pub has_parts : UriParts → UriValue → Bool
has_parts Repo uri = not (length uri.repo == 0) && is_none uri.reference
has_parts Ref uri = not (length uri.repo == 0) && is_full uri.reference && is_none uri.path
has_parts Path uri = not (length uri.repo == 0) && is_full uri.reference && is_full uri.path
has_parts Prefix uri = not (length uri.repo == 0) && is_full uri.reference

-- where a URI points; a part that it hasn't is empty
pub record PlaceValue : Type 0 where
  pub repo : List ℕ
  pub reference : List ℕ
  pub path : List ℕ

abbrev pub place_at : UriValue → PlaceValue
place_at uri = record { repo = uri.repo; reference = unwrap_or uri.reference []; path = unwrap_or uri.path [] }

-- where a URI of these parts points
abbrev pub place_in : UriParts → (rest : List ℕ) → Option PlaceValue
place_in parts rest = if has_parts parts (uri_in rest) then Some (place_at (uri_in rest)) else None

abbrev pub place_of : UriParts → (word : List ℕ) → Option PlaceValue
place_of parts word = option_and_then (place_in parts) (uri_rest word)

-- ---- the URIs of a command

-- a value that is a URI: the place where it points, before others
abbrev pub before : Kind → (text : List ℕ) → Option (List PlaceValue) → Option (List PlaceValue)
before (UriOf parts) text places = option_and_then (λ place. option_map (λ more. place ∷ more) places) (place_of parts text)
before Any text places = places
before Number text places = places
before Meta text places = places

-- the places of all URIs, in the order of the table, where each has the parts that it must have
abbrev pub places_of : List GivenValue → Option (List PlaceValue)
places_of [] = Some []
places_of (value ∷ values) = before value.0.kind value.1 (places_of values)

-- no place: of a command that has no such URI
abbrev pub no_place : PlaceValue
no_place = record { repo = []; reference = []; path = [] }

-- the place of this number, from 0
abbrev pub place_number : List PlaceValue → ℕ → PlaceValue
place_number places n = unwrap_or (slice_get places n) no_place

-- two URIs name one repository
abbrev pub are_of_one : List PlaceValue → Bool
are_of_one [] = true
are_of_one (first ∷ []) = true
are_of_one (first ∷ second ∷ places) = bytes_eq first.repo second.repo

-- ---- what contracts see

abbrev pub uri_seen : Uri → UriValue
uri_seen uri = record {
  repo = uri.repo.now;
  reference = option_map (λ text. text.now) uri.reference;
  path = option_map (λ text. text.now) uri.path;
}

abbrev pub place_seen : Place → PlaceValue
place_seen place = record { repo = place.repo.now; reference = place.reference.now; path = place.path.now }
