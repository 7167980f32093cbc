-- Files by their names, and the maps that trees can hold.
use Rattle.std.specs.Prelude.{◌≡◌, ◌≢◌, ◌<◌, ◌^◌, ℕ, List, [], Option, option_map, find, slice_get}
use Rattle.std.specs.List.{AllByRecursion, Contains}
use Rattle.std.specs.FinMap.{entries, len}
use Rattle.std.specs.Option.{unwrap_or}
use Rattle.std.specs.Str.{bytes_eq}
use Rattle.lake_base.specs.declared.digest.Digest.{Digest}
use Rattle.lake_values.specs.KeyMap.{KeyMapValue}
use Rattle.lake_format.specs.Spelling.{file_name, IsRow}
use Rattle.meta_range.specs.declared.file.File.{File}

-- the file at a place; past the last one, no bytes
abbrev pub file_at : List (List ℕ) → ℕ → List ℕ
file_at files place = unwrap_or (slice_get files place) []

-- the file of some bytes: it is known by their SHA-256
abbrev pub file_of : List ℕ → File
file_of bytes = record { name = file_name bytes; bytes = bytes }

-- the name under which a file is given
abbrev pub given_name : File → Digest
given_name file = file.name

-- the bytes of the first of these files that has this name
unfoldable pub bytes_named : Digest → List File → Option (List ℕ)
bytes_named name files = option_map (λ file. file.bytes) (find (λ file. bytes_eq file.name.0 name.0) files)

-- a map that a tree can hold: each row within its limits, and fewer than 2^32 of them
pub record FitsTree (objects : KeyMapValue) : Type 0 where
  pub each : AllByRecursion IsRow (entries objects)
  pub few : len objects < 2 ^ 32

-- a file of the one and a file of the other have one name, and other bytes
pub record Clash (files others : List (List ℕ)) : Type 0 where
  pub file : List ℕ
  pub other : List ℕ
  pub here : Contains files file
  pub there : Contains others other
  pub name : file_name file ≡ file_name other
  pub apart : file ≢ other
