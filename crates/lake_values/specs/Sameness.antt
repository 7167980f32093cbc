-- Whether two objects, or two values of a path, are equal: in all fields.
use Rattle.std.specs.Prelude.{◌==◌, ◌&&◌, false, true, ℕ, Bool, List, Option, Some, None}
use Rattle.std.specs.Str.{bytes_eq}
use Rattle.std.specs.Cmp.Lexicographic.{pointwise}
use Rattle.lake_values.specs.Entry.{EntryValue}
use Rattle.lake_values.specs.declared.entry.Place.{Place}
use Rattle.lake_values.specs.declared.entry.Place.TheVariants.{Own, External}

-- the same number and digest, or the same address and checksum
abbrev pub same_place : Place → Place → Bool
same_place (Own number digest) (Own other sum) = (number == other) && bytes_eq digest.0 sum.0
same_place (External at checksum) (External other sum) = bytes_eq at other && bytes_eq checksum sum
same_place (Own number digest) (External at checksum) = false
same_place (External at checksum) (Own number digest) = false

-- the same key and value
abbrev pub same_pair : List ℕ × List ℕ → List ℕ × List ℕ → Bool
same_pair pair other = bytes_eq pair.0 other.0 && bytes_eq pair.1 other.1

-- entries are equal where all fields are
unfoldable pub same_entry : EntryValue → EntryValue → Bool
same_entry entry other =
    same_place entry.place other.place && (entry.size == other.size) && (entry.mtime == other.mtime)
    && bytes_eq entry.content_type other.content_type && pointwise same_pair entry.metadata other.metadata

-- "not there" is a value too, and equal to itself alone
abbrev pub same_value : Option EntryValue → Option EntryValue → Bool
same_value None None = true
same_value None (Some entry) = false
same_value (Some entry) None = false
same_value (Some entry) (Some other) = same_entry entry other

-- the same path with equal entries
abbrev pub same_row : List ℕ × EntryValue → List ℕ × EntryValue → Bool
same_row row other = bytes_eq row.0 other.0 && same_entry row.1 other.1
