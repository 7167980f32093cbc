-- An object as it stands at a path.
use Rattle.std.specs.Prelude.{◌≡◌, ◌≤◌, ◌<◌, ℕ, false, List, length, codes}
use Rattle.std.specs.List.{starts_with}
use Rattle.std.specs.Prelude.{nat_eq}
use Rattle.lake_values.specs.declared.entry.Place.{Place}
use Rattle.lake_values.specs.declared.entry.Place.TheVariants.{Own, External}

-- an entry as contracts see it
pub record EntryValue : Type 0 where
  pub place : Place
  pub size : ℕ
  pub mtime : ℕ
  pub content_type : List ℕ
  pub metadata : List (List ℕ × List ℕ)

-- the limits of an address outside and of its checksum
pub record IsOutside (at checksum : List ℕ) : Type 0 where
  pub some : 0 < length at
  pub short : length at ≤ 2048
  pub foreign : starts_with nat_eq at (codes "lake://") ≡ false
  pub short_checksum : length checksum ≤ 128

-- a place within its limits
abbrev pub IsPlace : Place → Type 0
IsPlace (Own number digest) = Unit {0}
IsPlace (External at checksum) = IsOutside at checksum

-- what an entry may hold: a place within its limits, and a content type of at most 255 bytes
abbrev pub CanHold : Place → List ℕ → Type 0
CanHold place content_type = IsPlace place × (length content_type ≤ 255)
