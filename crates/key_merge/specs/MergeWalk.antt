-- The walk over the rows of base, source and destination, path by path: what is still to come, and what comes of it.
use Rattle.std.specs.Prelude.{ℕ, List, [], ◌∷◌, Option, Some, None, option_map, if◌then◌else◌}
use Rattle.std.specs.Borrow.{Bor}
use Rattle.std.specs.FinMap.{entries, find, from_sorted}
use Rattle.std.specs.Ordering.{is_lt}
use Rattle.lake_base.specs.Maps.{byte_order, HasAscendingKeys}
use Rattle.lake_values.specs.Entry.{EntryValue}
use Rattle.lake_values.specs.KeyMap.{KeyMapValue, change_between, differences}
use Rattle.lake_values.specs.Merging.{side_of, merged_value, merged_map, conflicts}
use Rattle.lake_values.specs.declared.entry.Change.{Change}
use Rattle.lake_values.specs.declared.commit.Strategy.{Strategy}
use Rattle.lake_values.specs.declared.commit.Strategy.TheVariants.{Refuse, SourceWins, DestWins}
use Rattle.lake_values.specs.declared.merge.Side.{Side}
use Rattle.lake_values.specs.declared.merge.Side.TheVariants.{Source, Destination, Neither}
use Rattle.range_file.specs.Rows.{RowValue}
use Rattle.meta_range.specs.Ranges.{rows_above}

-- ---- rows

-- rows still to come: the one at hand, and those after it; where none is at hand, none comes
abbrev pub rows_ahead : Option (Bor (List ℕ) × Bor EntryValue) → List RowValue → List RowValue
rows_ahead None after = []
rows_ahead (Some row) after = (row.0.now, row.1.now) ∷ after

-- the path of the first row
abbrev pub first_path : List RowValue → Option (List ℕ)
first_path [] = None
first_path (row ∷ rows) = Some row.0

-- the lesser of two paths; where there is one alone, that one
abbrev pub least_path : Option (List ℕ) → Option (List ℕ) → Option (List ℕ)
least_path None other = other
least_path (Some path) None = Some path
least_path (Some path) (Some other) = Some (if is_lt (byte_order other path) then other else path)

-- ---- the three sides

-- the rows of the three sides that are still to come
pub record SidesValue : Type 0 where
  pub base : List RowValue
  pub source : List RowValue
  pub dest : List RowValue

-- a path, and what the three sides have there
pub record FrontValue : Type 0 where
  pub path : List ℕ
  pub base : Option EntryValue
  pub source : Option EntryValue
  pub dest : Option EntryValue

-- all rows of three maps
abbrev pub sides_of : KeyMapValue → KeyMapValue → KeyMapValue → SidesValue
sides_of base source dest = record { base = entries base; source = entries source; dest = entries dest }

-- those above a path
abbrev pub sides_above : List ℕ → SidesValue → SidesValue
sides_above path sides =
    record { base = rows_above (Some path) sides.base; source = rows_above (Some path) sides.source; dest = rows_above (Some path) sides.dest }

-- what the three sides have at a path
abbrev pub front_at : SidesValue → List ℕ → FrontValue
front_at sides path =
    record { path = path; base = find byte_order path sides.base; source = find byte_order path sides.source; dest = find byte_order path sides.dest }

-- the least path that base or source has, with what the three sides have there
abbrev pub first_front : SidesValue → Option FrontValue
first_front sides = option_map (front_at sides) (least_path (first_path sides.base) (first_path sides.source))

-- the paths of each side ascend
pub record Ascend (sides : SidesValue) : Type 0 where
  pub base : HasAscendingKeys sides.base
  pub source : HasAscendingKeys sides.source
  pub dest : HasAscendingKeys sides.dest

-- ---- what comes of them

-- whose value a path takes, where the strategy decides of those that conflict
abbrev pub winning_side : Strategy → Side → Side
winning_side strategy Source = Source
winning_side strategy Destination = Destination
winning_side Refuse Neither = Neither
winning_side SourceWins Neither = Source
winning_side DestWins Neither = Destination

-- whose value a path takes that has these values
abbrev pub side_at : FrontValue → Side
side_at front = side_of front.base front.source front.dest

-- the change of the destination at a path that has these values
abbrev pub change_at : Strategy → FrontValue → Option Change
change_at strategy front = change_between (merged_value strategy front.base front.source front.dest) front.dest

-- the paths that conflict, where there is no strategy for them
abbrev pub refused_paths : Strategy → KeyMapValue → KeyMapValue → KeyMapValue → List (List ℕ)
refused_paths Refuse base source dest = conflicts base source dest
refused_paths SourceWins base source dest = []
refused_paths DestWins base source dest = []

-- the changes that rows still to come give
abbrev pub changes_of : Strategy → SidesValue → List (List ℕ × Change)
changes_of strategy sides =
    entries (differences (merged_map strategy (from_sorted sides.base) (from_sorted sides.source) (from_sorted sides.dest)) (from_sorted sides.dest))

-- the conflicts among them
abbrev pub conflicts_of : SidesValue → List (List ℕ)
conflicts_of sides = conflicts (from_sorted sides.base) (from_sorted sides.source) (from_sorted sides.dest)

-- and those for which they refuse
abbrev pub refusals_of : Strategy → SidesValue → List (List ℕ)
refusals_of strategy sides = refused_paths strategy (from_sorted sides.base) (from_sorted sides.source) (from_sorted sides.dest)
