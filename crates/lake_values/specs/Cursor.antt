-- Entries in ascending order of path, some of which are still to come.
use Rattle.std.specs.Prelude.{ℕ, List, not, filter}
use Rattle.std.specs.Ordering.{is_lt}
use Rattle.lake_base.specs.Maps.{byte_order}

-- those at or above these bytes
abbrev pub entries_from : {X : Type 0} → List ℕ → List (List ℕ × X) → List (List ℕ × X)
entries_from least entries = filter (λ entry. not (is_lt (byte_order entry.0 least))) entries
