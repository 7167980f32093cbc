-- How tokens are kept: rows of an ordered map, and one change that waits for its place in them.
use Rattle.std.specs.Prelude.{◌≡◌, ◌==◌, ℕ, nat_eq, Bool, true, false, not, IsSome, ◌&&◌, List, [], ◌∷◌, Option, Some, None, if◌then◌else◌}
use Rattle.std.specs.Option.{unwrap_or}
use Rattle.std.specs.FinMap.{empty, entries, find, len, put}
use Rattle.std.specs.List.{starts_with}
use Rattle.std.specs.Ordering.{is_lt}
use Rattle.std.specs.Str.{bytes_eq}
use Rattle.lake_base.specs.Maps.{byte_order}
use Rattle.lake_values.specs.Cursor.{entries_from}
use Rattle.lake_values.specs.KeyMap.{ChangesValue}
use Rattle.lake_values.specs.Reset.{drops_path}
use Rattle.lake_values.specs.declared.entry.Change.{Change}
use Rattle.lake_values.specs.declared.commit.ResetWhat.{ResetWhat}
use Rattle.branch_record.specs.Tokens.{TokenMap, with_changes, with_change}

-- a change that waits: its token, its path, and the change
abbrev pub Waiting : Type 0
Waiting = Option (ℕ × List ℕ × Change)

-- the tokens of rows, without those that have no changes; of two rows of a token the first counts
unfoldable pub tokens_of : List (ℕ × ChangesValue) → TokenMap
tokens_of [] = empty
tokens_of (row ∷ rows) = with_changes (tokens_of rows) row.0 row.1

-- the tokens with the change that waits over the others
unfoldable pub with_waiting : Waiting → TokenMap → TokenMap
with_waiting None tokens = tokens
with_waiting (Some w) tokens = with_change tokens w.0 w.1 w.2

-- for how many changes there is room: for one, where none waits
abbrev pub room : Waiting → ℕ
room None = 1
room (Some w) = 0

-- what a reset under a token leaves of the change that waits
abbrev pub waiting_after : Waiting → ℕ → ResetWhat → Waiting
waiting_after None token what = None
waiting_after (Some w) token what = if nat_eq token w.0 && drops_path what w.1 then None else Some w

-- the change that waits under a token, with its path
abbrev pub waiting_under : Waiting → ℕ → Option (List ℕ × Change)
waiting_under None token = None
waiting_under (Some w) token = if nat_eq token w.0 then Some (w.1, w.2) else None

-- whether changes were found
abbrev pub some_changes : Option ChangesValue → Bool
some_changes None = false
some_changes (Some changes) = not (len changes == 0)

-- rows in order of path with one more in its place
abbrev pub put_row : Option (List ℕ × Change) → List (List ℕ × Change) → List (List ℕ × Change)
put_row None rows = rows
put_row (Some row) rows = put byte_order row.0 row.1 rows

-- the row at hand, and those after it
abbrev pub rows_from : Option (List ℕ × Change) → List (List ℕ × Change) → List (List ℕ × Change)
rows_from None rest = []
rows_from (Some row) rest = row ∷ rest

-- a row and those after it are all of the rows from it on; where there is none, none comes
abbrev pub AreFromFirst : Option (List ℕ × Change) → List (List ℕ × Change) → List (List ℕ × Change) → Type 0
AreFromFirst None rest rows = rest ≡ []
AreFromFirst (Some row) rest rows = entries_from row.0 rows ≡ row ∷ rest

-- rows that are still to come, where there are any
abbrev pub rows_left : Option (List (List ℕ × Change)) → List (List ℕ × Change)
rows_left rows = unwrap_or rows []

-- the row, where it doesn't stand below these bytes
abbrev pub row_above : List ℕ → Option (List ℕ × Change) → Option (List ℕ × Change)
row_above least None = None
row_above least (Some row) = if is_lt (byte_order row.0 least) then None else Some row

-- the rows of changes, where there are any
abbrev pub rows_under : Option ChangesValue → List (List ℕ × Change)
rows_under None = []
rows_under (Some changes) = entries changes

-- what the change that waits says of a path under a token
abbrev pub waiting_said : Waiting → ℕ → List ℕ → Option Change
waiting_said None token path = None
waiting_said (Some w) token path = if nat_eq token w.0 && bytes_eq path w.1 then Some w.2 else None

-- no path of the rows begins with a prefix
abbrev pub IsNoneUnder : List ℕ → List (List ℕ × Change) → Type 0
IsNoneUnder prefix rows = (path : List ℕ) → starts_with nat_eq path prefix ≡ true → find byte_order path rows ≡ None

-- a path of the rows that begins with a prefix
pub record IsUnder (prefix : List ℕ) (rows : List (List ℕ × Change)) (path : List ℕ) : Type 0 where
  pub begins : starts_with nat_eq path prefix ≡ true
  pub there : IsSome (find byte_order path rows)
