-- A lake in memory.
use Rattle.std.specs.Prelude.{ℕ, Bool, List, [], ◌∷◌, Option, Some, None, option_map}
use Rattle.std.specs.FinMap.{FinMap, empty, from_entries, insert}
use Rattle.std.specs.Ordering.{nat_cmp}
use Rattle.lake_base.specs.Maps.{ByteMap}
use Rattle.lake_format.specs.declared.cut.Cut.{Cut}
use Rattle.byte_map.specs.Values.{map_values, some_values}
use Rattle.lake_model.specs.State.{State}
use Rattle.core_state.specs.declared.lake.LakeState.{LakeState}
use Rattle.core_state.specs.NameIndexes.{NameIndexValue, index_value}
use Rattle.core_state.specs.RepositoryStates.{RepositoryStateValue, repository_of, repository_value}

-- a lake in memory
pub record LakeStateValue : Type 0 where
  pub cut : Cut
  pub repositories : ByteMap RepositoryStateValue
  -- where its commits and files are kept, by their names
  pub names : NameIndexValue
  -- the seat of each upload that isn't finished
  pub tickets : FinMap nat_cmp ℕ
  pub gone : FinMap nat_cmp (Unit {0})
  pub stopped : Bool
  -- how many entries the history has
  pub entries : ℕ
  -- how many of them changed what references lead to, a setting, or what is expired
  pub references : ℕ
  -- what is given out next
  pub next_number : ℕ
  pub next_version : ℕ
  pub next_token : ℕ

-- the tickets of rows; a number without a seat is room for its ticket
abbrev pub tickets_of : List (ℕ × Option ℕ) → FinMap nat_cmp ℕ
tickets_of [] = empty
tickets_of ((number, Some seat) ∷ rows) = insert (tickets_of rows) number seat
tickets_of ((number, None) ∷ rows) = tickets_of rows

-- what a lake in memory says, without the room that it has for what may come
unfoldable pub lake_value : LakeState → LakeStateValue
lake_value l = record {
  cut = l.cut;
  repositories = some_values (option_map repository_value) l.repositories;
  names = index_value l.names;
  tickets = tickets_of l.tickets.entries;
  gone = from_entries l.gone.entries;
  stopped = l.stopped;
  entries = l.entries;
  references = l.references;
  next_number = l.next_number;
  next_version = l.next_version;
  next_token = l.next_token;
}

-- the state that it stands for
abbrev pub state_of : LakeStateValue → State
state_of l = record {
  cut = l.cut;
  repositories = map_values repository_of l.repositories;
  next_number = l.next_number;
  tickets = l.tickets;
  gone = l.gone;
  stopped = l.stopped;
  entries = l.entries;
}
