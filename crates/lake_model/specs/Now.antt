-- What is read on a branch by its plain name.
use Rattle.std.specs.Prelude.{List, ℕ, Option, option_map, option_and_then}
use Rattle.std.specs.FinMap.{get}
use Rattle.lake_values.specs.KeyMap.{KeyMapValue}
use Rattle.lake_model.specs.State.{Repository, State, now_map}

-- what is read on a branch of a repository, where it is there
abbrev pub now_in : List ℕ → Repository → Option KeyMapValue
now_in branch r = option_map (now_map r) (get r.branches branch)

-- what is read on a branch of a lake
abbrev pub now_of : State → List ℕ → List ℕ → Option KeyMapValue
now_of state repo branch = option_and_then (now_in branch) (get state.repositories repo)
