-- The parts of a state that entries change: one thing in a map, one repository, one branch.
use Rattle.std.specs.Prelude.{List, ℕ}
use Rattle.std.specs.Option.{option_map_or}
use Rattle.std.specs.FinMap.{get, insert}
use Rattle.lake_base.specs.Maps.{ByteMap}
use Rattle.lake_model.specs.State.{Branch, Repository, State}

-- what stands under a name is changed, where something does
abbrev pub changed_at : {X : Type 0} → List ℕ → (X → X) → ByteMap X → ByteMap X
changed_at name change map = option_map_or (λ x. insert map name (change x)) (get map name) map

-- a repository is changed
abbrev pub in_repository : List ℕ → (Repository → Repository) → State → State
in_repository repo change state = record state { repositories = changed_at repo change state.repositories }

-- its branches are changed
abbrev pub in_branches : List ℕ → (ByteMap Branch → ByteMap Branch) → State → State
in_branches repo change state = in_repository repo (λ r. record r { branches = change r.branches }) state

-- a branch is changed
abbrev pub in_branch : List ℕ → List ℕ → (Branch → Branch) → State → State
in_branch repo branch change state = in_branches repo (changed_at branch change) state
