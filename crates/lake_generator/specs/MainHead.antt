-- The map of main's head.
use Rattle.std.specs.Prelude.{◌≡◌, ℕ, true, Some, codes}
use Rattle.std.specs.FinMap.{len}
use Rattle.lake_base.specs.declared.digest.Digest.{Digest}
use Rattle.lake_format.specs.Cutting.{tree_id}
use Rattle.lake_model.specs.History.{replay}
use Rattle.lake_model.specs.Soundness.{fresh}
use Rattle.lake_model.specs.State.{Branch, HasBranch, Repository, State, head_map}
use Rattle.lake_core.specs.declared.standing.LakeOrigin.{LakeOrigin}
use Rattle.shared_lake.specs.SeatSteps.{LakeSeat}
use Rattle.flow_steps.specs.FlowSeats.{opened_state}
use Rattle.fresh_lakes.specs.FreshLakes.{usual_cut}

-- main is there, and it and its repository have P
abbrev pub HasMain : State → (Repository → Branch → Type 0) → Type 0
HasMain state P = HasBranch state (codes "quickstart") (codes "main") P

-- main's head has so many paths, and its map is known by this id
abbrev pub IsMainMap : State → (paths : ℕ) → (id : Digest) → Type 0
IsMainMap state paths id = HasMain state (λ r b. (paths ≡ len (head_map r b)) × (id ≡ tree_id state.cut (head_map r b)))

-- a seat is alone at a lake that went out from the fresh one, and main is there behind all that it has seen
pub record StandsAtMain (seat : LakeSeat) : Type 0 where
  pub alone : seat.alone ≡ true
  pub origin : LakeOrigin
  pub from : seat.origin ≡ Some origin
  pub opened : opened_state origin ≡ fresh usual_cut
  pub main : HasMain (replay (fresh usual_cut) seat.seen) (λ r b. Unit {0})
