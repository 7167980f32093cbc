-- What the caller of a new head keeps.
use Rattle.std.specs.Prelude.{◌≡◌, true, ℕ, List, None}
use Rattle.lake_values.specs.Commit.{AboutValue}
use Rattle.meta_range.specs.Ranges.{TreeValue}
use Rattle.lake_model.specs.declared.reply.SwapKind.{SwapKind}
use Rattle.lake_model.specs.State.{Branch, Repository, State, head_map}
use Rattle.lake_model.specs.Commits.{denied_by}
use Rattle.lake_model.specs.Steps.{is_current, swap_rule}
use Rattle.lake_model.specs.Versions.{VersionsGiven}
use Rattle.lake_laws.specs.Prepared.{IsWorthMaking, WhereThere}
use Rattle.core_readings.specs.Trees.{IsCutTree}

-- A new head is worth making, hooks allow it, and the tree is that of its map by the lake's cut.
pub record IsReadyOn (state : State) (branch : List ℕ) (swap : SwapKind) (about : AboutValue) (tree : TreeValue) (r : Repository) (b : Branch) : Type 0 where
  pub worth : IsWorthMaking swap r b
  pub allowed : denied_by r.notes.hooks branch (head_map r b) ((swap_rule swap about).draft r b) ≡ None
  pub drafted : IsCutTree state.cut ((swap_rule swap about).draft r b).objects tree

-- so it is where both versions are those now and the branch is there
abbrev pub IsReadyFor : State → VersionsGiven → List ℕ → List ℕ → ℕ → ℕ → SwapKind → AboutValue → TreeValue → Type 0
IsReadyFor state given repo branch version settings swap about tree =
    is_current given repo branch version settings ≡ true → WhereThere state repo branch (IsReadyOn state branch swap about tree)
