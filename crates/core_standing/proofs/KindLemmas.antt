-- A new head, by whichever of the three kinds: what its entry changes, what it counts and what it asks.
use Rattle.std.proofs.Common.{◌≡◌, ◌+◌, ℕ, List, refl}
use Rattle.lake_values.specs.Commit.{AboutValue}
use Rattle.lake_model.specs.declared.history.By.{By}
use Rattle.lake_model.specs.declared.reply.SwapKind.{SwapKind}
use Rattle.lake_model.specs.declared.reply.SwapKind.TheVariants as kind
use Rattle.lake_model.specs.State.{State, HasBranch}
use Rattle.lake_model.specs.Commits.{MayBecomeHead, after_draft}
use Rattle.lake_model.specs.History.{Allows, accepted_entry, after}
use Rattle.lake_model.specs.Steps.{swap_operation, swap_rule}
use Rattle.lake_model.specs.Versions.{VersionsGiven, versions_after, with_branch_version}
use Rattle.core_changes.proofs.StateLemmas.{with_one_more}

-- the versions after a new head: the branch has the next one, and references changed
abbrev pub with_head_version : List ℕ → List ℕ → VersionsGiven → VersionsGiven
with_head_version repo branch given =
    record (with_branch_version repo branch given) { references = given.references + 1 }

module _ (by : By) (repo branch : List ℕ) (about : AboutValue) where
  -- what is drafted becomes the head
  pub kind_changes : (state : State) (swap : SwapKind)
      → after state (accepted_entry by (swap_operation repo branch swap about))
      ≡ with_one_more (after_draft repo branch (swap_rule swap about).draft state)
  kind_changes state kind.Commit = refl
  kind_changes state (kind.Merge source strategy) = refl
  kind_changes state (kind.Pick base source strategy) = refl

  -- a version of the branch and a change of references are counted
  pub kind_counts : (given : VersionsGiven) (swap : SwapKind)
      → versions_after given (accepted_entry by (swap_operation repo branch swap about)) ≡ with_head_version repo branch given
  kind_counts given kind.Commit = refl
  kind_counts given (kind.Merge source strategy) = refl
  kind_counts given (kind.Pick base source strategy) = refl

  -- the branch is there, and what is drafted may become its head
  pub kind_asks : (state : State) (swap : SwapKind) → Allows state (accepted_entry by (swap_operation repo branch swap about))
      → HasBranch state repo branch (λ r b. MayBecomeHead state branch r b ((swap_rule swap about).draft r b))
  kind_asks state kind.Commit allowed =
      let at = allowed.possible in (at.0, at.1, (at.2.0, at.2.1, at.2.2.head))
  kind_asks state (kind.Merge source strategy) allowed =
      let at = allowed.possible in (at.0, at.1, (at.2.0, at.2.1, at.2.2.head))
  kind_asks state (kind.Pick base source strategy) allowed =
      let at = allowed.possible in (at.0, at.1, (at.2.0, at.2.1, at.2.2.head))
