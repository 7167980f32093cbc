-- Commits that are to become the head of a branch.
use Rattle.std.specs.Prelude.{◌≡◌, List, [], ◌∷◌}
use Rattle.std.specs.FinMap.{remove}
use Rattle.lake_base.specs.declared.digest.Digest.{Digest}
use Rattle.lake_values.specs.Commit.{AboutValue}
use Rattle.lake_format.specs.Spelling.{commit_spelling, IsSpelledCommit}
use Rattle.lake_format.specs.declared.cut.Cut.{Cut}
use Rattle.meta_range.specs.Files.{file_of}
use Rattle.meta_range.specs.Ranges.{TreeValue}
use Rattle.lake_model.specs.declared.reply.SwapKind.{SwapKind}
use Rattle.lake_model.specs.declared.reply.SwapKind.TheVariants as kind
use Rattle.lake_model.specs.Commits.{Draft}
use Rattle.lake_model.specs.Steps.{swap_rule}
use Rattle.core_state.specs.BranchStates.{BranchStateValue, branch_of}
use Rattle.core_state.specs.NewCommits.{NewCommit, commit_of_draft}
use Rattle.core_state.specs.RepositoryStates.{RepositoryStateValue, repository_of}
use Rattle.core_readings.specs.Trees.{IsCutTree}
use Rattle.core_commits.specs.declared.commits.NewHead.{NewHead}

-- what a new head says, without its bytes
abbrev pub new_commit : NewHead → NewCommit
new_commit new = record { id = new.content.name; content = new.commit; tree = new.tree.value }

-- the parents of a new head
abbrev pub swap_parents : SwapKind → Digest → List Digest
swap_parents kind.Commit head = head ∷ []
swap_parents (kind.Merge source strategy) head = head ∷ source ∷ []
swap_parents (kind.Pick base source strategy) head = head ∷ []

-- what is drafted for a branch of a repository
abbrev pub draft_for : SwapKind → AboutValue → RepositoryStateValue → BranchStateValue → Draft
draft_for swap about r b = (swap_rule swap about).draft (repository_of r) (branch_of b)

-- A new head is the commit of what is drafted, where the tree that was built is that of the draft; it is within its limits,
-- and its bytes are that commit's.
pub record IsDrafted (cut : Cut) (r : RepositoryStateValue) (b : BranchStateValue) (swap : SwapKind) (about : AboutValue) (built : TreeValue)
    (new : NewHead) : Type 0 where
  pub content : new.content ≡ file_of (commit_spelling new.commit)
  pub limits : IsSpelledCommit new.commit
  pub tree : new.tree.value ≡ built
  pub drafted : IsCutTree cut (draft_for swap about r b).objects built → new_commit new ≡ commit_of_draft cut r.commits (draft_for swap about r b)

-- a repository without a commit
abbrev pub without_commit : Digest → RepositoryStateValue → RepositoryStateValue
without_commit id r = record r { commits = remove r.commits id.0; trees = remove r.trees id.0 }
