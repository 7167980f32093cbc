-- Pairs that follow a lake in memory.
use Rattle.std.specs.Prelude.{◌≡◌, ℕ, List, Option, Some}
use Rattle.std.specs.FinMap.{get}
use Rattle.lake_base.specs.Maps.{ByteMap}
use Rattle.lake_values.specs.Commit.{AboutValue}
use Rattle.lake_format.specs.Spelling.{IsSpelledCommit}
use Rattle.meta_range.specs.Files.{FitsTree}
use Rattle.lake_model.specs.declared.reply.SwapKind.{SwapKind}
use Rattle.lake_model.specs.Steps.{swap_rule}
use Rattle.keeper.specs.Keepers.{KeptPairs, pairs_after}
use Rattle.keeper.specs.declared.put.Put.{Put}
use Rattle.core_state.specs.BranchStates.{BranchStateValue, branch_of}
use Rattle.core_state.specs.declared.file_place.FilePlace.{FilePlace}
use Rattle.core_state.specs.LakeStates.{LakeStateValue}
use Rattle.core_state.specs.NewCommits.{NewCommit, commit_of_draft}
use Rattle.core_state.specs.RepositoryStates.{RepositoryStateValue, repository_of}
use Rattle.core_changes.specs.LakeChanges.{after_new_head}
use Rattle.core_changes.specs.NewPlaces.{HasNewPlaces}
pub use Rattle.core_head_pairs.specs.PairWords.{at_rest}
use Rattle.core_head_pairs.specs.PairWords.{AreTokensApart, HasPlaces, StandFor, new_head_puts}

-- pairs keep a lake: they stand for it, and no two of its branches name one token
pub record KeepLake (pairs : KeptPairs) (l : LakeStateValue) : Type 0 where
  pub stand : StandFor pairs l
  pub apart : AreTokensApart l

-- pairs follow a lake with an index of files: they keep it, and the index tells the kinds of the files that are kept
pub record FollowLake (pairs : KeptPairs) (files : ByteMap (Option FilePlace)) (l : LakeStateValue) : Type 0 where
  pub kept : KeepLake pairs l
  pub places : HasPlaces files l

-- a change of a lake by these puts: pairs that follow the lake go on to, with the same index
abbrev pub KeepsFollowing : LakeStateValue → List Put → (LakeStateValue → LakeStateValue) → Type 0
KeepsFollowing l puts after = (pairs : KeptPairs) (files : ByteMap (Option FilePlace)) → FollowLake pairs files l
    → FollowLake (pairs_after puts pairs) files (after l)

-- ---- a new head

-- a commit is that of what is drafted for a branch, which is there, and is within its limits
pub record IsHeadOf (l : LakeStateValue) (repo branch : List ℕ) (swap : SwapKind) (about : AboutValue) (new : NewCommit) : Type 0 where
  pub r : RepositoryStateValue
  pub b : BranchStateValue
  pub in_lake : get l.repositories repo ≡ Some r
  pub on : get r.branches branch ≡ Some b
  pub drafted : new ≡ commit_of_draft l.cut r.commits ((swap_rule swap about).draft (repository_of r) (branch_of b))
  pub content : IsSpelledCommit new.content
  pub fits : FitsTree new.tree.map

-- after the puts of a new head pairs that followed the lake keep the one with it
abbrev pub KeepsHead : LakeStateValue → List ℕ → List ℕ → NewCommit → Type 0
KeepsHead l repo branch new = (pairs : KeptPairs) (files : ByteMap (Option FilePlace)) → FollowLake pairs files l
    → KeepLake (pairs_after (new_head_puts repo branch new files l) pairs) (after_new_head repo branch new l)

-- and they follow it, with an index to which places of files of its tree came
abbrev pub FollowsHead : LakeStateValue → List ℕ → List ℕ → NewCommit → Type 0
FollowsHead l repo branch new = (pairs : KeptPairs) (before after : ByteMap (Option FilePlace)) → FollowLake pairs before l
    → HasNewPlaces before after new.tree
    → FollowLake (pairs_after (new_head_puts repo branch new before l) pairs) after (after_new_head repo branch new l)
