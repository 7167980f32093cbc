-- What a new head has that isn't refused at its reading.
use Rattle.std.specs.Prelude.{◌≡◌, false, List, ℕ, Some, None, IfSome}
use Rattle.lake_values.specs.Ancestry.{commit_of}
use Rattle.lake_values.specs.Commit.{AboutValue, CommitRecordValue}
use Rattle.lake_format.specs.Spelling.{commit_id}
use Rattle.lake_model.specs.declared.reply.SwapKind.{SwapKind}
use Rattle.lake_model.specs.declared.reply.SwapKind.TheVariants as kind
use Rattle.lake_model.specs.State.{Branch, Repository, State, HasCommit, is_expired, map_of}
use Rattle.lake_model.specs.Commits.{Draft, record_of}
use Rattle.lake_model.specs.HeadRefusals.{denied_on}
use Rattle.lake_model.specs.Steps.{swap_rule}
use Rattle.lake_laws.specs.Prepared.{IsWorthMaking}

-- the commits of a merge or a pick are commits of the repository
abbrev pub HasCommitsOf : SwapKind → Repository → Type 0
HasCommitsOf kind.Commit r = Unit {0}
HasCommitsOf (kind.Merge source strategy) r = HasCommit r source
HasCommitsOf (kind.Pick base source strategy) r = HasCommit r base × HasCommit r source

-- The source of a merge or a pick isn't expired, the new head is worth making, and no hook denies it.
pub record IsUnrefused (swap : SwapKind) (branch : List ℕ) (about : AboutValue) (r : Repository) (b : Branch) : Type 0 where
  pub live : IfSome (swap_rule swap about).source (λ id. is_expired r id ≡ false)
  pub worth : IsWorthMaking swap r b
  pub allowed : denied_on swap branch about r b ≡ None

-- a commit that has the id of a new one is this one, of this map
pub record IsTheOnly (state : State) (r : Repository) (draft : Draft) : Type 0 where
  pub same_record : (old : CommitRecordValue) → commit_of r.commits (commit_id (record_of state.cut r.commits draft)) ≡ Some old
      → old ≡ record_of state.cut r.commits draft
  pub same_map : (old : CommitRecordValue) → commit_of r.commits (commit_id (record_of state.cut r.commits draft)) ≡ Some old
      → map_of r (commit_id (record_of state.cut r.commits draft)) ≡ draft.objects
