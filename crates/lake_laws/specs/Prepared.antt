-- What the caller of a step that makes a new head keeps, beside what the step asks.
use Rattle.std.specs.Prelude.{◌≡◌, List, ℕ, Some, None}
use Rattle.std.specs.FinMap.{get}
use Rattle.lake_values.specs.Ancestry.{commit_of}
use Rattle.lake_values.specs.Commit.{AboutValue, CommitRecordValue}
use Rattle.lake_format.specs.Spelling.{commit_id}
use Rattle.lake_model.specs.declared.reply.SwapKind.{SwapKind}
use Rattle.lake_model.specs.declared.reply.SwapKind.TheVariants as kind
use Rattle.lake_model.specs.State.{Branch, Repository, State, HasCommit, head_map, map_of, sealed_map}
use Rattle.lake_model.specs.Commits.{Draft, IsMergeable, denied_by, merge_sides, pick_sides, record_of}
use Rattle.lake_model.specs.Steps.{swap_rule}

-- a branch that is there has P with its repository
abbrev pub WhereThere : State → List ℕ → List ℕ → (Repository → Branch → Type 0) → Type 0
WhereThere state repo branch P = (r : Repository) (b : Branch)
    → get state.repositories repo ≡ Some r → get r.branches branch ≡ Some b → P r b

-- A commit's sealed changes change the head's map; the commits of a merge and of a pick are there, and their sides are
-- mergeable.
abbrev pub IsWorthMaking : SwapKind → Repository → Branch → Type 0
IsWorthMaking kind.Commit r b = sealed_map r b ≡ head_map r b → ⊥
IsWorthMaking (kind.Merge source strategy) r b = HasCommit r source × IsMergeable r b (merge_sides r b source strategy)
IsWorthMaking (kind.Pick base source strategy) r b =
    HasCommit r base × HasCommit r source × IsMergeable r b (pick_sides r base source strategy)

-- Hooks allow a new commit, and a commit that has its id is this one, of this map.
pub record IsPreparedDraft (state : State) (branch : List ℕ) (r : Repository) (b : Branch) (draft : Draft) : Type 0 where
  pub allowed : denied_by r.notes.hooks branch (head_map r b) draft ≡ None
  pub same_record : (old : CommitRecordValue) → commit_of r.commits (commit_id (record_of state.cut r.commits draft)) ≡ Some old
      → old ≡ record_of state.cut r.commits draft
  pub same_map : (old : CommitRecordValue) → commit_of r.commits (commit_id (record_of state.cut r.commits draft)) ≡ Some old
      → map_of r (commit_id (record_of state.cut r.commits draft)) ≡ draft.objects

-- a new head is worth making, and its commit is prepared
abbrev pub IsPrepared : State → List ℕ → SwapKind → AboutValue → Repository → Branch → Type 0
IsPrepared state branch swap about r b =
    IsWorthMaking swap r b × IsPreparedDraft state branch r b ((swap_rule swap about).draft r b)
