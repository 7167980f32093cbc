-- What only entries change that raise a count.
use Rattle.std.proofs.Common.{◌≡◌, ◌≤◌, ℕ, List, [], ◌∷◌, ◌++◌, arith}
use Rattle.lake_model.specs.declared.history.HistoryEntry.{HistoryEntry}
use Rattle.lake_model.specs.State.{State}
use Rattle.lake_model.specs.History.{Allows, IsLegal, after, replay}
use Rattle.lake_model.specs.Versions.{VersionsGiven, versions_after, count_versions}

-- A count of versions that meet a condition tells whether two states are the same in some way: no entry lowers it, and
-- one that leaves it leaves the state the same.
pub record Tells (IsFit : VersionsGiven → Type 0) (count : VersionsGiven → ℕ) (Same : State → State → Type 0) : Type 0 where
  pub itself : (state : State) → Same state state
  pub joined : (first second third : State) → Same first second → Same second third → Same first third
  pub fit : (given : VersionsGiven) (entry : HistoryEntry) → IsFit given → IsFit (versions_after given entry)
  pub rises : (given : VersionsGiven) (entry : HistoryEntry) → IsFit given → count given ≤ count (versions_after given entry)
  pub kept : (state : State) (given : VersionsGiven) (entry : HistoryEntry) → Allows state entry → IsFit given
      → count given ≡ count (versions_after given entry) → Same state (after state entry)

module _ (IsFit : VersionsGiven → Type 0) (count : VersionsGiven → ℕ) (Same : State → State → Type 0) (tells : Tells IsFit count Same) where
  risen : (entries : List HistoryEntry) (given : VersionsGiven) → IsFit given → count given ≤ count (count_versions given entries)
  risen [] given fit = omega arith
  risen (entry ∷ entries) given fit =
      let first = tells.rises given entry fit in
      let rest = risen entries (versions_after given entry) (tells.fit given entry fit) in
      omega arith

  same_after : (entries : List HistoryEntry) (state : State) (given : VersionsGiven) → IsFit given → IsLegal state entries
      → count given ≡ count (count_versions given entries) → Same state (replay state entries)
  same_after [] state given fit legal level = tells.itself state
  same_after (entry ∷ entries) state given fit legal level =
      let next = versions_after given entry in
      let first = tells.rises given entry fit in
      let rest = risen entries next (tells.fit given entry fit) in
      let here : count given ≡ count next = omega arith in
      let there : count next ≡ count (count_versions next entries) = omega arith in
      tells.joined state (after state entry) (replay (after state entry) entries)
      (tells.kept state given entry legal.0 fit here)
      (same_after entries (after state entry) next (tells.fit given entry fit) legal.1 there)

  -- in a legal history two states with the same count are the same
  pub same_where_level : (entries more : List HistoryEntry) (state : State) (given : VersionsGiven) → IsFit given
      → IsLegal state (entries ++ more)
      → count (count_versions given entries) ≡ count (count_versions given (entries ++ more))
      → Same (replay state entries) (replay state (entries ++ more))
  same_where_level [] more state given fit legal level = same_after more state given fit legal level
  same_where_level (entry ∷ entries) more state given fit legal level =
      same_where_level entries more (after state entry) (versions_after given entry) (tells.fit given entry fit) legal.1 level
