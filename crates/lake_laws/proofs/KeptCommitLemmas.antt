-- What an expression and a parent lead to is a commit, and a commit stays.
use Rattle.std.proofs.Common.{◌≡◌, ℕ, List, ◌++◌, refl, sym, ap, ◌∙◌}
use Rattle.std.specs.Prelude.{Option, Some, None, Ok, slice_get}
use Rattle.std.specs.Result.{result_ok}
use Rattle.std.specs.Option.{is_some}
use Rattle.std.specs.FinMap.{get}
use Rattle.lake_base.specs.declared.digest.Digest.{Digest}
use Rattle.lake_values.specs.Ancestry.{commit_of, parents, parents_in}
use Rattle.lake_values.specs.Commit.{CommitRecordValue}
use Rattle.commit_graph.specs.Expressions.{RefExprValue}
use Rattle.lake_model.specs.declared.history.HistoryEntry.{HistoryEntry}
use Rattle.lake_model.specs.State.{Repository, State, HasCommit, HasRepository, map_of}
use Rattle.lake_model.specs.History.{IsLegal, replay}
use Rattle.lake_model.specs.Resolving.{expression_target}
use Rattle.lake_model.specs.Soundness.{IsSound}
use Rattle.lake_laws.specs.SameCommit.{HasSameCommit}
use Rattle.lake_laws.proofs.HistoryLemmas.{at_end, kept-replay, legal_before, legal_behind}
use Rattle.lake_laws.proofs.IdentityLemmas.{HasMapped, mapped-after}
use Rattle.lake_laws.proofs.LookupLemmas.{of_some}
use Rattle.lake_laws.proofs.SoundnessLemmas.{IsSound-replay}
use Rattle.lake_laws.proofs.TargetLemmas.{at_within, target_there}

module _ (state : State) (repo : List ℕ) (r : Repository) (sound : IsSound state) (stands : get state.repositories repo ≡ Some r) where
  -- what an expression leads to is a commit
  pub expression_commit : (e : RefExprValue) (id : Digest) → expression_target r e ≡ Ok id → HasCommit r id
  expression_commit e id is = target_there state.cut r (sound.repositories repo r stands) e id (ap result_ok is)

  -- a parent is one
  pub parent_commit : (id parent : Digest) (place : ℕ) → slice_get (parents r.commits id) place ≡ Some parent → HasCommit r parent
  unfolding parents
  parent_commit id parent place is = by (commit_of r.commits id) refl
    where
      by : (o : Option CommitRecordValue) → commit_of r.commits id ≡ o → HasCommit r parent
      by None none = let nothing = ap (λ o. slice_get (parents_in o) place) (sym none) ∙ is in absurd cc
      by (Some commit) some =
          ((sound.repositories repo r stands).graph id (ap is_some some)).whole parent (at_within (parents r.commits id) place parent is)

module _ (state : State) (seen history more : List HistoryEntry) (is : seen ≡ history ++ more) (legal : IsLegal state seen) (repo : List ℕ) (r : Repository)
    (stands : get (replay state history).repositories repo ≡ Some r) where
  -- a commit stays, with its record and its map
  pub commit_stays : (id : Digest) → HasCommit r id → HasRepository (replay state seen) repo (HasSameCommit r id)
  commit_stays id there =
      let commit = of_some (commit_of r.commits id) there in
      let mapped = HasMapped id commit.0 (map_of r id) in
      let last = at_end state seen history more is (λ s. HasRepository s repo mapped)
      (kept-replay (λ s. HasRepository s repo mapped) more (replay state history) (λ s entry. mapped-after id commit.0 (map_of r id) s entry repo)
      (legal_behind state seen history more is legal) (r, stands, (commit.1, refl))) in
      (last.0, last.1, record { there = ap is_some last.2.0; commit = last.2.0 ∙ sym commit.1; map = last.2.1 })

  module _ (sound : IsSound state) where
    here : IsSound (replay state history)
    here = IsSound-replay state history sound (legal_before state seen history more is legal)

    -- so does what an expression led to
    pub expression_stays : (e : RefExprValue) (id : Digest) → expression_target r e ≡ Ok id → HasRepository (replay state seen) repo (HasSameCommit r id)
    expression_stays e id leads = commit_stays id (expression_commit (replay state history) repo r here stands e id leads)

    -- and a parent
    pub parent_stays : (id parent : Digest) (place : ℕ) → slice_get (parents r.commits id) place ≡ Some parent
        → HasRepository (replay state seen) repo (HasSameCommit r parent)
    parent_stays id parent place leads = commit_stays parent (parent_commit (replay state history) repo r here stands id parent place leads)
