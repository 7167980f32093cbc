-- A merge base stays as its graph grows.
use Rattle.std.proofs.Common.{◌≡◌, ℕ, zero, suc, List, Some, None, Option, refl, sym, ap, ◌∙◌, subst}
use Rattle.std.specs.List.{Contains}
use Rattle.std.specs.Option.{IsSome, is_some, option_map, unwrap_or}
use Rattle.std.specs.Ordering.{is_lt, nat_cmp, ordering_then}
use Rattle.std.specs.FinMap.{get}
use Rattle.lake_base.specs.declared.digest.Digest.{Digest}
use Rattle.lake_values.specs.Ancestry.{Graph, IsAncestor, IsBase, IsCommon, IsGraph, Reaches, base, comes_first, commit_of, generation, id_order, parents}
use Rattle.lake_values.specs.Ancestry.{parents_in}
use Rattle.lake_values.specs.Commit.{CommitRecordValue}
use Rattle.lake_values.proofs.AncestryOrderLemmas.{base_is, base_none, base_some, no_base}
use Rattle.lake_model.specs.declared.history.HistoryEntry.{HistoryEntry}
use Rattle.lake_model.specs.State.{HasCommit, HasRepository, Repository, State, map_of}
use Rattle.lake_model.specs.History.{IsLegal, replay}
use Rattle.lake_model.specs.Soundness.{IsSound}
use Rattle.lake_laws.proofs.HistoryLemmas.{kept-replay}
use Rattle.lake_laws.proofs.IdentityLemmas.{HasMapped, mapped-after}
use Rattle.lake_laws.proofs.SoundnessLemmas.{IsSound-replay}

-- ---- two graphs, of which the new one has each commit of the old one

module _ (old new : Graph) (graph : IsGraph old) (grown : IsGraph new)
    (keeps : (id : Digest) (c : CommitRecordValue) → commit_of old id ≡ Some c → commit_of new id ≡ Some c) where
  same_commit : (id : Digest) → IsSome (commit_of old id) → commit_of new id ≡ commit_of old id
  same_commit id = by (commit_of old id) refl
    where
      by : (o : Option CommitRecordValue) → commit_of old id ≡ o → IsSome (commit_of old id) → commit_of new id ≡ commit_of old id
      by (Some c) is there = keeps id c is ∙ sym is
      by None is there = let none = ap is_some is in absurd cc

  same_parents : (id : Digest) → IsSome (commit_of old id) → parents new id ≡ parents old id
  unfolding parents
  same_parents id there = ap parents_in (same_commit id there)

  same_generation : (id : Digest) → IsSome (commit_of old id) → generation new id ≡ generation old id
  unfolding generation
  same_generation id there = ap (λ o. unwrap_or (option_map (λ (x : CommitRecordValue). x.generation) o) 0) (same_commit id there)

  -- the ways back are the same
  reaches_in_new : (n : ℕ) (id other : Digest) → IsSome (commit_of old id) → Reaches old n id other → Reaches new n id other
  unfolding Reaches
  reaches_in_new zero id other there way = way
  reaches_in_new (suc n) id other there (parent, has, way) = (
    parent,
    subst (λ ids. Contains ids parent) (sym (same_parents id there)) has,
    reaches_in_new n parent other ((graph id there).whole parent has) way,
  )

  reaches_in_old : (n : ℕ) (id other : Digest) → IsSome (commit_of old id) → Reaches new n id other → Reaches old n id other × IsSome (commit_of old other)
  unfolding Reaches
  reaches_in_old zero id other there way = (way, subst (λ d. IsSome (commit_of old d)) way there)
  reaches_in_old (suc n) id other there (parent, has, way) =
      let had = subst (λ ids. Contains ids parent) (same_parents id there) has in
      let later = reaches_in_old n parent other ((graph id there).whole parent had) way in
      ((parent, had, later.0), later.1)

  ancestor_in_new : (other id : Digest) → IsSome (commit_of old id) → IsAncestor old other id → IsAncestor new other id
  ancestor_in_new other id there is =
      (subst IsSome (sym (same_commit other is.0)) is.0, (is.1.0, reaches_in_new is.1.0 id other there is.1.1))

  ancestor_in_old : (other id : Digest) → IsSome (commit_of old id) → IsAncestor new other id → IsAncestor old other id
  ancestor_in_old other id there is =
      let way = reaches_in_old is.1.0 id other there is.1.1 in
      (way.1, (is.1.0, way.0))

  same_order : (id other : Digest) → IsSome (commit_of old id) → IsSome (commit_of old other) → comes_first new id other ≡ comes_first old id other
  same_order id other there also =
      λ i. is_lt (ordering_then (nat_cmp (same_generation other also i) (same_generation id there i)) (id_order id other))

  module _ (a b : Digest) (at : IsSome (commit_of old a)) (also : IsSome (commit_of old b)) where
    common_in_old : (other : Digest) → IsCommon new a b other → IsCommon old a b other
    common_in_old other both = (ancestor_in_old other a at both.0, ancestor_in_old other b also both.1)

    base_in_new : (c : Digest) → IsBase old a b c → IsBase new a b c
    base_in_new c is = record {
      common = (ancestor_in_new c a at is.common.0, ancestor_in_new c b also is.common.1);
      first = λ other both.
          let old_both = common_in_old other both in
          same_order other c old_both.0.0 is.common.0.0 ∙ is.first other old_both;
    }

    -- the base of two commits of the old one
    pub same_base : base new a b ≡ base old a b
    same_base = by (base old a b) refl
      where
        by : (o : Option Digest) → base old a b ≡ o → base new a b ≡ base old a b
        by (Some c) is = base_some new grown a b c (base_in_new c (base_is old graph a b c is)) ∙ sym is
        by None is = no_base new grown a b (λ other both. base_none old graph a b is other (common_in_old other both)) ∙ sym is

-- ---- after a legal history

module _ (state : State) (entries : List HistoryEntry) (repo : List ℕ) (r : Repository) (sound : IsSound state) (legal : IsLegal state entries)
    (is : get state.repositories repo ≡ Some r) where
  -- a commit that is there stays
  pub stays : (id : Digest) (c : CommitRecordValue) → commit_of r.commits id ≡ Some c → HasRepository (replay state entries) repo (HasMapped id c (map_of r id))
  stays id c has =
      kept-replay (λ s. HasRepository s repo (HasMapped id c (map_of r id))) entries state
      (λ s entry. mapped-after id c (map_of r id) s entry repo) legal (r, is, (has, refl))

  -- so the repository stays, with each of its commits
  pub keeps_commits : (s : Repository) → get (replay state entries).repositories repo ≡ Some s
      → (id : Digest) (c : CommitRecordValue) → commit_of r.commits id ≡ Some c → (commit_of s.commits id ≡ Some c) × (map_of s id ≡ map_of r id)
  keeps_commits s after id c has =
      let found = stays id c has in
      let one : found.0 ≡ s = cc (found.1) in
      subst (HasMapped id c (map_of r id)) one found.2

  pub bases_in : (a b : Digest) → HasCommit r a → HasCommit r b → (s : Repository) → get (replay state entries).repositories repo ≡ Some s
      → base s.commits a b ≡ base r.commits a b
  bases_in a b at also s after =
      let later = IsSound-replay state entries sound legal in
      same_base r.commits s.commits (sound.repositories repo r is).graph (later.repositories repo s after).graph
      (λ id c has. (keeps_commits s after id c has).0) a b at also

  -- the merge base of two commits stays
  pub bases_stay : (a b : Digest) → HasCommit r a → HasCommit r b → HasRepository (replay state entries) repo (λ s. base s.commits a b ≡ base r.commits a b)
  bases_stay a b at = by (commit_of r.commits a) refl
    where
      by : (o : Option CommitRecordValue) → commit_of r.commits a ≡ o → HasCommit r b
          → HasRepository (replay state entries) repo (λ s. base s.commits a b ≡ base r.commits a b)
      by (Some c) has also = let found = stays a c has in (found.0, found.1, bases_in a b at also found.0 found.1)
      by None has also = let none = ap is_some has in absurd cc
