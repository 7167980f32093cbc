-- Sound repositories: with other branches, tags or settings, with one more commit, and with one more that is expired.
use Rattle.std.proofs.Common.{◌≡◌, ℕ, true, false, List, [], ◌∷◌, refl, sym, ap, subst, ◌∙◌, ◌⊎◌, inl, inr, arith}
use Rattle.std.specs.Prelude.{Option, Some, None, IsSome, is_some}
use Rattle.std.specs.Option.{option_map, unwrap_or}
use Rattle.std.specs.List.{Contains}
use Rattle.std.specs.FinMap.{get, insert, empty}
use Rattle.lake_base.specs.Maps.{ByteMap}
use Rattle.lake_base.specs.Names.{is_like_id}
use Rattle.lake_base.specs.declared.digest.Digest.{Digest}
use Rattle.lake_values.specs.Ancestry.{Graph, IsGraph, IsDue, commit_of, parents, generation, due_generation}
use Rattle.lake_values.specs.Commit.{CommitRecordValue}
use Rattle.lake_values.specs.KeyMap.{KeyMapValue}
use Rattle.lake_values.proofs.OrderLemmas.{Contains-first, Contains-later}
use Rattle.lake_values.proofs.AncestryLemmas.{one_id, parents_some, generation_some}
use Rattle.commit_graph.proofs.GraphLemmas.{same_again}
use Rattle.lake_format.specs.Cutting.{tree_id}
use Rattle.lake_format.specs.Spelling.{commit_id}
use Rattle.lake_format.specs.declared.cut.Cut.{Cut}
use Rattle.lake_model.specs.State.{Branch, Notes, Repository, HasCommit, HasLiveCommit, map_of, is_expired}
use Rattle.lake_model.specs.Commits.{with_commit}
use Rattle.lake_model.specs.Removal.{with_expired}
use Rattle.lake_model.specs.Soundness.{IsSoundRepository}
use Rattle.lake_laws.proofs.LookupLemmas.{of_some, some_is, one_value, insert_here, insert_either, insert_other, insert_keeps, both_inserted, same_or_other}

-- ---- other names

-- a branch that a sound repository may have
pub record IsSoundBranch (r : Repository) (name : List ℕ) (b : Branch) : Type 0 where
  pub plain : is_like_id name ≡ false
  pub live : HasLiveCommit r b.head

-- a tag that it may have
pub record IsSoundTag (r : Repository) (name : List ℕ) (id : Digest) : Type 0 where
  pub plain : is_like_id name ≡ false
  pub live : HasLiveCommit r id

module _ (cut : Cut) (r : Repository) (sound : IsSoundRepository cut r) where
  -- its branches are sound
  pub branch_sound : (name : List ℕ) (b : Branch) → get r.branches name ≡ Some b → IsSoundBranch r name b
  branch_sound name b is = record { plain = sound.plain_branches name (some_is (get r.branches name) b is); live = sound.heads name b is }

  -- and its tags
  pub tag_sound : (name : List ℕ) (id : Digest) → get r.tags name ≡ Some id → IsSoundTag r name id
  tag_sound name id is = record { plain = sound.plain_tags name (some_is (get r.tags name) id is); live = sound.tagged name id is }

  -- with other branches, each sound, the default one among them
  pub sound_branches : (branches : ByteMap Branch) → IsSome (get branches r.default_branch)
      → ((name : List ℕ) (b : Branch) → get branches name ≡ Some b → IsSoundBranch r name b) → IsSoundRepository cut (record r { branches = branches })
  sound_branches branches default each = record {
    default = default;
    plain_branches = λ name there. let b = of_some (get branches name) there in (each name b.0 b.1).plain;
    plain_tags = sound.plain_tags;
    heads = λ name b is. (each name b is).live;
    tagged = sound.tagged;
    graph = sound.graph;
    ids = sound.ids;
    trees = sound.trees;
    mapped = sound.mapped;
    maps = sound.maps;
    expired = sound.expired;
  }

  -- with other tags, each sound
  pub sound_tags : (tags : ByteMap Digest) → ((name : List ℕ) (id : Digest) → get tags name ≡ Some id → IsSoundTag r name id)
      → IsSoundRepository cut (record r { tags = tags })
  sound_tags tags each = record {
    default = sound.default;
    plain_branches = sound.plain_branches;
    plain_tags = λ name there. let id = of_some (get tags name) there in (each name id.0 id.1).plain;
    heads = sound.heads;
    tagged = λ name id is. (each name id is).live;
    graph = sound.graph;
    ids = sound.ids;
    trees = sound.trees;
    mapped = sound.mapped;
    maps = sound.maps;
    expired = sound.expired;
  }

  -- with other settings
  pub sound_notes : (notes : Notes) → IsSoundRepository cut (record r { notes = notes })
  sound_notes notes = record {
    default = sound.default;
    plain_branches = sound.plain_branches;
    plain_tags = sound.plain_tags;
    heads = sound.heads;
    tagged = sound.tagged;
    graph = sound.graph;
    ids = sound.ids;
    trees = sound.trees;
    mapped = sound.mapped;
    maps = sound.maps;
    expired = sound.expired;
  }

  -- another commit is live still
  still_live : (id other : Digest) → (other ≡ id → ⊥) → HasLiveCommit r other → HasLiveCommit (with_expired id r) other
  still_live id other apart live = (live.0, ap is_some (insert_other r.expired id.0 tt other.0 (λ same. apart (one_id other id same))) ∙ live.1)

  -- with one more commit that is expired, which is no head, and no tag names it
  pub sound_expired : (id : Digest) → HasCommit r id → ((name : List ℕ) (b : Branch) → get r.branches name ≡ Some b → b.head ≡ id → ⊥)
      → ((name : List ℕ) (other : Digest) → get r.tags name ≡ Some other → other ≡ id → ⊥) → IsSoundRepository cut (with_expired id r)
  sound_expired id there no_head no_tag = record {
    default = sound.default;
    plain_branches = sound.plain_branches;
    plain_tags = sound.plain_tags;
    heads = λ name b is. still_live id b.head (no_head name b is) (sound.heads name b is);
    tagged = λ name other is. still_live id other (no_tag name other is) (sound.tagged name other is);
    graph = sound.graph;
    ids = sound.ids;
    trees = sound.trees;
    mapped = sound.mapped;
    maps = sound.maps;
    expired = λ other gone. elim (insert_either r.expired id.0 tt other.0) [
      | inl put ↦ subst (HasCommit r) (sym (one_id other id put.0)) there
      | inr stood ↦ sound.expired other (ap is_some (sym stood) ∙ gone)
    ];
  }

-- ---- one more commit

-- the commits of a repository are sound
pub record HasSoundCommits (cut : Cut) (r : Repository) : Type 0 where
  pub graph : IsGraph r.commits
  pub ids : (id : Digest) (commit : CommitRecordValue) → commit_of r.commits id ≡ Some commit → id ≡ commit_id commit
  pub trees : (id : Digest) (commit : CommitRecordValue) → commit_of r.commits id ≡ Some commit → commit.meta_range ≡ tree_id cut (map_of r id)
  pub mapped : (id : Digest) → HasCommit r id → IsSome (get r.maps id.0)
  pub maps : (id : Digest) → IsSome (get r.maps id.0) → HasCommit r id
  pub expired : (id : Digest) → is_expired r id ≡ true → HasCommit r id

-- so are those of a sound repository
commits_of : (cut : Cut) (r : Repository) → IsSoundRepository cut r → HasSoundCommits cut r
commits_of cut r sound = record {
  graph = sound.graph;
  ids = sound.ids;
  trees = sound.trees;
  mapped = sound.mapped;
  maps = sound.maps;
  expired = sound.expired;
}

-- each of these commits is there
abbrev pub AreThere : Graph → List Digest → Type 0
AreThere graph ids = (id : Digest) → Contains ids id → IsSome (commit_of graph id)

-- a commit may be added: its parents are there, its generation is due, and what has its id is the same
pub record IsAddable (graph : Graph) (id : Digest) (commit : CommitRecordValue) : Type 0 where
  pub whole : AreThere graph commit.parents
  pub counted : commit.generation ≡ due_generation graph commit.parents
  pub same : (old : CommitRecordValue) → commit_of graph id ≡ Some old → old ≡ commit

module _ (graph : Graph) (id : Digest) (commit : CommitRecordValue) (absent : commit_of graph id ≡ None) where
  abbrev more : Graph
  more = insert graph id.0 commit

  -- a commit that was there stays as it was
  stays : (q : Digest) → IsSome (commit_of graph q) → commit_of more q ≡ commit_of graph q
  stays q there = insert_other graph id.0 commit q.0 (λ same. cc (ap is_some (ap (get graph) same ∙ absent)))

  -- so the generation due after commits that were there stays
  due_stays : (ids : List Digest) → AreThere graph ids → due_generation more ids ≡ due_generation graph ids
  unfolding generation
  due_stays [] there = refl
  due_stays (q ∷ ids) there =
      let same : generation more q ≡ generation graph q =
      ap (λ o. unwrap_or (option_map (λ (x : CommitRecordValue). x.generation) o) 0) (stays q (there q (Contains-first q ids))) in
      omega (arith, same, due_stays ids (λ p within. there p (Contains-later q p ids within)))

  -- a commit whose parents were there, and whose generation was due, is so still
  due_of : (q : Digest) (d : CommitRecordValue) → commit_of more q ≡ Some d → AreThere graph d.parents → d.generation ≡ due_generation graph d.parents
      → IsDue more q
  due_of q d is there due =
      let same : d.parents ≡ parents more q = parents_some more q d (sym is) in
      record {
        whole = λ parent within. insert_keeps graph id.0 commit parent.0 (there parent (subst (λ l. Contains l parent) (sym same) within));
        counted = sym (generation_some more q d (sym is)) ∙ due ∙ sym (due_stays d.parents there) ∙ ap (due_generation more) same;
      }

  -- a commit of the graph is so in the new one
  old_due : (q : Digest) (d : CommitRecordValue) → commit_of graph q ≡ Some d → IsDue graph q → commit_of more q ≡ Some d → IsDue more q
  old_due q d was due is =
      let same : d.parents ≡ parents graph q = parents_some graph q d (sym was) in
      due_of q d is (λ p within. due.whole p (subst (λ l. Contains l p) same within))
      (generation_some graph q d (sym was) ∙ due.counted ∙ ap (due_generation graph) (sym same))

  -- the new graph is one, where the new commit may be added
  graph_new : IsGraph graph → IsAddable graph id commit → IsGraph more
  graph_new sound may q some = elim (insert_either graph id.0 commit q.0) [
    | inl put ↦ due_of q commit put.1 may.whole may.counted
    | inr stood ↦
        let there = ap is_some (sym stood) ∙ some in
        let d = of_some (commit_of graph q) there in
        old_due q d.0 d.1 (sound q there) (stood ∙ d.1)
  ]

-- a graph with a commit that may be added is a graph
graph_more : (graph : Graph) (id : Digest) (commit : CommitRecordValue) → IsGraph graph → IsAddable graph id commit → IsGraph (insert graph id.0 commit)
graph_more graph id commit sound may = by (commit_of graph id) refl
  where
    by : (o : Option CommitRecordValue) → commit_of graph id ≡ o → IsGraph (insert graph id.0 commit)
    by None absent = graph_new graph id commit absent sound may
    by (Some old) is = subst IsGraph (sym (same_again graph id commit (is ∙ ap (λ (c : CommitRecordValue). Some c) (may.same old is)))) sound

module _ (cut : Cut) (r : Repository) (id : Digest) (commit : CommitRecordValue) (map : KeyMapValue) where
  abbrev with : Repository
  with = with_commit id commit map r

  -- a commit of the repository is the new one with its map, or was there with its own
  pub new_or_old : (q : Digest) (c : CommitRecordValue) → commit_of with.commits q ≡ Some c
      → ((q ≡ id) × (c ≡ commit) × (map_of with q ≡ map)) ⊎ ((commit_of r.commits q ≡ Some c) × (map_of with q ≡ map_of r q))
  new_or_old q c is = elim (same_or_other q.0 id.0) [
    | inl same ↦
        let put = ap (get with.commits) same ∙ insert_here r.commits id.0 commit in
        let placed = ap (get with.maps) same ∙ insert_here r.maps id.0 map in
        inl (one_id q id same, one_value (commit_of with.commits q) c commit is put, ap (λ o. unwrap_or o empty) placed)
    | inr other ↦ inr (sym (insert_other r.commits id.0 commit q.0 other) ∙ is, ap (λ o. unwrap_or o empty) (insert_other r.maps id.0 map q.0 other))
  ]

  -- commits with one that may be added, with its map, are sound
  pub sound_commits : HasSoundCommits cut r → IsAddable r.commits id commit → id ≡ commit_id commit → commit.meta_range ≡ tree_id cut map
      → HasSoundCommits cut with
  sound_commits sound may name tree = record {
    graph = graph_more r.commits id commit sound.graph may;
    ids = λ q c is. elim (new_or_old q c is) [
      | inl new ↦ new.0 ∙ name ∙ ap commit_id (sym new.1)
      | inr old ↦ sound.ids q c old.0
    ];
    trees = λ q c is. elim (new_or_old q c is) [
      | inl new ↦ ap (λ (x : CommitRecordValue). x.meta_range) new.1 ∙ tree ∙ ap (tree_id cut) (sym new.2)
      | inr old ↦ sound.trees q c old.0 ∙ ap (tree_id cut) (sym old.1)
    ];
    mapped = λ q. both_inserted r.commits r.maps id.0 commit map q.0 (sound.mapped q);
    maps = λ q. both_inserted r.maps r.commits id.0 map commit q.0 (sound.maps q);
    expired = λ q gone. insert_keeps r.commits id.0 commit q.0 (sound.expired q gone);
  }

  -- what was live is live
  pub live_still : (q : Digest) → HasLiveCommit r q → HasLiveCommit with q
  live_still q live = (insert_keeps r.commits id.0 commit q.0 live.0, live.1)

  -- the new commit is live, where its id isn't expired
  pub live_new : is_expired r id ≡ false → HasLiveCommit with id
  live_new live = (ap is_some (insert_here r.commits id.0 commit), live)

  -- a sound repository with a commit that may be added is sound
  pub sound_with_commit : IsSoundRepository cut r → IsAddable r.commits id commit → id ≡ commit_id commit → commit.meta_range ≡ tree_id cut map
      → IsSoundRepository cut with
  sound_with_commit sound may name tree =
      let commits = sound_commits (commits_of cut r sound) may name tree in
      record {
        default = sound.default;
        plain_branches = sound.plain_branches;
        plain_tags = sound.plain_tags;
        heads = λ name b is. live_still b.head (sound.heads name b is);
        tagged = λ name q is. live_still q (sound.tagged name q is);
        graph = commits.graph;
        ids = commits.ids;
        trees = commits.trees;
        mapped = commits.mapped;
        maps = commits.maps;
        expired = commits.expired;
      }
