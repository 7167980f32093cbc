-- A sound repository whose branch gets a new commit, and a new repository.
use Rattle.std.proofs.Common.{◌≡◌, ℕ, false, List, [], ◌∷◌, refl, sym, ap, subst, ◌∙◌, inl, inr}
use Rattle.std.specs.Prelude.{Some, is_some}
use Rattle.std.specs.Option.{option_map_or}
use Rattle.std.specs.FinMap.{get, insert, empty, get-empty}
use Rattle.lake_base.specs.Maps.{ByteMap, byte_order}
use Rattle.lake_base.specs.Names.{is_like_id}
use Rattle.lake_base.specs.declared.digest.Digest.{Digest}
use Rattle.lake_values.specs.Commit.{CommitRecordValue}
use Rattle.lake_values.specs.KeyMap.{KeyMapValue}
use Rattle.lake_values.proofs.OrderLemmas.{Contains-nothing, first_or_later}
use Rattle.lake_format.specs.Cutting.{tree_id}
use Rattle.lake_format.specs.Spelling.{commit_id}
use Rattle.lake_format.specs.declared.cut.Cut.{Cut}
use Rattle.lake_model.specs.State.{Branch, Repository, State, HasCommit, HasLiveCommit, is_expired}
use Rattle.lake_model.specs.Parts.{changed_at}
use Rattle.lake_model.specs.Branches.{clean_branch}
use Rattle.lake_model.specs.Commits.{Draft, IsAdmissible, record_of, with_commit, with_head, with_draft, draft_on, bare_repository, first_draft, new_repository}
use Rattle.lake_model.specs.Soundness.{IsSoundRepository}
use Rattle.lake_laws.proofs.ChangeLemmas.{insert_cases, changed_cases, nothing_stands}
use Rattle.lake_laws.proofs.LookupLemmas.{of_some, some_is, insert_here, changed_keeps}
use Rattle.lake_laws.proofs.CommitLemmas.{HasSoundCommits, AreThere, IsAddable, IsSoundBranch, branch_sound, sound_branches, sound_commits, sound_with_commit}
use Rattle.lake_laws.proofs.CommitLemmas.{live_still, live_new}

-- ---- a new head

module _ (cut : Cut) (r : Repository) (id : Digest) (commit : CommitRecordValue) (map : KeyMapValue) (branch : List ℕ) (sound : IsSoundRepository cut r)
    (live : is_expired r id ≡ false) where
  abbrev with : Repository
  with = with_commit id commit map r

  -- each branch is as it was, but for the one with the new head
  branch_still : (name : List ℕ) (b : Branch) → get (changed_at branch (with_head id) r.branches) name ≡ Some b → IsSoundBranch with name b
  branch_still name b is = elim (changed_cases branch (with_head id) r.branches name b is) [
    | inl stood ↦ let old = branch_sound cut r sound name b stood in record { plain = old.plain; live = live_still cut r id commit map b.head old.live }
    | inr new ↦ record {
      plain = sound.plain_branches name (some_is (get r.branches name) new.0 (ap (get r.branches) new.2 ∙ new.1));
      live = subst (λ (x : Branch). HasLiveCommit with x.head) (sym new.3) (live_new cut r id commit map live);
    }
  ]

  -- so the repository with the new head is sound
  sound_head : IsAddable r.commits id commit → id ≡ commit_id commit → commit.meta_range ≡ tree_id cut map
      → IsSoundRepository cut (record with { branches = changed_at branch (with_head id) r.branches })
  sound_head may name tree =
      sound_branches cut with (sound_with_commit cut r id commit map sound may name tree) (changed_at branch (with_head id) r.branches)
      (changed_keeps r.branches branch (with_head id) r.default_branch sound.default) branch_still

-- an admissible draft, whose parents are commits of the repository, may become the head of a branch
pub sound_with_draft : (state : State) (r : Repository) (branch : List ℕ) (draft : Draft) → IsSoundRepository state.cut r → AreThere r.commits draft.parents
    → IsAdmissible state r draft
    → IsSoundRepository state.cut (with_draft state.cut branch draft r)
sound_with_draft state r branch draft sound whole admissible =
    let commit : CommitRecordValue = record_of state.cut r.commits draft in
    sound_head state.cut r (commit_id commit) commit draft.objects branch sound admissible.live
    (record { whole = whole; counted = refl; same = admissible.same_record }) refl refl

-- so may what is drafted of the repository and of the branch
pub sound_draft_on : (state : State) (branch : List ℕ) (draft : Repository → Branch → Draft) (r : Repository) (b : Branch) → get r.branches branch ≡ Some b
    → IsSoundRepository state.cut r
    → AreThere r.commits (draft r b).parents → IsAdmissible state r (draft r b) → IsSoundRepository state.cut (draft_on state.cut branch draft r)
sound_draft_on state branch draft r b is sound whole admissible =
    subst (λ o. IsSoundRepository state.cut (option_map_or (λ x. with_draft state.cut branch (draft r x) r) o r)) (sym is)
    (sound_with_draft state r branch (draft r b) sound whole admissible)

-- a head and another commit are there
pub both_there : (r : Repository) (id other : Digest) → HasCommit r id → HasCommit r other → AreThere r.commits (id ∷ other ∷ [])
both_there r id other there also q within = elim (first_or_later id q (other ∷ []) within) [
  | inl first ↦ subst (HasCommit r) first there
  | inr later ↦ elim (first_or_later other q [] later) [
    | inl second ↦ subst (HasCommit r) second also
    | inr nothing ↦ absurd (Contains-nothing q nothing)
  ]
]

-- a head alone is there
pub one_there : (r : Repository) (id : Digest) → HasCommit r id → AreThere r.commits (id ∷ [])
one_there r id there q within = elim (first_or_later id q [] within) [
  | inl first ↦ subst (HasCommit r) first there
  | inr nothing ↦ absurd (Contains-nothing q nothing)
]

-- ---- a new repository

-- nothing is there before the first commit
not_there : (X : Type 0) (name : List ℕ) → is_some (get (empty {X = X} {R = byte_order}) name) ≡ false
not_there X name = ap is_some (get-empty {X = X} byte_order name)

-- the commits of a repository before its first are sound
bare_commits : (cut : Cut) (date : ℕ) (branch : List ℕ) → HasSoundCommits cut (bare_repository date branch)
bare_commits cut date branch = record {
  graph = λ id some. let none = not_there CommitRecordValue id.0 in absurd cc;
  ids = λ id c is. absurd (nothing_stands id.0 c is);
  trees = λ id c is. absurd (nothing_stands id.0 c is);
  mapped = λ id some. let none = not_there CommitRecordValue id.0 in absurd cc;
  maps = λ id some. let none = not_there KeyMapValue id.0 in absurd cc;
  expired = λ id some. let none = not_there (Unit {0}) id.0 in absurd cc;
}

module _ (cut : Cut) (date : ℕ) (branch : List ℕ) (id : Digest) (commit : CommitRecordValue) (map : KeyMapValue) where
  abbrev first : Repository
  first = with_commit id commit map (bare_repository date branch)

  abbrev branches : ByteMap Branch
  branches = insert empty branch (clean_branch id)

  -- its branch is sound
  only_branch : is_like_id branch ≡ false → (name : List ℕ) (b : Branch) → get branches name ≡ Some b → IsSoundBranch first name b
  only_branch plain name b is = elim (insert_cases empty branch (clean_branch id) name b is) [
    | inl put ↦ record {
      plain = subst (λ n. is_like_id n ≡ false) (sym put.0) plain;
      live =
          subst (λ (x : Branch). HasLiveCommit first x.head) (sym put.1) (live_new cut (bare_repository date branch) id commit map (not_there (Unit {0}) id.0));
    }
    | inr stood ↦ absurd (nothing_stands name b stood)
  ]

  -- a repository of one branch at its first commit is sound
  sound_first : is_like_id branch ≡ false → IsAddable empty id commit → id ≡ commit_id commit → commit.meta_range ≡ tree_id cut map
      → IsSoundRepository cut (record first { branches = branches })
  sound_first plain may name tree =
      let commits = sound_commits cut (bare_repository date branch) id commit map (bare_commits cut date branch) may name tree in
      record {
        default = some_is (get branches branch) (clean_branch id) (insert_here empty branch (clean_branch id));
        plain_branches = λ name there. let b = of_some (get branches name) there in (only_branch plain name b.0 b.1).plain;
        plain_tags = λ name some. let none = not_there Digest name in absurd cc;
        heads = λ name b is. (only_branch plain name b is).live;
        tagged = λ name q is. absurd (nothing_stands name q is);
        graph = commits.graph;
        ids = commits.ids;
        trees = commits.trees;
        mapped = commits.mapped;
        maps = commits.maps;
        expired = commits.expired;
      }

-- a new repository is sound
pub sound_new : (cut : Cut) (date : ℕ) (branch : List ℕ) → is_like_id branch ≡ false → IsSoundRepository cut (new_repository cut date branch)
sound_new cut date branch plain =
    let commit : CommitRecordValue = record_of cut empty (first_draft date) in
    sound_first cut date branch (commit_id commit) commit empty plain
    (record { whole = λ q within. absurd (Contains-nothing q within); counted = refl; same = λ old is. absurd (nothing_stands (commit_id commit).0 old is) })
    refl refl
