-- What expires is no head, and no tag names it: repositories stay sound.
use Rattle.std.proofs.Common.{◌≡◌, ℕ, List, [], ◌∷◌, refl, sym, ap, subst, ◌∙◌, inl, inr}
use Rattle.std.specs.Prelude.{Option, Some, None, IsSome}
use Rattle.std.specs.List.{Contains}
use Rattle.std.specs.FinMap.{get, entries}
use Rattle.lake_base.specs.declared.digest.Digest.{Digest}
use Rattle.lake_values.specs.Ancestry.{Graph, commit_of}
use Rattle.lake_values.specs.Retention.{IsHead, IsKeptBy}
use Rattle.lake_values.specs.Settings.{RulesValue}
use Rattle.lake_values.proofs.OrderLemmas.{Contains-first, Contains-later, Contains-map}
use Rattle.lake_model.specs.declared.history.RepositoryCommit.{RepositoryCommit}
use Rattle.lake_model.specs.State.{Branch, Repository, State, HasCommit}
use Rattle.lake_model.specs.Parts.{in_repository}
use Rattle.lake_model.specs.Removal.{IsKeptIn, IsExpirable, MayExpire, heads_of, tagged_of, with_expired, after_expire}
use Rattle.lake_model.specs.Soundness.{IsSoundRepository}
use Rattle.lake_laws.proofs.ChangeLemmas.{changed_cases}
use Rattle.lake_laws.proofs.LookupLemmas.{one_value, get_entries}
use Rattle.lake_laws.proofs.CommitLemmas.{sound_expired}

-- ---- what is kept

-- the rules keep each head
head_kept : (graph : Graph) (heads : List (List ℕ × Digest)) (tags : List Digest) (rules : Option RulesValue) (now : ℕ) (id : Digest) → IsHead heads id
    → IsKeptBy graph heads tags rules now id
head_kept graph heads tags None now id head = tt
head_kept graph heads tags (Some rules) now id head = inl head

-- and each tagged commit
tag_kept : (graph : Graph) (heads : List (List ℕ × Digest)) (tags : List Digest) (rules : Option RulesValue) (now : ℕ) (id : Digest) → Contains tags id
    → IsKeptBy graph heads tags rules now id
tag_kept graph heads tags None now id tagged = tt
tag_kept graph heads tags (Some rules) now id tagged = inr (inl tagged)

module _ (r : Repository) (now : ℕ) (id : Digest) (unkept : IsKeptIn r now id → ⊥) where
  -- what isn't kept is no head
  unkept_head : (name : List ℕ) (b : Branch) → get r.branches name ≡ Some b → b.head ≡ id → ⊥
  unkept_head name b is same =
      let within = Contains-map (λ (e : List ℕ × Branch). (e.0, e.1.head)) (entries r.branches) (name, b) (get_entries r.branches name b is) in
      unkept
      (head_kept r.commits (heads_of r) (tagged_of r) r.notes.retention now id (name, subst (λ (h : Digest). Contains (heads_of r) (name, h)) same within))

  -- and no tag names it
  unkept_tag : (name : List ℕ) (other : Digest) → get r.tags name ≡ Some other → other ≡ id → ⊥
  unkept_tag name other is same =
      let within = Contains-map (λ (e : List ℕ × Digest). e.1) (entries r.tags) (name, other) (get_entries r.tags name other is) in
      unkept (tag_kept r.commits (heads_of r) (tagged_of r) r.notes.retention now id (subst (Contains (tagged_of r)) same within))

-- ---- one after the other

-- a sound repository with the branches, tags and commits that it had in a lake
pub record IsSoundAsNamed (state : State) (name : List ℕ) (r : Repository) : Type 0 where
  pub sound : IsSoundRepository state.cut r
  pub old : Repository
  pub stands : get state.repositories name ≡ Some old
  pub branches : r.branches ≡ old.branches
  pub tags : r.tags ≡ old.tags
  pub commits : r.commits ≡ old.commits

-- each repository of a lake is so
abbrev pub AreSoundAsNamed : State → State → Type 0
AreSoundAsNamed state new = (name : List ℕ) (r : Repository) → get new.repositories name ≡ Some r → IsSoundAsNamed state name r

-- so is each after one commit expired that could
one_expired : (state new : State) (now : ℕ) (one : RepositoryCommit) → AreSoundAsNamed state new → IsExpirable state now one
    → AreSoundAsNamed state (in_repository one.repo (with_expired one.commit) new)
one_expired state new now one each may name r is = elim (changed_cases one.repo (with_expired one.commit) new.repositories name r is) [
  | inl stood ↦ each name r stood
  | inr changed ↦
      let was : IsSoundAsNamed state one.repo changed.0 = each one.repo changed.0 changed.1 in
      let same : may.repository ≡ was.old = one_value (get state.repositories one.repo) may.repository was.old may.stands was.stands in
      let unkept : IsKeptIn was.old now one.commit → ⊥ = subst (λ (x : Repository). IsKeptIn x now one.commit → ⊥) same may.unkept in
      let there : HasCommit was.old one.commit = subst (λ (x : Repository). HasCommit x one.commit) same may.live.0 in
      subst (IsSoundAsNamed state name) (sym changed.3) (record {
        sound = sound_expired state.cut changed.0 was.sound one.commit (subst (λ graph. IsSome (commit_of graph one.commit)) (sym was.commits) there)
            (λ branch b at. unkept_head was.old now one.commit unkept branch b (ap (λ map. get map branch) (sym was.branches) ∙ at))
            (λ tag other at. unkept_tag was.old now one.commit unkept tag other (ap (λ map. get map tag) (sym was.tags) ∙ at));
        old = was.old;
        stands = ap (get state.repositories) changed.2 ∙ was.stands;
        branches = was.branches;
        tags = was.tags;
        commits = was.commits;
      })
]

-- and after several
all_expired : (state new : State) (now : ℕ) (commits : List RepositoryCommit) → AreSoundAsNamed state new
    → ((one : RepositoryCommit) → Contains commits one → IsExpirable state now one)
    → AreSoundAsNamed state (after_expire commits new)
all_expired state new now [] each may = each
all_expired state new now (one ∷ commits) each may =
    all_expired state (in_repository one.repo (with_expired one.commit) new) now commits
    (one_expired state new now one each (may one (Contains-first one commits))) (λ other within. may other (Contains-later one other commits within))

-- each repository is sound after commits expired
pub sound_after_expire : (state : State) (now : ℕ) (commits : List RepositoryCommit)
    → ((name : List ℕ) (r : Repository) → get state.repositories name ≡ Some r → IsSoundRepository state.cut r)
    → MayExpire state now commits → (name : List ℕ) (r : Repository) → get (after_expire commits state).repositories name ≡ Some r
    → IsSoundRepository state.cut r
sound_after_expire state now commits sound may name r is =
    (all_expired state state now commits
    (λ name r is. record { sound = sound name r is; old = r; stands = is; branches = refl; tags = refl; commits = refl })
    (λ one within. (may.all one).0 within) name r is).sound
