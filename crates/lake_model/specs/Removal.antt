-- Commits that expire, and objects that are gone for good.
use Rattle.std.specs.Prelude.{◌≡◌, ◌↔◌, ℕ, List, [], ◌∷◌, map, Some}
use Rattle.std.specs.FinMap.{FinMap, entries, get, insert}
use Rattle.std.specs.List.{Contains}
use Rattle.std.specs.Ordering.{nat_cmp}
use Rattle.lake_base.specs.declared.digest.Digest.{Digest}
use Rattle.lake_values.specs.Retention.{IsKeptBy}
use Rattle.lake_model.specs.declared.history.RepositoryCommit.{RepositoryCommit}
use Rattle.lake_model.specs.State.{Repository, State, HasLiveCommit}
use Rattle.lake_model.specs.Parts.{in_repository}
use Rattle.lake_model.specs.Naming.{IsGarbage}

-- the heads of the branches, by name
abbrev pub heads_of : Repository → List (List ℕ × Digest)
heads_of r = map (λ b. (b.0, b.1.head)) (entries r.branches)

-- the commits that tags name
abbrev pub tagged_of : Repository → List Digest
tagged_of r = map (λ tag. tag.1) (entries r.tags)

-- the rules of retention keep a commit of the repository at this moment
abbrev pub IsKeptIn : Repository → ℕ → Digest → Type 0
IsKeptIn r now id = IsKeptBy r.commits (heads_of r) (tagged_of r) r.notes.retention now id

-- a commit that isn't expired, and that the rules don't keep
pub record IsExpirable (state : State) (now : ℕ) (one : RepositoryCommit) : Type 0 where
  pub repository : Repository
  pub stands : get state.repositories one.repo ≡ Some repository
  pub live : HasLiveCommit repository one.commit
  pub unkept : IsKeptIn repository now one.commit → ⊥

-- each stands once
abbrev pub AreDistinct : {X : Type 0} → List X → Type 0
AreDistinct [] = Unit {0}
AreDistinct (x ∷ xs) = (Contains xs x → ⊥) × AreDistinct xs

-- Commits expire: they are, each once, those that can.
pub record MayExpire (state : State) (now : ℕ) (commits : List RepositoryCommit) : Type 0 where
  pub distinct : AreDistinct commits
  pub all : (one : RepositoryCommit) → Contains commits one ↔ IsExpirable state now one

-- a commit is expired from then on
abbrev pub with_expired : Digest → Repository → Repository
with_expired id r = record r { expired = insert r.expired id.0 tt }

abbrev pub after_expire : List RepositoryCommit → State → State
after_expire [] state = state
after_expire (one ∷ commits) state = after_expire commits (in_repository one.repo (with_expired one.commit) state)

-- Numbers are condemned: each once, and each garbage.
pub record MayCondemn (state : State) (numbers : List ℕ) : Type 0 where
  pub distinct : AreDistinct numbers
  pub garbage : (number : ℕ) → Contains numbers number → IsGarbage state number

-- numbers join the gone ones
abbrev pub with_gone : List ℕ → FinMap nat_cmp (Unit {0}) → FinMap nat_cmp (Unit {0})
with_gone [] gone = gone
with_gone (number ∷ numbers) gone = with_gone numbers (insert gone number tt)

abbrev pub after_condemn : List ℕ → State → State
after_condemn numbers state = record state { gone = with_gone numbers state.gone }
