-- What names a number in a lake, and what is named after a part of the lake was changed.
use Rattle.std.proofs.Common.{◌≡◌, ℕ, Bool, true, false, cond, not, ◌&&◌, List, refl, subst, ◌⊎◌, inl, inr}
use Rattle.std.specs.Prelude.{Option, Some, None, is_some, option_map, option_and_then}
use Rattle.std.specs.Option.{option_map_or}
use Rattle.std.specs.FinMap.{get}
use Rattle.lake_base.specs.declared.digest.Digest.{Digest}
use Rattle.lake_values.specs.Ancestry.{commit_of}
use Rattle.lake_values.specs.Entry.{EntryValue}
use Rattle.lake_values.specs.KeyMap.{KeyMapValue}
use Rattle.lake_values.specs.declared.entry.Change.{Change}
use Rattle.lake_model.specs.declared.history.CopySource.{CopySource}
use Rattle.lake_model.specs.declared.history.CopySource.TheVariants as source
use Rattle.lake_model.specs.State.{Branch, Repository, State, HasBranch, HasLiveCommit, HasRepository, head_map, is_expired, map_of, now_map, sealed_map}
use Rattle.lake_model.specs.Commits.{Draft, MergeSides, after_draft, draft_on, merged_into, with_draft}
use Rattle.lake_model.specs.Naming.{IsInMap, IsNamed}
use Rattle.lake_model.specs.Parts.{changed_at, in_branch, in_repository}
use Rattle.lake_model.specs.Uncommitted.{copied_map, own_number, put_number, with_staged}
use Rattle.lake_laws.proofs.ChangeLemmas.{changed_cases}
use Rattle.lake_laws.proofs.InMapLemmas.{in_applied, in_merged, put_inserted}
use Rattle.lake_laws.proofs.NamesLemmas.{Names, Puts, names_in_branch, names_with_draft}

-- the heads of a repository are there, and aren't expired
abbrev pub HasLiveHeads : Repository → Type 0
HasLiveHeads r = (branch : List ℕ) (b : Branch) → get r.branches branch ≡ Some b → HasLiveCommit r b.head

-- so are those of each repository of a lake
abbrev pub HasLiveHeadsEverywhere : State → Type 0
HasLiveHeadsEverywhere state = (name : List ℕ) (r : Repository) → get state.repositories name ≡ Some r → HasLiveHeads r

-- what holds of the repository of a name holds of each that stands there
pub in_same : (state : State) (repo : List ℕ) (P : Repository → Type 0) (r : Repository) → get state.repositories repo ≡ Some r
    → HasRepository state repo P → P r
in_same state repo P r there has = let same : has.0 ≡ r = cc (has.1, there) in subst P same has.2

module _ (state : State) (number : ℕ) where
  -- ---- what names a number

  pub named_by : (name : List ℕ) (r : Repository) → get state.repositories name ≡ Some r → Names r number → IsNamed state number
  named_by name r there names = inl (record { name = name; repository = r; stands = there; names = names })

  pub named_by_branch : (name : List ℕ) (r : Repository) → get state.repositories name ≡ Some r → (branch : List ℕ) (b : Branch)
      → get r.branches branch ≡ Some b → Puts b number → IsNamed state number
  named_by_branch name r there branch b at puts = named_by name r there (inr (record { name = branch; branch = b; stands = at; names = puts }))

  pub named_by_commit : (name : List ℕ) (r : Repository) → get state.repositories name ≡ Some r → (id : Digest) → HasLiveCommit r id
      → IsInMap (map_of r id) number → IsNamed state number
  named_by_commit name r there id live within = named_by name r there (inl (record { id = id; live = live; names = within }))

  module _ (heads : HasLiveHeadsEverywhere state) (name : List ℕ) (r : Repository) (there : get state.repositories name ≡ Some r) (branch : List ℕ) (b : Branch)
      (at : get r.branches branch ≡ Some b) where
    pub named_by_head : IsInMap (head_map r b) number → IsNamed state number
    named_by_head within = named_by_commit name r there b.head (heads name r there branch b at) within

    pub named_by_sealed_map : IsInMap (sealed_map r b) number → IsNamed state number
    named_by_sealed_map within =
        elim (in_applied number b.sealed (head_map r b) within) [
          | inl put ↦ named_by_branch name r there branch b at (inl put)
          | inr had ↦ named_by_head had
        ]

    pub named_by_now : IsInMap (now_map r b) number → IsNamed state number
    named_by_now within =
        elim (in_applied number b.staged (sealed_map r b) within) [
          | inl put ↦ named_by_branch name r there branch b at (inr put)
          | inr had ↦ named_by_sealed_map had
        ]

    -- what is merged into a branch comes of the source or of the head
    pub named_by_merge : (sides : MergeSides) (id : Digest) → HasLiveCommit r id → sides.source ≡ map_of r id → IsInMap (merged_into r b sides) number
        → IsNamed state number
    named_by_merge sides id live is within =
        elim (in_merged number sides.strategy sides.base sides.source (head_map r b) within) [
          | inl of_source ↦ named_by_commit name r there id live (subst (λ m. IsInMap m number) is of_source)
          | inr of_head ↦ named_by_head of_head
        ]

  -- ---- what is named after a part of the state was changed

  -- where a repository was changed: it was named, or the change of that repository names it
  pub named_in_repository : (repo : List ℕ) (change : Repository → Repository) → IsNamed (in_repository repo change state) number
      → IsNamed state number ⊎ HasRepository state repo (λ r. Names (change r) number)
  named_in_repository repo change (inr ticket) = inl (inr ticket)
  named_in_repository repo change (inl n) =
      elim (changed_cases repo change state.repositories n.name n.repository n.stands) [
        | inl stood ↦ inl (named_by n.name n.repository stood n.names)
        | inr was ↦ inr (was.0, was.1, subst (λ r. Names r number) was.3 n.names)
      ]

  -- where that change names no more, nothing else is named
  pub named_fewer : (repo : List ℕ) (change : Repository → Repository) → ((r : Repository) → Names (change r) number → Names r number)
      → IsNamed (in_repository repo change state) number → IsNamed state number
  named_fewer repo change fewer named =
      elim (named_in_repository repo change named) [
        | inl before ↦ before
        | inr now ↦ named_by repo now.0 now.1 (fewer now.0 now.2)
      ]

  -- where a branch was changed: it was named, or the change of that branch puts it
  pub named_in_branch : (repo branch : List ℕ) (change : Branch → Branch) → IsNamed (in_branch repo branch change state) number
      → IsNamed state number ⊎ HasBranch state repo branch (λ r b. Puts (change b) number)
  named_in_branch repo branch change named =
      elim (named_in_repository repo (λ r. record r { branches = changed_at branch change r.branches }) named) [
        | inl before ↦ inl before
        | inr now ↦ elim (names_in_branch now.0 number branch change now.2) [
          | inl names ↦ inl (named_by repo now.0 now.1 names)
          | inr put ↦ inr (now.0, now.1, put)
        ]
      ]

  -- where that change puts no more, nothing else is named
  pub named_branch_fewer : (repo branch : List ℕ) (change : Branch → Branch) → ((b : Branch) → Puts (change b) number → Puts b number)
      → IsNamed (in_branch repo branch change state) number → IsNamed state number
  named_branch_fewer repo branch change fewer named =
      elim (named_in_branch repo branch change named) [
        | inl before ↦ before
        | inr now ↦ named_by_branch repo now.0 now.1 branch now.2.0 now.2.1 (fewer now.2.0 now.2.2)
      ]

  -- where a change was staged: it was named, or the change puts it
  pub named_with_staged : (repo branch path : List ℕ) (change : Change) → IsNamed (in_branch repo branch (with_staged path change) state) number
      → IsNamed state number ⊎ (put_number change ≡ Some number)
  named_with_staged repo branch path change named =
      elim (named_in_branch repo branch (with_staged path change) named) [
        | inl before ↦ inl before
        | inr now ↦ elim now.2.2 [
          | inl sealed ↦ inl (named_by_branch repo now.0 now.1 branch now.2.0 now.2.1 (inl sealed))
          | inr staged ↦ elim (put_inserted number now.2.0.staged path change staged) [
            | inl new ↦ inr new
            | inr old ↦ inl (named_by_branch repo now.0 now.1 branch now.2.0 now.2.1 (inr old))
          ]
        ]
      ]

  -- where a draft became the head of a branch: it was named, or is in the draft's map
  pub named_with_draft : (repo branch : List ℕ) (draft : Repository → Branch → Draft) → IsNamed (after_draft repo branch draft state) number
      → IsNamed state number ⊎ HasBranch state repo branch (λ r b. IsInMap (draft r b).objects number)
  named_with_draft repo branch draft named =
      elim (named_in_repository repo (draft_on state.cut branch draft) named) [
        | inl before ↦ inl before
        | inr now ↦ by now.0 now.1 (get now.0.branches branch) refl now.2
      ]
    where
      by : (r : Repository) → get state.repositories repo ≡ Some r → (o : Option Branch) → get r.branches branch ≡ o
          → Names (option_map_or (λ b. with_draft state.cut branch (draft r b) r) o r) number
          → IsNamed state number ⊎ HasBranch state repo branch (λ r b. IsInMap (draft r b).objects number)
      by r there None at names = inl (named_by repo r there names)
      by r there (Some b) at names =
          elim (names_with_draft r number state.cut branch (draft r b) names) [
            | inl new ↦ inr (r, there, (b, at, new))
            | inr old ↦ inl (named_by repo r there old)
          ]

-- where an own object's entry is copied, the source names its number
module _ (state : State) (number : ℕ) (heads : HasLiveHeadsEverywhere state) (repo : List ℕ) (r : Repository)
    (there : get state.repositories repo ≡ Some r) where
  pub named_by_copied : (from : CopySource) (path : List ℕ) (entry : EntryValue)
      → option_and_then (λ (map : KeyMapValue). get map path) (copied_map r from) ≡ Some entry → own_number entry.place ≡ Some number → IsNamed state number
  named_by_copied (source.Branch branch) path entry copied own = by (get r.branches branch) refl copied
    where
      by : (o : Option Branch) → get r.branches branch ≡ o → option_and_then (λ (map : KeyMapValue). get map path) (option_map (now_map r) o) ≡ Some entry
          → IsNamed state number
      by None at is = absurd cc
      by (Some b) at is = named_by_now state number heads repo r there branch b at (record { path = path; entry = entry; stands = is; names = own })
  named_by_copied (source.Commit id) path entry copied own = by (is_some (commit_of r.commits id)) (is_expired r id) refl refl copied
    where
      by : (some expired : Bool) → is_some (commit_of r.commits id) ≡ some → is_expired r id ≡ expired
          → option_and_then (λ (map : KeyMapValue). get map path) (cond (some && not expired) (Some (map_of r id)) None) ≡ Some entry → IsNamed state number
      by true false some live is = named_by_commit state number repo r there id (some, live) (record { path = path; entry = entry; stands = is; names = own })
      by true true some expired is = absurd cc
      by false expired none either is = absurd cc
