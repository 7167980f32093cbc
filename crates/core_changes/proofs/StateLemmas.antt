-- What a change of a lake makes of the state that it stands for.
use Rattle.std.proofs.Common.{◌≡◌, ◌+◌, ℕ, Bool, true, false, cond, List, ◌∷◌, refl, sym, ap, ◌∙◌, arith, inl, inr}
use Rattle.std.proofs.lemmas.Bool.{cases_Bool}
use Rattle.std.specs.Prelude.{Option, Some, None, option_map}
use Rattle.std.specs.Option.{option_map_or}
use Rattle.std.specs.FinMap.{contains_key, empty, get, insert, remove}
use Rattle.lake_base.specs.Maps.{ByteMap}
use Rattle.lake_base.specs.declared.digest.Digest.{Digest}
use Rattle.lake_values.specs.KeyMap.{over}
use Rattle.lake_values.specs.declared.commit.ResetWhat.{ResetWhat}
use Rattle.lake_values.specs.declared.entry.Change.{Change}
use Rattle.byte_map.specs.Values.{map_values}
use Rattle.byte_map.proofs.ValuesLemmas.{get_map_values, map_values_insert, map_values_remove}
use Rattle.branch_record.specs.Overlay.{layers_of}
use Rattle.branch_record.specs.Record.{AreDistinct, BranchRecordValue}
use Rattle.branch_record.specs.Tokens.{changes_under}
use Rattle.branch_record.proofs.TokensLemmas.{under_empty, under_none}
use Rattle.branch_record.proofs.LayersLemmas.{layers_kept, layers_next, layers_none, none_over, staged_changed}
use Rattle.branch_record.proofs.ResetLemmas.{sealed_left, staged_left}
use Rattle.lake_model.specs.State.{Branch, Repository, State}
use Rattle.lake_model.specs.Branches.{clean_branch}
use Rattle.lake_model.specs.Parts as state
use Rattle.lake_model.specs.Parts.{changed_at}
use Rattle.lake_model.specs.Uncommitted.{reset_branch, sealed_branch, with_staged, without_ticket as without_number}
use Rattle.core_state.specs.BranchStates.{BranchStateValue, branch_of, new_branch, tokens_of}
use Rattle.core_state.specs.RepositoryStates.{RepositoryStateValue, repository_of}
use Rattle.core_state.specs.LakeStates.{LakeStateValue, state_of}
use Rattle.core_changes.specs.declared.branch.BranchChange.TheVariants.{Stage, Reset, Seal}
use Rattle.core_changes.specs.BranchChanges.{branch_after}
use Rattle.core_changes.specs.FreshTokens.{AreTokensBelow, HasTokensBelow}
use Rattle.core_changes.specs.LakeChanges.{in_branch, in_repository, with_entry, without_ticket}

-- ---- a map of what f makes of values, of which one was changed
module _ {X Y : Type 0} (f : X → Y) (map : ByteMap X) (name : List ℕ) (change : X → X) (other : Y → Y) where
  changed_by : (o : Option X) → ((x : X) → o ≡ Some x → f (change x) ≡ other (f x))
      → map_values f (option_map_or (λ x. insert map name (change x)) o map)
      ≡ option_map_or (λ y. insert (map_values f map) name (other y)) (option_map f o) (map_values f map)
  changed_by None alike = refl
  changed_by (Some x) alike = map_values_insert f map name (change x) ∙ ap (insert (map_values f map) name) (alike x refl)

  -- where the change of what stands there is seen as another change, the map is changed by that one
  map_changed : ((x : X) → get map name ≡ Some x → f (change x) ≡ other (f x))
      → map_values f (changed_at name change map) ≡ changed_at name other (map_values f map)
  map_changed alike =
      changed_by (get map name) alike
      ∙ ap (λ o. option_map_or (λ y. insert (map_values f map) name (other y)) o (map_values f map)) (sym (get_map_values f map name))

-- a repository is changed
pub repository_seen : (l : LakeStateValue) (repo : List ℕ) (change : RepositoryStateValue → RepositoryStateValue) (other : Repository → Repository)
    → ((r : RepositoryStateValue) → get l.repositories repo ≡ Some r → repository_of (change r) ≡ other (repository_of r))
    → state_of (in_repository repo change l) ≡ state.in_repository repo other (state_of l)
repository_seen l repo change other alike =
    ap (λ repositories. record (state_of l) { repositories = repositories }) (map_changed repository_of l.repositories repo change other alike)

-- a branch is changed
branch_seen : (l : LakeStateValue) (repo name : List ℕ) (change : BranchStateValue → BranchStateValue) (other : Branch → Branch)
    → ((r : RepositoryStateValue) (b : BranchStateValue) → get l.repositories repo ≡ Some r → get r.branches name ≡ Some b
    → branch_of (change b) ≡ other (branch_of b))
    → state_of (in_branch repo name change l) ≡ state.in_branch repo name other (state_of l)
branch_seen l repo name change other alike =
    repository_seen l repo (λ r. record r { branches = changed_at name change r.branches }) (λ r. record r { branches = changed_at name other r.branches })
    (λ r is. ap (λ branches. record (repository_of r) { branches = branches }) (map_changed branch_of r.branches name change other (λ b. alike r b is)))

-- the history has one entry more
abbrev pub with_one_more : State → State
with_one_more s = record s { entries = s.entries + 1 }

-- ---- a branch
module _ (b : BranchStateValue) where
  -- its record, in which there is no room for more
  abbrev record_of : BranchRecordValue
  record_of = record { version = b.version; head = b.head; staging = b.staging; sealed = b.sealed; spare = 0 }

  -- a change is staged
  staged_seen : (path : List ℕ) (change : Change) → AreDistinct (tokens_of b)
      → branch_of (branch_after (Stage path change) b) ≡ with_staged path change (branch_of b)
  staged_seen path change distinct = λ i. record {
    head = b.head;
    sealed = layers_kept b.tokens b.staging path change b.sealed distinct i;
    staged = staged_changed b.tokens b.staging path change i;
  }

  -- changes are dropped
  reset_seen : (what : ResetWhat) (version : ℕ) → branch_of (branch_after (Reset what version) b) ≡ reset_branch what (branch_of b)
  reset_seen what version = λ i. record {
    head = b.head;
    sealed = sealed_left record_of b.tokens what i;
    staged = staged_left record_of b.tokens what i;
  }

  sealed_by : (fresh version : ℕ) (test : Bool) → contains_key b.tokens b.staging ≡ test → changes_under b.tokens fresh ≡ empty
      → branch_of (record (cond test (record b { staging = fresh; sealed = b.staging ∷ b.sealed }) b) { version = version }) ≡ sealed_branch (branch_of b)
  sealed_by fresh version true there none = λ i. record { head = b.head; sealed = layers_next b.tokens b.staging b.sealed i; staged = none i }
  sealed_by fresh version false there none =
      let nothing = under_none b.tokens b.staging there in
      let same = ap (λ c. over c (layers_of b.tokens b.sealed)) nothing ∙ none_over (layers_of b.tokens b.sealed) in
      λ i. record { head = b.head; sealed = sym same i; staged = nothing i }

  -- staged changes are sealed, where nothing stands under the fresh token
  sealed_seen : (fresh version : ℕ) → changes_under b.tokens fresh ≡ empty
      → branch_of (branch_after (Seal fresh version) b) ≡ sealed_branch (branch_of b)
  sealed_seen fresh version none = sealed_by fresh version (contains_key b.tokens b.staging) refl none

  -- nothing stands under the next token
  nothing_fresh : (next : ℕ) → HasTokensBelow next b → changes_under b.tokens next ≡ empty
  nothing_fresh next below = elim (cases_Bool (contains_key b.tokens next)) [
    | inl there ↦ absurd (let less = below.used next there in omega arith)
    | inr free ↦ under_none b.tokens next free
  ]

-- a new branch has no changes
pub new_seen : (version : ℕ) (commit : Digest) (token : ℕ) → branch_of (new_branch version commit token) ≡ clean_branch commit
new_seen version commit token = λ i. record { head = commit; sealed = layers_none empty i; staged = under_empty token i }

-- ---- what operations do to a lake

-- a branch is made
pub made_seen : (l : LakeStateValue) (repo name : List ℕ) (version : ℕ) (commit : Digest) (token : ℕ)
    → state_of (in_repository repo (λ r. record r { branches = insert r.branches name (new_branch version commit token) }) l)
    ≡ state.in_branches repo (λ branches. insert branches name (clean_branch commit)) (state_of l)
made_seen l repo name version commit token =
    repository_seen l repo _ _ (λ r is. ap (λ branches. record (repository_of r) { branches = branches })
    (map_values_insert branch_of r.branches name (new_branch version commit token)
    ∙ ap (insert (map_values branch_of r.branches) name) (new_seen version commit token)))

-- a branch goes
pub gone_seen : (l : LakeStateValue) (repo name : List ℕ)
    → state_of (in_repository repo (λ r. record r { branches = remove r.branches name }) l)
    ≡ state.in_branches repo (λ branches. remove branches name) (state_of l)
gone_seen l repo name =
    repository_seen l repo _ _ (λ r is. ap (λ branches. record (repository_of r) { branches = branches }) (map_values_remove branch_of r.branches name))

module _ (l : LakeStateValue) (repo name : List ℕ) where
  -- a change is staged
  pub stage_seen : (path : List ℕ) (change : Change) → AreTokensBelow l
      → state_of (in_branch repo name (branch_after (Stage path change)) l) ≡ state.in_branch repo name (with_staged path change) (state_of l)
  stage_seen path change below =
      branch_seen l repo name (branch_after (Stage path change)) (with_staged path change)
      (λ r b is there. staged_seen b path change (below repo r name b is there).distinct)

  -- changes are dropped
  pub dropped_seen : (what : ResetWhat) (version : ℕ)
      → state_of (in_branch repo name (branch_after (Reset what version)) l) ≡ state.in_branch repo name (reset_branch what) (state_of l)
  dropped_seen what version =
      branch_seen l repo name (branch_after (Reset what version)) (reset_branch what) (λ r b is there. reset_seen b what version)

  -- staged changes are sealed
  pub seal_seen : (version : ℕ) → AreTokensBelow l
      → state_of (in_branch repo name (branch_after (Seal l.next_token version)) l) ≡ state.in_branch repo name sealed_branch (state_of l)
  seal_seen version below =
      branch_seen l repo name (branch_after (Seal l.next_token version)) sealed_branch
      (λ r b is there. sealed_seen b l.next_token version (nothing_fresh b l.next_token (below repo r name b is there)))

-- a change is staged, and the ticket of its number goes: the history has one entry more
pub ticketed_seen : (l : LakeStateValue) (repo name path : List ℕ) (change : Change) (number : Option ℕ) → AreTokensBelow l
    → state_of (with_entry (in_branch repo name (branch_after (Stage path change)) (option_map_or (λ n. without_ticket n l) number l)))
    ≡ record (state.in_branch repo name (with_staged path change) (without_number number (state_of l))) { entries = l.entries + 1 }
ticketed_seen l repo name path change None below = ap with_one_more (stage_seen l repo name path change below)
ticketed_seen l repo name path change (Some number) below = ap with_one_more (stage_seen (without_ticket number l) repo name path change below)
