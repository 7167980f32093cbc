-- The tokens of each branch stay below the next one, and differ.
use Rattle.std.proofs.Common.{◌≡◌, ◌<◌, ◌+◌, ◌||◌, ℕ, Bool, true, false, cond, List, [], ◌∷◌, refl, sym, ap, ◌∙◌, arith}
use Rattle.std.proofs.lemmas.Bool.{eqb-true}
use Rattle.std.specs.Prelude.{Option, Some, None, is_some}
use Rattle.std.specs.Option.{option_map_or}
use Rattle.std.specs.Bool.{nat_eq}
use Rattle.std.specs.Ordering.{nat_cmp}
use Rattle.std.specs.FinMap.{contains_key, get, insert, remove, get-empty}
use Rattle.lake_base.specs.Maps.{ByteMap}
use Rattle.lake_base.specs.declared.digest.Digest.{Digest}
use Rattle.lake_values.specs.KeyMap.{ChangesValue}
use Rattle.lake_values.specs.Reset.{changes_after_reset}
use Rattle.lake_values.specs.declared.commit.ResetWhat.{ResetWhat}
use Rattle.lake_values.specs.declared.entry.Change.{Change}
use Rattle.branch_record.specs.Record.{is_among}
use Rattle.branch_record.specs.Tokens.{TokenMap, with_change}
use Rattle.branch_record.proofs.TokensLemmas.{distinct_more, distinct_one, get_changed, get_with, turned}
use Rattle.lake_model.specs.Parts.{changed_at}
use Rattle.core_state.specs.BranchStates.{BranchStateValue, new_branch, tokens_of}
use Rattle.core_state.specs.RepositoryStates.{RepositoryStateValue}
use Rattle.core_state.specs.LakeStates.{LakeStateValue}
use Rattle.core_changes.specs.declared.branch.BranchChange.TheVariants.{Stage, Reset, Seal}
use Rattle.core_changes.specs.BranchChanges.{branch_after}
use Rattle.core_changes.specs.FreshTokens.{AreTokensBelow, HasTokensBelow}
use Rattle.core_changes.specs.LakeChanges.{in_branch, in_repository, with_entry, without_ticket}
use Rattle.core_changes.proofs.ChangedLemmas.{all_changed, all_inserted, all_left}

-- ---- a branch

-- what is below a token is below the one after it
pub below_later : (next : ℕ) (b : BranchStateValue) → HasTokensBelow next b → HasTokensBelow (next + 1) b
below_later next b below = record {
  distinct = below.distinct;
  named = λ token among. let less = below.named token among in omega arith;
  used = λ token there. let less = below.used token there in omega arith;
}

-- a token that is the first of these, or one of the others
first_or_more : (first token : ℕ) (others : List ℕ) (test : Bool) → nat_eq first token ≡ test → (test || is_among others token) ≡ true → (next : ℕ)
    → first < next → (is_among others token ≡ true → token < next) → token < next
first_or_more first token others true tie among next less more = let same = eqb-true first token tie in omega arith
first_or_more first token others false apart among next less more = more among

-- what stands in some tokens or is one of these
changed_under : (tokens : TokenMap) (test : Bool) (token : ℕ) (changes : Option ChangesValue) (next : ℕ) → (test ≡ true → token < next)
    → (contains_key tokens token ≡ true → token < next) → is_some (cond test changes (get tokens token)) ≡ true → token < next
changed_under tokens true token changes next here other there = here refl
changed_under tokens false token changes next here other there = other there

module _ (next : ℕ) (b : BranchStateValue) (below : HasTokensBelow next b) where
  -- a change is staged
  staged_below : (path : List ℕ) (change : Change) → HasTokensBelow next (branch_after (Stage path change) b)
  unfolding with_change
  staged_below path change = record {
    distinct = below.distinct;
    named = below.named;
    used = λ token there.
        changed_under b.tokens (nat_eq token b.staging) token _ next
        (λ same. below.named token (ap (λ t. t || is_among b.sealed token) (turned b.staging token ∙ same)))
        (below.used token) (ap is_some (sym (get_with b.tokens b.staging _ token)) ∙ there);
  }

  -- changes are dropped
  reset_below : (what : ResetWhat) (version : ℕ) → HasTokensBelow next (branch_after (Reset what version) b)
  reset_below what version = record {
    distinct = below.distinct;
    named = below.named;
    used = λ token there.
        changed_under b.tokens (is_among (tokens_of b) token) token _ next (below.named token) (below.used token)
        (ap is_some (sym (get_changed (changes_after_reset what) b.tokens (tokens_of b) token)) ∙ there);
  }

  -- the next token isn't named
  unnamed : (test : Bool) → is_among (tokens_of b) next ≡ test → test ≡ false
  unnamed true among = absurd (let less = below.named next among in omega arith)
  unnamed false among = refl

  sealed_by : (version : ℕ) (test : Bool)
      → HasTokensBelow (next + 1) (record (cond test (record b { staging = next; sealed = b.staging ∷ b.sealed }) b) { version = version })
  sealed_by version true = record {
    distinct = distinct_more next (tokens_of b) (unnamed (is_among (tokens_of b) next) refl) below.distinct;
    named = λ token among. first_or_more next token (tokens_of b) (nat_eq next token) refl among (next + 1) (omega arith)
        (λ more. (below_later next b below).named token more);
    used = (below_later next b below).used;
  }
  sealed_by version false = let later = below_later next b below in record { distinct = later.distinct; named = later.named; used = later.used }

  -- staged changes are sealed
  sealed_below : (version : ℕ) → HasTokensBelow (next + 1) (branch_after (Seal next version) b)
  sealed_below version = sealed_by version (contains_key b.tokens b.staging)

-- a branch is made, with the next token
pub new_below : (version : ℕ) (commit : Digest) (next : ℕ) → HasTokensBelow (next + 1) (new_branch version commit next)
new_below version commit next = record {
  distinct = distinct_one next [] refl;
  named = λ token among. first_or_more next token [] (nat_eq next token) refl among (next + 1) (omega arith) (λ more. absurd cc);
  used = λ token there. let none = get-empty {X = ChangesValue} nat_cmp token in absurd cc;
}

-- ---- a lake

-- those of each of these branches are below a token
abbrev AreBelow : ℕ → ByteMap BranchStateValue → Type 0
AreBelow next branches = (name : List ℕ) (b : BranchStateValue) → get branches name ≡ Some b → HasTokensBelow next b

-- those of each branch of a lake, with other repositories and another next token
abbrev AreBelowIn : ℕ → ByteMap RepositoryStateValue → Type 0
AreBelowIn next repositories = (repo : List ℕ) (r : RepositoryStateValue) (name : List ℕ) (b : BranchStateValue)
    → get repositories repo ≡ Some r → get r.branches name ≡ Some b → HasTokensBelow next b

module _ (l : LakeStateValue) (below : AreTokensBelow l) (next : ℕ) (later : (b : BranchStateValue) → HasTokensBelow l.next_token b → HasTokensBelow next b)
    (repo : List ℕ) where
  -- a repository is changed
  repository_below : (change : RepositoryStateValue → RepositoryStateValue)
      → ((r : RepositoryStateValue) → AreBelow l.next_token r.branches → AreBelow next (change r).branches)
      → AreBelowIn next (in_repository repo change l).repositories
  repository_below change changed = λ q r name b is there.
      all_changed (λ q r. AreBelow next r.branches) l.repositories repo change
      (λ q r tie stands. changed r (λ name b. below q r name b stands))
      (λ q r apart stands name b has. later b (below q r name b stands has))
      q r is name b there

  -- a branch is changed
  branch_below : (name : List ℕ) (change : BranchStateValue → BranchStateValue)
      → ((b : BranchStateValue) → HasTokensBelow l.next_token b → HasTokensBelow next (change b))
      → AreBelowIn next (in_branch repo name change l).repositories
  branch_below name change changed =
      repository_below (λ r. record r { branches = changed_at name change r.branches })
      (λ r each. all_changed (λ n b. HasTokensBelow next b) r.branches name change
      (λ n b tie is. changed b (each n b is)) (λ n b apart is. later b (each n b is)))

  -- a branch is made
  pub made_below : (name : List ℕ) (b : BranchStateValue) → HasTokensBelow next b
      → AreBelowIn next (in_repository repo (λ r. record r { branches = insert r.branches name b }) l).repositories
  made_below name b new =
      repository_below (λ r. record r { branches = insert r.branches name b })
      (λ r each. all_inserted (λ n b. HasTokensBelow next b) r.branches name b (λ n tie. new) (λ n x apart is. later x (each n x is)))

module _ (l : LakeStateValue) (below : AreTokensBelow l) (repo : List ℕ) where
  -- branches of a repository stay
  pub others_below : (change : RepositoryStateValue → RepositoryStateValue) → ((r : RepositoryStateValue) → (change r).branches ≡ r.branches)
      → AreBelowIn l.next_token (in_repository repo change l).repositories
  others_below change same =
      repository_below l below l.next_token (λ b h. h) repo change
      (λ r each name b is. each name b (ap (λ (branches : ByteMap BranchStateValue). get branches name) (sym (same r)) ∙ is))

  -- a branch goes
  pub gone_below : (name : List ℕ) → AreBelowIn l.next_token (in_repository repo (λ r. record r { branches = remove r.branches name }) l).repositories
  gone_below name =
      repository_below l below l.next_token (λ b h. h) repo (λ r. record r { branches = remove r.branches name })
      (λ r each. all_left (λ n b. HasTokensBelow l.next_token b) r.branches name each)

  -- a change is staged
  pub stage_below : (name path : List ℕ) (change : Change) → AreTokensBelow (in_branch repo name (branch_after (Stage path change)) l)
  stage_below name path change =
      branch_below l below l.next_token (λ b h. h) repo name (branch_after (Stage path change)) (λ b h. staged_below l.next_token b h path change)

  -- changes are dropped
  pub dropped_below : (name : List ℕ) (what : ResetWhat) (version : ℕ) → AreTokensBelow (in_branch repo name (branch_after (Reset what version)) l)
  dropped_below name what version =
      branch_below l below l.next_token (λ b h. h) repo name (branch_after (Reset what version)) (λ b h. reset_below l.next_token b h what version)

  -- staged changes are sealed
  pub seal_below : (name : List ℕ) (version : ℕ) → AreBelowIn (l.next_token + 1) (in_branch repo name (branch_after (Seal l.next_token version)) l).repositories
  seal_below name version =
      branch_below l below (l.next_token + 1) (below_later l.next_token) repo name (branch_after (Seal l.next_token version))
      (λ b h. sealed_below l.next_token b h version)

-- a change is staged, and the ticket of its number goes
pub ticketed_below : (l : LakeStateValue) (repo name path : List ℕ) (change : Change) (number : Option ℕ) → AreTokensBelow l
    → AreTokensBelow (with_entry (in_branch repo name (branch_after (Stage path change)) (option_map_or (λ n. without_ticket n l) number l)))
ticketed_below l repo name path change None below = stage_below l below repo name path change
ticketed_below l repo name path change (Some number) below = stage_below (without_ticket number l) below repo name path change
