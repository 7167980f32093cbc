-- After each change two branches name no token both.
use Rattle.std.proofs.Common.{◌≡◌, ◌⊎◌, ◌||◌, inl, inr, ℕ, Bool, true, false, cond, List, ◌∷◌, Option, Some, None, refl, sym, ap, ◌∙◌}
use Rattle.std.specs.Prelude.{is_some, option_and_then}
use Rattle.std.specs.Bool.{nat_eq}
use Rattle.std.specs.Option.{option_map_or}
use Rattle.std.specs.Cmp.{nat_eq_equiv}
use Rattle.std.specs.Ordering.{nat_cmp}
use Rattle.std.specs.FinMap.{contains_key, empty, get, get-empty, insert, remove}
use Rattle.std.proofs.lemmas.Bool.{eqb-true}
use Rattle.lake_base.specs.Maps.{ByteMap}
use Rattle.lake_base.specs.declared.digest.Digest.{Digest}
use Rattle.lake_values.specs.KeyMap.{ChangesValue}
use Rattle.lake_values.specs.Reset.{changes_after_reset}
use Rattle.lake_values.specs.declared.commit.ResetWhat.{ResetWhat}
use Rattle.lake_values.specs.declared.entry.Change.{Change}
use Rattle.branch_record.specs.Record.{is_among}
use Rattle.branch_record.specs.Tokens.{changes_under, with_change}
use Rattle.branch_record.proofs.TokensLemmas.{get_changed, get_with, kept, kept_empty}
use Rattle.byte_map.proofs.ByteMapLemmas.{get_empty, get_removed}
use Rattle.lake_model.specs.Parts.{changed_at}
use Rattle.core_state.specs.BranchStates.{BranchStateValue, new_branch, tokens_of}
use Rattle.core_state.specs.FirstStates.{first_id, founded_repository}
use Rattle.core_state.specs.NewCommits.{NewCommit, with_new_commit, with_new_head}
use Rattle.core_state.specs.RepositoryStates.{RepositoryStateValue}
use Rattle.core_state.specs.LakeStates.{LakeStateValue}
use Rattle.core_changes.specs.declared.branch.BranchChange.TheVariants as branch
use Rattle.core_changes.specs.BranchChanges.{branch_after}
use Rattle.core_changes.specs.FreshTokens.{AreTokensBelow}
use Rattle.core_changes.specs.LakeChanges.{after_branch_create, after_branch_delete, after_new_head, after_repository_create, after_reset, after_seal}
use Rattle.core_changes.specs.LakeChanges.{in_branch, with_entry}
use Rattle.core_changes.specs.LakeChanges.{without_ticket}
use Rattle.core_puts.specs.Puts.{branch_at}
use Rattle.core_pairs.specs.LakePairs.{AreTokensApart}
use Rattle.core_pairs.proofs.PlaceLemmas.{decide, get_left}
use Rattle.core_pairs.proofs.ThingLemmas.{branch_closed, with_one}
use Rattle.core_pairs.proofs.CountsLemmas.{changed_is}
use Rattle.core_pairs.proofs.StagedLemmas.{own_names}
use Rattle.core_pairs.proofs.ApartLemmas.{Names, branch_apart, fewer_apart, lake_apart, repository_apart, unnamed}

-- ---- a repository is changed

pub change_apart : (l : LakeStateValue) (q : List ℕ) (change : RepositoryStateValue → RepositoryStateValue) → AreTokensApart l
    → ((r : RepositoryStateValue) → get l.repositories q ≡ Some r → AreTokensApart (with_one l q (change r)))
    → (m : LakeStateValue) → m.repositories ≡ changed_at q change l.repositories → AreTokensApart m
change_apart l q change apart then m is = by (get l.repositories q) refl
  where
    by : (o : Option RepositoryStateValue) → get l.repositories q ≡ o → AreTokensApart m
    by None none = lake_apart l m (is ∙ ap (λ o. option_map_or (λ x. insert l.repositories q (change x)) o l.repositories) none) apart
    by (Some r) there = lake_apart (with_one l q (change r)) m (is ∙ changed_is l.repositories q change r there) (then r there)

-- where its branches stay
pub others_apart : (l : LakeStateValue) (q : List ℕ) (change : RepositoryStateValue → RepositoryStateValue)
    → ((r : RepositoryStateValue) → (change r).branches ≡ r.branches) → AreTokensApart l
    → (m : LakeStateValue) → m.repositories ≡ changed_at q change l.repositories → AreTokensApart m
others_apart l q change same apart =
    change_apart l q change apart
    (λ r there. repository_apart l q (change r)
    (λ n. ap (λ (all : ByteMap BranchStateValue). get all n) (same r) ∙ sym (ap (option_and_then (λ r. get r.branches n)) there)) apart)

-- ---- a branch is changed

-- what is changed names tokens of the branch, or fresh ones, and changes stand only under those
pub record IsNaming (IsFresh : ℕ → Type 0) (b now : BranchStateValue) : Type 0 where
  pub names : (token : ℕ) → is_among (tokens_of now) token ≡ true → (is_among (tokens_of b) token ≡ true) ⊎ IsFresh token
  pub used : (token : ℕ) → contains_key now.tokens token ≡ true → is_among (tokens_of now) token ≡ true

module _ (l : LakeStateValue) (apart : AreTokensApart l) (q name : List ℕ) (IsFresh : ℕ → Type 0)
    (unused : (token : ℕ) → IsFresh token → (p n : List ℕ) → Names l token p n → ⊥)
    (change : BranchStateValue → BranchStateValue)
    (naming : (b : BranchStateValue) → ((token : ℕ) → contains_key b.tokens token ≡ true → is_among (tokens_of b) token ≡ true) → IsNaming IsFresh b (change b))
    (whole : RepositoryStateValue → RepositoryStateValue) (its : (r : RepositoryStateValue) → (whole r).branches ≡ changed_at name change r.branches) where
  in_it : (r : RepositoryStateValue) → get l.repositories q ≡ Some r → AreTokensApart (with_one l q (whole r))
  in_it r there = by (get r.branches name) refl
    where
      at : (n : List ℕ) → get r.branches n ≡ branch_at q n l
      at n = sym (ap (option_and_then (λ r. get r.branches n)) there)

      by : (o : Option BranchStateValue) → get r.branches name ≡ o → AreTokensApart (with_one l q (whole r))
      by None none =
          repository_apart l q (whole r)
          (λ n. ap (λ (all : ByteMap BranchStateValue). get all n)
          (its r ∙ ap (λ o. option_map_or (λ x. insert r.branches name (change x)) o r.branches) none) ∙ at n) apart
      by (Some b) is =
          let new = naming b (λ token uses. own_names l apart q r there name b is token uses) in
          branch_apart l q (whole r) r.branches name (change b) (its r ∙ changed_is r.branches name change b is) at apart IsFresh unused
          (λ token among. old token (new.names token among)) new.used
        where
          old : (token : ℕ) → (is_among (tokens_of b) token ≡ true) ⊎ IsFresh token → Names l token q name ⊎ IsFresh token
          old token (inl among) = inl (branch_closed l q name (λ b. is_among (tokens_of b) token ≡ true) r b there is among)
          old token (inr fresh) = inr fresh

  pub naming_apart : (m : LakeStateValue) → m.repositories ≡ changed_at q whole l.repositories → AreTokensApart m
  naming_apart = change_apart l q whole apart in_it

-- no token is fresh
abbrev None_fresh : ℕ → Type 0
None_fresh token = ⊥

module _ (l : LakeStateValue) (apart : AreTokensApart l) (q name : List ℕ) where
  -- a branch is changed, and no fresh token is given
  plain_apart : (change : BranchStateValue → BranchStateValue)
      → ((b : BranchStateValue) → ((token : ℕ) → contains_key b.tokens token ≡ true → is_among (tokens_of b) token ≡ true) → IsNaming None_fresh b (change b))
      → (whole : RepositoryStateValue → RepositoryStateValue) → ((r : RepositoryStateValue) → (whole r).branches ≡ changed_at name change r.branches)
      → (m : LakeStateValue) → m.repositories ≡ changed_at q whole l.repositories → AreTokensApart m
  plain_apart change naming = naming_apart l apart q name None_fresh (λ token none p n h. none) change naming

-- ---- each change of a branch

staged_naming : (path : List ℕ) (change : Change) (b : BranchStateValue)
    → ((token : ℕ) → contains_key b.tokens token ≡ true → is_among (tokens_of b) token ≡ true)
    → IsNaming None_fresh b (branch_after (branch.Stage path change) b)
unfolding with_change
staged_naming path change b uses = record {
  names = λ token among. inl among;
  used = λ token there. by token (nat_eq token b.staging) refl (ap is_some (sym (get_with b.tokens b.staging _ token)) ∙ there);
}
  where
    by : (token : ℕ) (test : Bool) → nat_eq token b.staging ≡ test
        → is_some (cond test (kept (insert (changes_under b.tokens b.staging) path change)) (get b.tokens token)) ≡ true → is_among (tokens_of b) token ≡ true
    by token true e h = ap (λ t. t || is_among b.sealed token) (nat_eq_equiv.symm b.staging token ∙ e)
    by token false e h = uses token h

reset_naming : (what : ResetWhat) (version : ℕ) (b : BranchStateValue)
    → ((token : ℕ) → contains_key b.tokens token ≡ true → is_among (tokens_of b) token ≡ true)
    → IsNaming None_fresh b (branch_after (branch.Reset what version) b)
reset_naming what version b uses = record {
  names = λ token among. inl among;
  used = λ token there.
      by token (is_among (tokens_of b) token) refl (ap is_some (sym (get_changed (changes_after_reset what) b.tokens (tokens_of b) token)) ∙ there);
}
  where
    by : (token : ℕ) (test : Bool) → is_among (tokens_of b) token ≡ test
        → is_some (cond test (kept (changes_after_reset what (changes_under b.tokens token))) (get b.tokens token)) ≡ true → is_among (tokens_of b) token ≡ true
    by token true e h = e
    by token false e h = uses token h

head_naming : (version : ℕ) (id : Digest) (b : BranchStateValue)
    → ((token : ℕ) → contains_key b.tokens token ≡ true → is_among (tokens_of b) token ≡ true)
    → IsNaming None_fresh b (with_new_head version id b)
head_naming version id b uses = record {
  names = λ token among. inl (first token (nat_eq b.staging token) (is_among b.sealed token) among);
  used = λ token there.
      by token (is_among b.sealed token) refl (ap is_some (sym (get_changed (λ _. empty) b.tokens b.sealed token)) ∙ there);
}
  where
    first : (token : ℕ) (one rest : Bool) → (one || false) ≡ true → (one || rest) ≡ true
    first token true rest h = refl
    first token false rest h = absurd cc

    only : (one : Bool) → (one || false) ≡ true → (one || false) ≡ true
    only one h = h

    by : (token : ℕ) (test : Bool) → is_among b.sealed token ≡ test
        → is_some (cond test (kept empty) (get b.tokens token)) ≡ true → (nat_eq b.staging token || false) ≡ true
    by token true e h = let none : is_some (kept empty) ≡ false = ap is_some kept_empty in absurd cc
    by token false e h = ap (λ t. nat_eq b.staging token || t) (sym e) ∙ uses token h

sealed_naming : (fresh version : ℕ) (b : BranchStateValue)
    → ((token : ℕ) → contains_key b.tokens token ≡ true → is_among (tokens_of b) token ≡ true)
    → IsNaming (λ token. token ≡ fresh) b (branch_after (branch.Seal fresh version) b)
sealed_naming fresh version b uses = by (contains_key b.tokens b.staging)
  where
    first : (token : ℕ) (test : Bool) → nat_eq fresh token ≡ test → (test || is_among (tokens_of b) token) ≡ true
        → (is_among (tokens_of b) token ≡ true) ⊎ (token ≡ fresh)
    first token true e h = inr (sym (eqb-true fresh token e))
    first token false e h = inl h

    later : (one rest : Bool) → rest ≡ true → (one || rest) ≡ true
    later true rest h = refl
    later false rest h = h

    by : (test : Bool) → IsNaming (λ token. token ≡ fresh) b
        (record (cond test (record b { staging = fresh; sealed = b.staging ∷ b.sealed }) b) { version = version })
    by true = record {
      names = λ token among. first token (nat_eq fresh token) refl among;
      used = λ token there. later (nat_eq fresh token) (is_among (tokens_of b) token) (uses token there);
    }
    by false = record { names = λ token among. inl among; used = uses }

module _ (l : LakeStateValue) (apart : AreTokensApart l) (q name : List ℕ) where
  ticketed_apart : (path : List ℕ) (change : Change) (o : Option ℕ)
      → AreTokensApart (with_entry (in_branch q name (branch_after (branch.Stage path change)) (option_map_or (λ number. without_ticket number l) o l)))
  ticketed_apart path change None =
      plain_apart l apart q name (branch_after (branch.Stage path change)) (staged_naming path change)
      (λ r. record r { branches = changed_at name (branch_after (branch.Stage path change)) r.branches }) (λ r. refl) _ refl
  ticketed_apart path change (Some number) =
      plain_apart l apart q name (branch_after (branch.Stage path change)) (staged_naming path change)
      (λ r. record r { branches = changed_at name (branch_after (branch.Stage path change)) r.branches }) (λ r. refl) _ refl

  pub stage_apart : (path : List ℕ) (change : Change) (o : Option ℕ)
      → AreTokensApart (with_entry (in_branch q name (branch_after (branch.Stage path change)) (option_map_or (λ number. without_ticket number l) o l)))
  stage_apart = ticketed_apart

  pub reset_apart : (what : ResetWhat) → AreTokensApart (after_reset q name what l)
  reset_apart what =
      plain_apart l apart q name (branch_after (branch.Reset what l.next_version)) (reset_naming what l.next_version)
      (λ r. record r { branches = changed_at name (branch_after (branch.Reset what l.next_version)) r.branches }) (λ r. refl)
      (after_reset q name what l) refl

  pub head_apart : (new : NewCommit) → AreTokensApart (after_new_head q name new l)
  head_apart new =
      plain_apart l apart q name (with_new_head l.next_version new.id) (head_naming l.next_version new.id)
      (with_new_commit l.next_version name new) (λ r. refl) (after_new_head q name new l) refl

  pub seal_apart : AreTokensBelow l → AreTokensApart (after_seal q name l)
  seal_apart below =
      naming_apart l apart q name (λ token. token ≡ l.next_token) (unnamed l below) (branch_after (branch.Seal l.next_token l.next_version))
      (sealed_naming l.next_token l.next_version)
      (λ r. record r { branches = changed_at name (branch_after (branch.Seal l.next_token l.next_version)) r.branches }) (λ r. refl)
      (after_seal q name l) refl

-- ---- branches that come and go

new_names : (token next : ℕ) → (nat_eq next token || false) ≡ true → token ≡ next
new_names token next h = by (nat_eq next token) refl h
  where
    by : (test : Bool) → nat_eq next token ≡ test → (test || false) ≡ true → token ≡ next
    by true e h = sym (eqb-true next token e)
    by false e h = absurd cc

-- nothing stands under a token of a new branch
no_token : (token : ℕ) → contains_key {X = ChangesValue} {R = nat_cmp} empty token ≡ true → ⊥
no_token token there = let none = get-empty {X = ChangesValue} nat_cmp token in absurd cc

module _ (l : LakeStateValue) (apart : AreTokensApart l) (below : AreTokensBelow l) (q name : List ℕ) where
  pub create_apart : (commit : Digest) → AreTokensApart (after_branch_create q name commit l)
  create_apart commit =
      change_apart l q (λ r. record r { branches = insert r.branches name (new_branch l.next_version commit l.next_token) }) apart
      (λ r there. branch_apart l q (record r { branches = insert r.branches name (new_branch l.next_version commit l.next_token) }) r.branches name
      (new_branch l.next_version commit l.next_token) refl (λ n. sym (ap (option_and_then (λ r. get r.branches n)) there)) apart
      (λ token. token ≡ l.next_token) (unnamed l below) (λ token among. inr (new_names token l.next_token among))
      (λ token there. absurd (no_token token there)))
      (after_branch_create q name commit l) refl

  pub found_apart : (date : ℕ) → get l.repositories q ≡ None → AreTokensApart (after_repository_create q name date l)
  found_apart date none =
      let r = founded_repository l.cut date name l.next_version l.next_token in
      lake_apart (with_one l q (founded_repository l.cut date name l.next_version l.next_token)) (after_repository_create q name date l) refl
      (branch_apart l q (founded_repository l.cut date name l.next_version l.next_token) empty name
      (new_branch l.next_version (first_id l.cut date) l.next_token)
      refl (λ n. get_empty n ∙ sym (ap (option_and_then (λ r. get r.branches n)) none)) apart
      (λ token. token ≡ l.next_token) (unnamed l below) (λ token among. inr (new_names token l.next_token among))
      (λ token there. absurd (no_token token there)))

pub delete_apart : (l : LakeStateValue) → AreTokensApart l → (q name : List ℕ) → AreTokensApart (after_branch_delete q name l)
delete_apart l apart q name =
    change_apart l q (λ r. record r { branches = remove r.branches name }) apart
    (λ r there. fewer_apart l q (record r { branches = remove r.branches name }) (λ n. by r there n (decide n name)) apart)
    (after_branch_delete q name l) refl
  where
    by : (r : RepositoryStateValue) → get l.repositories q ≡ Some r → (n : List ℕ) → (n ≡ name) ⊎ (n ≡ name → ⊥)
        → (get (remove r.branches name) n ≡ None) ⊎ (get (remove r.branches name) n ≡ branch_at q n l)
    by r there n (inl named) = inl (ap (get (remove r.branches name)) named ∙ get_removed r.branches name)
    by r there n (inr other) = inr (get_left r.branches name n other ∙ sym (ap (option_and_then (λ r. get r.branches n)) there))
