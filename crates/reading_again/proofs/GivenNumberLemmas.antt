-- After each change the own numbers of a lake were given out.
use Rattle.std.proofs.Common.{◌≡◌, ℕ, ◌<◌, ◌≤◌, Bool, true, false, cond, List, ◌∷◌, Option, Some, None, IfSome, arith, refl, sym, ap, subst, ◌∙◌}
use Rattle.std.specs.Prelude.{codes, nat_eq}
use Rattle.std.specs.Option.{option_map_or}
use Rattle.std.specs.Str.{bytes_eq}
use Rattle.std.specs.FinMap.{contains_key, empty, get, insert, remove}
use Rattle.lake_base.specs.Maps.{ByteMap, byte_order}
use Rattle.lake_base.specs.declared.digest.Digest.{Digest}
use Rattle.lake_values.specs.KeyMap.{ChangesValue}
use Rattle.lake_values.specs.Reset.{changes_after_reset, drops_path}
use Rattle.lake_values.specs.declared.commit.ResetWhat.{ResetWhat}
use Rattle.lake_values.specs.declared.entry.Change.{Change}
use Rattle.lake_values.proofs.ResetLemmas.{get_reset}
use Rattle.lake_format.specs.declared.cut.Cut.{Cut}
use Rattle.meta_range.specs.Ranges.{TreeValue}
use Rattle.branch_record.specs.Record.{is_among}
use Rattle.branch_record.specs.Tokens.{changes_under, with_change}
use Rattle.branch_record.proofs.TokensLemmas.{under_changed, under_empty, under_with}
use Rattle.byte_map.proofs.ByteMapLemmas.{get_empty, get_insert}
use Rattle.lake_model.specs.Parts.{changed_at}
use Rattle.lake_model.specs.Uncommitted.{put_number}
use Rattle.core_state.specs.BranchStates.{BranchStateValue, new_branch, tokens_of}
use Rattle.core_state.specs.FirstStates.{first_id, first_tree, founded_repository, fresh_lake}
use Rattle.core_state.specs.NewCommits.{NewCommit, with_new_commit, with_new_head}
use Rattle.core_state.specs.RepositoryStates.{RepositoryStateValue}
use Rattle.core_state.specs.LakeStates.{LakeStateValue}
use Rattle.core_changes.specs.declared.branch.BranchChange.TheVariants as branch
use Rattle.core_changes.specs.BranchChanges.{branch_after}
use Rattle.core_changes.specs.LakeChanges.{after_branch_create, after_branch_delete, after_new_head, after_repository_create, after_reset, after_seal}
use Rattle.core_changes.specs.LakeChanges.{in_branch, with_entry, without_ticket}
use Rattle.core_changes.proofs.ChangedLemmas.{all_changed, all_inserted, all_left}
use Rattle.reading_again.specs.GivenNumbers.{AreChangesBelow, AreNumbersGiven, HasNumbersBelow, IsMapBelow}

nothing : {X : Type 0} {x : X} → None ≡ Some x → ⊥
nothing e = cc

some_is : {X : Type 0} {x y : X} → Some x ≡ Some y → x ≡ y
some_is e = cc

-- ---- what is below one is below a greater one

wider : (small next : ℕ) (r : RepositoryStateValue) → small ≤ next → HasNumbersBelow small r → HasNumbersBelow next r
wider small next r le below = record {
  changes = λ name b at token path change number stands names. let less = below.changes name b at token path change number stands names in omega arith;
  maps = λ id tree at number inside. let less = below.maps id tree at number inside in omega arith;
}

-- the same repositories
pub same_given : (l m : LakeStateValue) → m.repositories ≡ l.repositories → l.next_number ≤ m.next_number → AreNumbersGiven l → AreNumbersGiven m
same_given l m is le given repo r at =
    wider l.next_number m.next_number r le (given repo r (subst (λ (all : ByteMap RepositoryStateValue). get all repo ≡ Some r) is at))

-- a repository was changed
pub changed_given : (l m : LakeStateValue) (q : List ℕ) (change : RepositoryStateValue → RepositoryStateValue)
    → m.repositories ≡ changed_at q change l.repositories → m.next_number ≡ l.next_number
    → ((r : RepositoryStateValue) → HasNumbersBelow l.next_number r → HasNumbersBelow l.next_number (change r)) → AreNumbersGiven l → AreNumbersGiven m
changed_given l m q change is next then given repo r at =
    subst (λ n. HasNumbersBelow n r) (sym next)
    (all_changed (λ repo r. HasNumbersBelow l.next_number r) l.repositories q change (λ repo r tie there. then r (given repo r there))
    (λ repo r tie there. given repo r there) repo r
    (subst (λ (all : ByteMap RepositoryStateValue). get all repo ≡ Some r) is at))

-- ---- branches

module _ (next : ℕ) where
  -- a branch of a repository was changed
  branch_changed : (r : RepositoryStateValue) (name : List ℕ) (change : BranchStateValue → BranchStateValue)
      → ((b : BranchStateValue) → AreChangesBelow next b → AreChangesBelow next (change b)) → HasNumbersBelow next r
      → HasNumbersBelow next (record r { branches = changed_at name change r.branches })
  branch_changed r name change then below = record {
    changes = all_changed (λ name b. AreChangesBelow next b) r.branches name change (λ n b tie at. then b (below.changes n b at))
        (λ n b tie at. below.changes n b at);
    maps = below.maps;
  }

  -- a change is put under the staging token
  staged_below : (path : List ℕ) (change : Change) → IfSome (put_number change) (λ number. number < next) → (b : BranchStateValue) → AreChangesBelow next b
      → AreChangesBelow next (branch_after (branch.Stage path change) b)
  unfolding with_change
  staged_below path change fits b below token other its number stands names =
      by (nat_eq token b.staging)
      (subst (λ (c : ChangesValue). get c other ≡ Some its)
      (under_with b.tokens b.staging (insert (changes_under b.tokens b.staging) path change) token) stands)
    where
      own : (test : Bool) → cond test (Some change) (get (changes_under b.tokens b.staging) other) ≡ Some its → number < next
      own true is = subst (λ o. IfSome o (λ number. number < next)) (ap put_number (some_is is) ∙ names) fits
      own false is = below b.staging other its number is names

      by : (test : Bool) → get (cond test (insert (changes_under b.tokens b.staging) path change) (changes_under b.tokens token)) other ≡ Some its
          → number < next
      by true is = own (bytes_eq other path) (sym (get_insert (changes_under b.tokens b.staging) path change other) ∙ is)
      by false is = below token other its number is names

  -- changes are dropped
  reset_below : (what : ResetWhat) (version : ℕ) (b : BranchStateValue) → AreChangesBelow next b
      → AreChangesBelow next (branch_after (branch.Reset what version) b)
  reset_below what version b below token path change number stands names =
      by (is_among (tokens_of b) token)
      (subst (λ (c : ChangesValue). get c path ≡ Some change) (under_changed (changes_after_reset what) b.tokens (tokens_of b) token) stands)
    where
      left : (test : Bool) → cond test None (get (changes_under b.tokens token) path) ≡ Some change → number < next
      left true is = absurd (nothing is)
      left false is = below token path change number is names

      by : (test : Bool) → get (cond test (changes_after_reset what (changes_under b.tokens token)) (changes_under b.tokens token)) path ≡ Some change
          → number < next
      by true is = left (drops_path what path) (sym (get_reset what (changes_under b.tokens token) path) ∙ is)
      by false is = below token path change number is names

  -- what was sealed is gone
  head_below : (version : ℕ) (id : Digest) (b : BranchStateValue) → AreChangesBelow next b → AreChangesBelow next (with_new_head version id b)
  head_below version id b below token path change number stands names =
      by (is_among b.sealed token) (subst (λ (c : ChangesValue). get c path ≡ Some change) (under_changed (λ _. empty) b.tokens b.sealed token) stands)
    where
      by : (test : Bool) → get (cond test empty (changes_under b.tokens token)) path ≡ Some change → number < next
      by true is = absurd (nothing (sym (get_empty path) ∙ is))
      by false is = below token path change number is names

  -- a seal leaves the changes
  sealed_below : (fresh version : ℕ) (b : BranchStateValue) → AreChangesBelow next b → AreChangesBelow next (branch_after (branch.Seal fresh version) b)
  sealed_below fresh version b below token path change number stands names =
      below token path change number (by (contains_key b.tokens b.staging) stands) names
    where
      by : (test : Bool)
          → get (changes_under (record (cond test (record b { staging = fresh; sealed = b.staging ∷ b.sealed }) b) { version = version }).tokens token)
          path ≡ Some change → get (changes_under b.tokens token) path ≡ Some change
      by true is = is
      by false is = is

  -- a new branch has none
  new_below : (version : ℕ) (id : Digest) (staging : ℕ) → AreChangesBelow next (new_branch version id staging)
  new_below version id staging token path change number stands names =
      absurd (nothing (sym (ap (λ (c : ChangesValue). get c path) (under_empty token) ∙ get_empty path) ∙ stands))

  -- the empty map has none
  empty_below : IsMapBelow next empty
  empty_below number inside = absurd (nothing (sym (get_empty inside.path) ∙ inside.stands))

  -- ---- repositories

  created_below : (r : RepositoryStateValue) (name : List ℕ) (version : ℕ) (id : Digest) (staging : ℕ) → HasNumbersBelow next r
      → HasNumbersBelow next (record r { branches = insert r.branches name (new_branch version id staging) })
  created_below r name version id staging below = record {
    changes = all_inserted (λ name b. AreChangesBelow next b) r.branches name (new_branch version id staging) (λ n tie. new_below version id staging)
        (λ n b tie at. below.changes n b at);
    maps = below.maps;
  }

  deleted_below : (r : RepositoryStateValue) (name : List ℕ) → HasNumbersBelow next r
      → HasNumbersBelow next (record r { branches = remove r.branches name })
  deleted_below r name below = record {
    changes = all_left (λ name b. AreChangesBelow next b) r.branches name below.changes;
    maps = below.maps;
  }

  committed_below : (name : List ℕ) (new : NewCommit) (version : ℕ) → IsMapBelow next new.tree.map → (r : RepositoryStateValue) → HasNumbersBelow next r
      → HasNumbersBelow next (with_new_commit version name new r)
  committed_below name new version fits r below = record {
    changes = all_changed (λ name b. AreChangesBelow next b) r.branches name (with_new_head version new.id)
        (λ n b tie at. head_below version new.id b (below.changes n b at)) (λ n b tie at. below.changes n b at);
    maps = all_inserted (λ id (tree : TreeValue). IsMapBelow next tree.map) r.trees new.id.0 new.tree (λ id tie. fits)
        (λ id tree tie at. below.maps id tree at);
  }

  none_there : {X : Type 0} (P : List ℕ → X → Type 0) (q : List ℕ) (x : X) → get (empty {X = X} {R = byte_order}) q ≡ Some x → P q x
  none_there P q x at = absurd (nothing (sym (get_empty q) ∙ at))

  -- a new repository names none
  founded_below : (cut : Cut) (date : ℕ) (name : List ℕ) (version token : ℕ) → HasNumbersBelow next (founded_repository cut date name version token)
  founded_below cut date name version token = record {
    changes = all_inserted (λ name b. AreChangesBelow next b) empty name (new_branch version (first_id cut date) token)
        (λ n tie. new_below version (first_id cut date) token) (λ n b tie at. none_there (λ name b. AreChangesBelow next b) n b at);
    maps = all_inserted (λ id (tree : TreeValue). IsMapBelow next tree.map) empty (first_id cut date).0 (first_tree cut) (λ id tie. empty_below)
        (λ id tree tie at. none_there (λ id (tree : TreeValue). IsMapBelow next tree.map) id tree at);
  }

-- ---- lakes

module _ (l : LakeStateValue) (given : AreNumbersGiven l) (q name : List ℕ) where
  -- a branch of the lake was changed
  in_branch_given : (change : BranchStateValue → BranchStateValue)
      → ((b : BranchStateValue) → AreChangesBelow l.next_number b → AreChangesBelow l.next_number (change b)) → (m : LakeStateValue)
      → m.repositories ≡ changed_at q (λ r. record r { branches = changed_at name change r.branches }) l.repositories → m.next_number ≡ l.next_number
      → AreNumbersGiven m
  in_branch_given change then m is next =
      changed_given l m q (λ r. record r { branches = changed_at name change r.branches }) is next
      (λ r below. branch_changed l.next_number r name change then below) given

  pub stage_given : (path : List ℕ) (change : Change) → IfSome (put_number change) (λ number. number < l.next_number) → (o : Option ℕ)
      → AreNumbersGiven (with_entry (in_branch q name (branch_after (branch.Stage path change)) (option_map_or (λ number. without_ticket number l) o l)))
  stage_given path change fits None =
      in_branch_given (branch_after (branch.Stage path change)) (staged_below l.next_number path change fits)
      (with_entry (in_branch q name (branch_after (branch.Stage path change)) l)) refl refl
  stage_given path change fits (Some number) =
      in_branch_given (branch_after (branch.Stage path change)) (staged_below l.next_number path change fits)
      (with_entry (in_branch q name (branch_after (branch.Stage path change)) (without_ticket number l))) refl refl

  pub reset_given : (what : ResetWhat) → AreNumbersGiven (after_reset q name what l)
  reset_given what =
      in_branch_given (branch_after (branch.Reset what l.next_version)) (reset_below l.next_number what l.next_version) (after_reset q name what l) refl refl

  pub seal_given : AreNumbersGiven (after_seal q name l)
  seal_given =
      in_branch_given (branch_after (branch.Seal l.next_token l.next_version)) (sealed_below l.next_number l.next_token l.next_version)
      (after_seal q name l) refl refl

  pub head_given : (new : NewCommit) → IsMapBelow l.next_number new.tree.map → AreNumbersGiven (after_new_head q name new l)
  head_given new fits =
      changed_given l (after_new_head q name new l) q (with_new_commit l.next_version name new) refl refl
      (committed_below l.next_number name new l.next_version fits) given

  pub create_given : (id : Digest) → AreNumbersGiven (after_branch_create q name id l)
  create_given id =
      changed_given l (after_branch_create q name id l) q
      (λ r. record r { branches = insert r.branches name (new_branch l.next_version id l.next_token) }) refl refl
      (λ r below. created_below l.next_number r name l.next_version id l.next_token below) given

  pub delete_given : AreNumbersGiven (after_branch_delete q name l)
  delete_given =
      changed_given l (after_branch_delete q name l) q (λ r. record r { branches = remove r.branches name }) refl refl
      (λ r below. deleted_below l.next_number r name below) given

  pub found_given : (date : ℕ) → AreNumbersGiven (after_repository_create q name date l)
  found_given date repo r at =
      all_inserted (λ repo r. HasNumbersBelow l.next_number r) l.repositories q (founded_repository l.cut date name l.next_version l.next_token)
      (λ repo tie. founded_below l.next_number l.cut date name l.next_version l.next_token) (λ repo r tie there. given repo r there) repo r at

  -- what is neither of its branches nor of its trees was changed
  pub others_given : (change : RepositoryStateValue → RepositoryStateValue) → ((r : RepositoryStateValue) → (change r).branches ≡ r.branches)
      → ((r : RepositoryStateValue) → (change r).trees ≡ r.trees) → (m : LakeStateValue) → m.repositories ≡ changed_at q change l.repositories
      → m.next_number ≡ l.next_number → AreNumbersGiven m
  others_given change branches trees m is next =
      changed_given l m q change is next
      (λ r below. record {
        changes = λ n b at. below.changes n b (subst (λ (all : ByteMap BranchStateValue). get all n ≡ Some b) (branches r) at);
        maps = λ id tree at. below.maps id tree (subst (λ (all : ByteMap TreeValue). get all id ≡ Some tree) (trees r) at);
      }) given

-- the fresh lake names none
pub fresh_given : (cut : Cut) → AreNumbersGiven (fresh_lake cut)
fresh_given cut repo r at =
    all_inserted (λ repo r. HasNumbersBelow 0 r) empty (codes "quickstart") (founded_repository cut 0 (codes "main") 1 0)
    (λ repo tie. founded_below 0 cut 0 (codes "main") 1 0) (λ repo r tie there. none_there 0 (λ repo r. HasNumbersBelow 0 r) repo r there) repo r at
