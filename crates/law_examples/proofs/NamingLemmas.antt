-- Which numbers a scene names.
use Rattle.std.proofs.Common.{◌≡◌, ℕ, Bool, true, false, cond, List, sym, ap, subst, ◌∙◌, ◌⊎◌, inl, inr}
use Rattle.std.specs.Prelude.{Some, None, is_some}
use Rattle.std.specs.FinMap.{get, insert, empty}
use Rattle.std.specs.Ordering.{eq_by_cmp}
use Rattle.lake_base.specs.Maps.{byte_order}
use Rattle.lake_base.specs.declared.digest.Digest.{Digest}
use Rattle.lake_values.specs.KeyMap.{ChangesValue}
use Rattle.lake_model.specs.State.{Branch, Repository, State, HasLiveCommit, map_of}
use Rattle.lake_model.specs.Naming.{IsInMap, IsPut, IsCommitted, IsUncommitted, IsNamed}
use Rattle.law_examples.specs.HistoryWords.{quickstart, main}
use Rattle.law_examples.proofs.SceneLemmas.{scene, of_main, get_one, repo_there, main_there}

-- what a map of one name has is that
pub only_one : {X : Type 0} (name : List ℕ) (x : X) (q : List ℕ) (y : X) → get (insert {R = byte_order} empty name x) q ≡ Some y → y ≡ x
only_one {X = X} name x q y is = either (eq_by_cmp byte_order q name) (sym (get_one name x q) ∙ is)
  where
    either : (b : Bool) → cond b (Some x) None ≡ Some y → y ≡ x
    either true e = cc
    either false e = absurd cc

-- nothing is in an empty map, and nothing is put by no changes
pub empty_puts_none : (changes : ChangesValue) (number : ℕ) → ((q : List ℕ) → get changes q ≡ None) → IsPut changes number → ⊥
empty_puts_none changes number none put = let no : get changes put.path ≡ None = none put.path in absurd (cc (sym no ∙ put.stands))

module _ (s : State) (r : Repository) (b : Branch) (number : ℕ) where
  -- a number that nothing has isn't named
  pub unnamed : ((id : Digest) → HasLiveCommit r id → IsInMap (map_of r id) number → ⊥) → (IsPut b.sealed number → ⊥) → (IsPut b.staged number → ⊥)
      → get s.tickets number ≡ None
      → IsNamed (scene s r b) number → ⊥
  unnamed none_committed none_sealed none_staged no_ticket (inl named) =
      by_repository named.repository (only_one quickstart (of_main r b) named.name named.repository named.stands) named.names
    where
      by_branch : (x : Branch) → x ≡ b → IsPut x.sealed number ⊎ IsPut x.staged number → ⊥
      by_branch x is (inl put) = none_sealed (subst (λ (x : Branch). IsPut x.sealed number) is put)
      by_branch x is (inr put) = none_staged (subst (λ (x : Branch). IsPut x.staged number) is put)

      there : IsCommitted (of_main r b) number ⊎ IsUncommitted (of_main r b) number → ⊥
      there (inl committed) = none_committed committed.id committed.live committed.names
      there (inr uncommitted) = by_branch uncommitted.branch (only_one main b uncommitted.name uncommitted.branch uncommitted.stands) uncommitted.names

      by_repository : (x : Repository) → x ≡ of_main r b → IsCommitted x number ⊎ IsUncommitted x number → ⊥
      by_repository x is named = there (subst (λ (x : Repository). IsCommitted x number ⊎ IsUncommitted x number) is named)
  unnamed none_committed none_sealed none_staged no_ticket (inr ticket) = absurd (cc (ap is_some (sym no_ticket) ∙ ticket))

  -- what the branch puts is named
  pub named_staged : IsPut b.staged number → IsNamed (scene s r b) number
  named_staged put = inl (record {
    name = quickstart;
    repository = of_main r b;
    stands = repo_there (of_main r b);
    names = inr (record { name = main; branch = b; stands = main_there b; names = inr put });
  })

  pub named_sealed : IsPut b.sealed number → IsNamed (scene s r b) number
  named_sealed put = inl (record {
    name = quickstart;
    repository = of_main r b;
    stands = repo_there (of_main r b);
    names = inr (record { name = main; branch = b; stands = main_there b; names = inl put });
  })

  -- and so is what a commit has that isn't expired
  pub named_committed : (id : Digest) → HasLiveCommit r id → IsInMap (map_of r id) number → IsNamed (scene s r b) number
  named_committed id live has = inl (record {
    name = quickstart;
    repository = of_main r b;
    stands = repo_there (of_main r b);
    names = inl (record { id = id; live = live; names = has });
  })
