-- Two branches go on to name no token both.
use Rattle.std.proofs.Common.{◌≡◌, ◌⊎◌, inl, inr, ℕ, true, List, Some, None, IsSomeAnd, arith, sym, ap, subst, ◌∙◌}
use Rattle.std.specs.Prelude.{option_and_then}
use Rattle.std.specs.FinMap.{contains_key, get, insert}
use Rattle.lake_base.specs.Maps.{ByteMap}
use Rattle.branch_record.specs.Record.{is_among}
use Rattle.byte_map.proofs.ByteMapLemmas.{get_inserted}
use Rattle.core_state.specs.BranchStates.{BranchStateValue, tokens_of}
use Rattle.core_state.specs.RepositoryStates.{RepositoryStateValue}
use Rattle.core_state.specs.LakeStates.{LakeStateValue}
use Rattle.core_changes.specs.FreshTokens.{AreTokensBelow}
use Rattle.core_puts.specs.Puts.{branch_at}
use Rattle.core_pairs.specs.LakePairs.{AreTokensApart, HasBranchIn}
use Rattle.core_pairs.proofs.PlaceLemmas.{decide, get_other}
use Rattle.core_pairs.proofs.ThingLemmas.{branch_opened, closed, with_one}

abbrev pub Names : LakeStateValue → ℕ → List ℕ → List ℕ → Type 0
Names l token q n = HasBranchIn l q n (λ b. is_among (tokens_of b) token ≡ true)

abbrev Uses : LakeStateValue → ℕ → List ℕ → List ℕ → Type 0
Uses l token q n = HasBranchIn l q n (λ b. contains_key b.tokens token ≡ true)

-- the next token isn't named
pub unnamed : (l : LakeStateValue) → AreTokensBelow l → (token : ℕ) → token ≡ l.next_token → (q n : List ℕ) → Names l token q n → ⊥
unnamed l below token is q n h =
    let there = branch_opened l q n (λ b. is_among (tokens_of b) token ≡ true) h in
    let less = (below q there.r n there.b there.in_lake there.in_it).named token there.holds in
    omega arith

-- ---- the same branches

pub same_apart : (l m : LakeStateValue) → ((q n : List ℕ) → branch_at q n m ≡ branch_at q n l) → AreTokensApart l → AreTokensApart m
same_apart l m same apart = record {
  apart = λ token q n p o one other.
      apart.apart token q n p o (subst (λ b. IsSomeAnd b (λ b. is_among (tokens_of b) token ≡ true)) (same q n) one)
      (subst (λ b. IsSomeAnd b (λ b. is_among (tokens_of b) token ≡ true)) (same p o) other);
  named = λ token q n h.
      subst (λ b. IsSomeAnd b (λ b. is_among (tokens_of b) token ≡ true)) (sym (same q n))
      (apart.named token q n (subst (λ b. IsSomeAnd b (λ b. contains_key b.tokens token ≡ true)) (same q n) h));
}

-- in the same repositories
pub lake_apart : (l m : LakeStateValue) → m.repositories ≡ l.repositories → AreTokensApart l → AreTokensApart m
lake_apart l m same =
    same_apart l m (λ q n. ap (λ (all : ByteMap RepositoryStateValue). option_and_then (λ r. get r.branches n) (get all q)) same)

-- ---- a repository with other branches

module _ (l : LakeStateValue) (q : List ℕ) (r : RepositoryStateValue) where
  -- a branch of it, and of another one
  at_it : (n : List ℕ) → branch_at q n (with_one l q r) ≡ get r.branches n
  at_it n = ap (option_and_then (λ r. get r.branches n)) (get_inserted l.repositories q r)

  at_other : (p n : List ℕ) → (p ≡ q → ⊥) → branch_at p n (with_one l q r) ≡ branch_at p n l
  at_other p n apart = ap (option_and_then (λ r. get r.branches n)) (get_other l.repositories q r p apart)

  -- it has the branches that it had
  pub repository_apart : ((n : List ℕ) → get r.branches n ≡ branch_at q n l) → AreTokensApart l → AreTokensApart (with_one l q r)
  repository_apart same = same_apart l (with_one l q r) (λ p n. by p n (decide p q))
    where
      by : (p n : List ℕ) → (p ≡ q) ⊎ (p ≡ q → ⊥) → branch_at p n (with_one l q r) ≡ branch_at p n l
      by p n (inl is) = ap (λ p. branch_at p n (with_one l q r)) is ∙ at_it n ∙ same n ∙ ap (λ p. branch_at p n l) (sym is)
      by p n (inr apart) = at_other p n apart

  -- it has some of the branches that it had
  module _ (fewer : (n : List ℕ) → (get r.branches n ≡ None) ⊎ (get r.branches n ≡ branch_at q n l)) (apart : AreTokensApart l) where
    less : (p n : List ℕ) → (branch_at p n (with_one l q r) ≡ None) ⊎ (branch_at p n (with_one l q r) ≡ branch_at p n l)
    less p n = by (decide p q)
      where
        here : (p ≡ q) → (get r.branches n ≡ None) ⊎ (get r.branches n ≡ branch_at q n l)
            → (branch_at p n (with_one l q r) ≡ None) ⊎ (branch_at p n (with_one l q r) ≡ branch_at p n l)
        here is (inl none) = inl (ap (λ p. branch_at p n (with_one l q r)) is ∙ at_it n ∙ none)
        here is (inr same) = inr (ap (λ p. branch_at p n (with_one l q r)) is ∙ at_it n ∙ same ∙ ap (λ p. branch_at p n l) (sym is))

        by : (p ≡ q) ⊎ (p ≡ q → ⊥) → (branch_at p n (with_one l q r) ≡ None) ⊎ (branch_at p n (with_one l q r) ≡ branch_at p n l)
        by (inl is) = here is (fewer n)
        by (inr other) = inr (at_other p n other)

    was : (p n : List ℕ) (Q : BranchStateValue → Type 0) → HasBranchIn (with_one l q r) p n Q → HasBranchIn l p n Q
    was p n Q h = by (less p n)
      where
        by : (branch_at p n (with_one l q r) ≡ None) ⊎ (branch_at p n (with_one l q r) ≡ branch_at p n l) → HasBranchIn l p n Q
        by (inl none) = absurd (subst (λ b. IsSomeAnd b Q) none h)
        by (inr same) = subst (λ b. IsSomeAnd b Q) same h

    is : (p n : List ℕ) (P Q : BranchStateValue → Type 0) → HasBranchIn (with_one l q r) p n P → HasBranchIn l p n Q → HasBranchIn (with_one l q r) p n Q
    is p n P Q there h = by (less p n)
      where
        by : (branch_at p n (with_one l q r) ≡ None) ⊎ (branch_at p n (with_one l q r) ≡ branch_at p n l) → HasBranchIn (with_one l q r) p n Q
        by (inl none) = absurd (subst (λ b. IsSomeAnd b P) none there)
        by (inr same) = subst (λ b. IsSomeAnd b Q) (sym same) h

    pub fewer_apart : AreTokensApart (with_one l q r)
    fewer_apart = record {
      apart = λ token p n o m one other.
          apart.apart token p n o m (was p n (λ b. is_among (tokens_of b) token ≡ true) one) (was o m (λ b. is_among (tokens_of b) token ≡ true) other);
      named = λ token p n h.
          is p n (λ b. contains_key b.tokens token ≡ true) (λ b. is_among (tokens_of b) token ≡ true) h
          (apart.named token p n (was p n (λ b. contains_key b.tokens token ≡ true) h));
    }

  -- ---- one branch of it is another one

  module _ (m : ByteMap BranchStateValue) (name : List ℕ) (b : BranchStateValue) (has : r.branches ≡ insert m name b)
      (same : (n : List ℕ) → get m n ≡ branch_at q n l) (apart : AreTokensApart l)
      (IsFresh : ℕ → Type 0) (unused : (token : ℕ) → IsFresh token → (p n : List ℕ) → Names l token p n → ⊥)
      (names : (token : ℕ) → is_among (tokens_of b) token ≡ true → Names l token q name ⊎ IsFresh token)
      (used : (token : ℕ) → contains_key b.tokens token ≡ true → is_among (tokens_of b) token ≡ true) where
    abbrev IsIt : List ℕ → List ℕ → Type 0
    IsIt p n = (p ≡ q) × (n ≡ name)

    at_name : branch_at q name (with_one l q r) ≡ Some b
    at_name = at_it name ∙ ap (λ (all : ByteMap BranchStateValue). get all name) has ∙ get_inserted m name b

    -- one is the branch, or is as it was
    it_or_not : (p n : List ℕ) → IsIt p n ⊎ ((IsIt p n → ⊥) × (branch_at p n (with_one l q r) ≡ branch_at p n l))
    it_or_not p n = by (decide p q) (decide n name)
      where
        by : (p ≡ q) ⊎ (p ≡ q → ⊥) → (n ≡ name) ⊎ (n ≡ name → ⊥) → IsIt p n ⊎ ((IsIt p n → ⊥) × (branch_at p n (with_one l q r) ≡ branch_at p n l))
        by (inl is) (inl named) = inl (is, named)
        by (inl is) (inr other) =
            inr (
              λ both. other both.1,
              ap (λ p. branch_at p n (with_one l q r)) is ∙ at_it n ∙ ap (λ (all : ByteMap BranchStateValue). get all n) has
                  ∙ get_other m name b n other ∙ same n ∙ ap (λ p. branch_at p n l) (sym is),
            )
        by (inr other) named = inr (λ both. other both.0, at_other p n other)

    named_then : (token : ℕ) (p n : List ℕ) → Names (with_one l q r) token p n → Names l token p n ⊎ (IsFresh token × IsIt p n)
    named_then token p n h = by (it_or_not p n)
      where
        now : IsIt p n → is_among (tokens_of b) token ≡ true
        now (is, named) =
            let at : branch_at p n (with_one l q r) ≡ Some b =
            ap (λ p. branch_at p n (with_one l q r)) is ∙ ap (λ n. branch_at q n (with_one l q r)) named ∙ at_name in
            subst (λ o. IsSomeAnd o (λ b. is_among (tokens_of b) token ≡ true)) at h

        here : IsIt p n → Names l token q name ⊎ IsFresh token → Names l token p n ⊎ (IsFresh token × IsIt p n)
        here (is, named) (inl old) = inl (subst (λ p. Names l token p n) (sym is) (subst (λ n. Names l token q n) (sym named) old))
        here it (inr new) = inr (new, it)

        by : IsIt p n ⊎ ((IsIt p n → ⊥) × (branch_at p n (with_one l q r) ≡ branch_at p n l)) → Names l token p n ⊎ (IsFresh token × IsIt p n)
        by (inl it) = here it (names token (now it))
        by (inr (other, is)) = inl (subst (λ o. IsSomeAnd o (λ b. is_among (tokens_of b) token ≡ true)) is h)

    apart_by : (token : ℕ) (p n o k : List ℕ) → Names l token p n ⊎ (IsFresh token × IsIt p n) → Names l token o k ⊎ (IsFresh token × IsIt o k)
        → (p ≡ o) × (n ≡ k)
    apart_by token p n o k (inl one) (inl other) = apart.apart token p n o k one other
    apart_by token p n o k (inl one) (inr (new, it)) = absurd (unused token new p n one)
    apart_by token p n o k (inr (new, it)) (inl other) = absurd (unused token new o k other)
    apart_by token p n o k (inr (new, (a, c))) (inr (also, (d, e))) = (a ∙ sym d, c ∙ sym e)

    used_then : (token : ℕ) (p n : List ℕ) → Uses (with_one l q r) token p n → Names (with_one l q r) token p n
    used_then token p n h = by (it_or_not p n)
      where
        by : IsIt p n ⊎ ((IsIt p n → ⊥) × (branch_at p n (with_one l q r) ≡ branch_at p n l)) → Names (with_one l q r) token p n
        by (inl (is, named)) =
            let at : branch_at p n (with_one l q r) ≡ Some b =
            ap (λ p. branch_at p n (with_one l q r)) is ∙ ap (λ n. branch_at q n (with_one l q r)) named ∙ at_name in
            closed (branch_at p n (with_one l q r)) (λ b. is_among (tokens_of b) token ≡ true) b at
            (used token (subst (λ o. IsSomeAnd o (λ b. contains_key b.tokens token ≡ true)) at h))
        by (inr (other, is)) =
            subst (λ o. IsSomeAnd o (λ b. is_among (tokens_of b) token ≡ true)) (sym is)
            (apart.named token p n (subst (λ o. IsSomeAnd o (λ b. contains_key b.tokens token ≡ true)) is h))

    pub branch_apart : AreTokensApart (with_one l q r)
    branch_apart = record {
      apart = λ token p n o k one other. apart_by token p n o k (named_then token p n one) (named_then token o k other);
      named = used_then;
    }
