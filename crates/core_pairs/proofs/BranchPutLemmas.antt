-- A branch is put: its pair says what it is then, and its changes are as they were.
use Rattle.std.proofs.Common.{◌≡◌, ◌⊎◌, inl, inr, ℕ, List, Option, Some, IsSomeAnd, refl, sym, subst}
use Rattle.std.specs.FinMap.{get, insert}
use Rattle.lake_base.specs.declared.digest.Digest.{Digest}
use Rattle.lake_values.specs.declared.entry.Change.{Change}
use Rattle.byte_map.proofs.ByteMapLemmas.{get_inserted}
use Rattle.pair_format.specs.declared.key.OwnedKey.{OwnedKey}
use Rattle.pair_format.specs.declared.key.OwnedKey.TheVariants as key
use Rattle.pair_format.specs.declared.stored.Stored.{Stored}
use Rattle.pair_format.specs.declared.stored.Stored.TheVariants as stored
use Rattle.pair_format.specs.PairSpelling.{IsSpelledStored, key_of}
use Rattle.core_state.specs.BranchStates.{BranchStateValue}
use Rattle.core_state.specs.RepositoryStates.{RepositoryStateValue}
use Rattle.core_state.specs.LakeStates.{LakeStateValue}
use Rattle.core_pairs.proofs.PlaceLemmas.{decide, found, get_other}
use Rattle.core_pairs.proofs.ThingLemmas.{HasChange, IsRecord, IsThere, Makes, ThingOf, closed, opened}

-- changes of a branch are those that one of its name had, where it was there
pub record HasChangesOf (was : Option BranchStateValue) (b : BranchStateValue) : Type 0 where
  pub from : (token : ℕ) (path : List ℕ) (change : Change) → HasChange token path change b → IsSomeAnd was (HasChange token path change)
  pub into : (token : ℕ) (path : List ℕ) (change : Change) → IsSomeAnd was (HasChange token path change) → HasChange token path change b

module _ (l : LakeStateValue) (q : List ℕ) (r : RepositoryStateValue) (name : List ℕ) (b : BranchStateValue) where
  abbrev pub with_branch : RepositoryStateValue
  with_branch = record r { branches = insert r.branches name b }

  abbrev pub branch_thing : Stored
  branch_thing = stored.Branch q name b.version b.head b.staging b.sealed

  abbrev branch_key : OwnedKey
  branch_key = key.Branch q name

  same_thing : (repo branch : List ℕ) (version : ℕ) (head : Digest) (staging : ℕ) (sealed : List ℕ) → repo ≡ q → branch ≡ name
      → IsRecord version head staging sealed b → Some branch_thing ≡ Some (stored.Branch repo branch version head staging sealed)
  same_thing repo branch version head staging sealed in_it named (a, (c, (d, e))) = cc

  module _ (changes : HasChangesOf (get r.branches name) b) where
    new_branch : (repo branch : List ℕ) (version : ℕ) (head : Digest) (staging : ℕ) (sealed : List ℕ) → repo ≡ q
        → IsThere (get (insert r.branches name b) branch) (IsRecord version head staging sealed)
        → (Some branch_thing ≡ Some (stored.Branch repo branch version head staging sealed))
        ⊎ (ThingOf q r (stored.Branch repo branch version head staging sealed) × (key.Branch repo branch ≡ branch_key → ⊥))
    new_branch repo branch version head staging sealed same there = by (found r.branches name b branch there.one there.is)
      where
        by : ((branch ≡ name) × (b ≡ there.one)) ⊎ ((branch ≡ name → ⊥) × (get r.branches branch ≡ Some there.one))
            → (Some branch_thing ≡ Some (stored.Branch repo branch version head staging sealed))
            ⊎ (ThingOf q r (stored.Branch repo branch version head staging sealed) × (key.Branch repo branch ≡ branch_key → ⊥))
        by (inl (named, one)) =
            inl (same_thing repo branch version head staging sealed same named (subst (IsRecord version head staging sealed) (sym one) there.holds))
        by (inr (apart, at)) = inr ((same, closed (get r.branches branch) (IsRecord version head staging sealed) there.one at there.holds), λ e. apart cc)

    new_change : (token : ℕ) (path : List ℕ) (change : Change) (branch : List ℕ) → IsThere (get (insert r.branches name b) branch) (HasChange token path change)
        → ThingOf q r (stored.Staged token path change)
    new_change token path change branch there = by (found r.branches name b branch there.one there.is)
      where
        by : ((branch ≡ name) × (b ≡ there.one)) ⊎ ((branch ≡ name → ⊥) × (get r.branches branch ≡ Some there.one))
            → ThingOf q r (stored.Staged token path change)
        by (inl (named, one)) = (name, changes.from token path change (subst (HasChange token path change) (sym one) there.holds))
        by (inr (apart, at)) = (branch, closed (get r.branches branch) (HasChange token path change) there.one at there.holds)

    either_branch : (s : Stored) → ThingOf q with_branch s → (Some branch_thing ≡ Some s) ⊎ (ThingOf q r s × (key_of s ≡ branch_key → ⊥))
    either_branch (stored.Branch repo branch version head staging sealed) (same, h) =
        new_branch repo branch version head staging sealed same (opened (get (insert r.branches name b) branch) (IsRecord version head staging sealed) h)
    either_branch (stored.Staged token path change) (branch, h) =
        inr (new_change token path change branch (opened (get (insert r.branches name b) branch) (HasChange token path change) h), λ e. cc)
    either_branch s h = inr (h, λ e. cc)

    old_branch : (repo branch : List ℕ) (Q : BranchStateValue → Type 0) → (branch ≡ name → ⊥) → IsSomeAnd (get r.branches branch) Q
        → IsSomeAnd (get (insert r.branches name b) branch) Q
    old_branch repo branch Q apart h = subst (λ o. IsSomeAnd o Q) (sym (get_other r.branches name b branch apart)) h

    old_change : (token : ℕ) (path : List ℕ) (change : Change) (branch : List ℕ) → IsSomeAnd (get r.branches branch) (HasChange token path change)
        → ThingOf q with_branch (stored.Staged token path change)
    old_change token path change branch h = by (decide branch name)
      where
        by : (branch ≡ name) ⊎ (branch ≡ name → ⊥) → ThingOf q with_branch (stored.Staged token path change)
        by (inl named) = (
          name,
          closed (get (insert r.branches name b) name) (HasChange token path change) b (get_inserted r.branches name b)
              (changes.into token path change (subst (λ n. IsSomeAnd (get r.branches n) (HasChange token path change)) named h)),
        )
        by (inr apart) = (branch, old_branch q branch (HasChange token path change) apart h)

    stays_branch : (s : Stored) → ThingOf q r s → (key_of s ≡ branch_key → ⊥) → ThingOf q with_branch s
    stays_branch (stored.Branch repo branch version head staging sealed) (same, h) apart =
        (same, old_branch repo branch (IsRecord version head staging sealed) (λ named. apart cc) h)
    stays_branch (stored.Staged token path change) (branch, h) apart = old_change token path change branch h
    stays_branch s h apart = h

    elsewhere_branch : (p : List ℕ) (x : RepositoryStateValue) (s : Stored) → (p ≡ q → ⊥) → get l.repositories p ≡ Some x → ThingOf p x s
        → key_of s ≡ branch_key → ⊥
    elsewhere_branch p x (stored.Branch repo branch version head staging sealed) ne at (same, h) e = ne cc
    elsewhere_branch p x s ne at h e = cc

    -- the put of a branch that is within limits
    pub makes_branch : IsSpelledStored branch_thing → Makes l q (Some r) with_branch branch_key (Some branch_thing)
    makes_branch spelled = record {
      within = spelled.named;
      new = λ s put.
          let same : branch_thing ≡ s = cc in
          subst (λ s. (key_of s ≡ branch_key) × (IsSpelledStored s × ThingOf q with_branch s)) same (
            refl,
            (
              spelled,
              (
                refl,
                closed (get (insert r.branches name b) name) (IsRecord b.version b.head b.staging b.sealed) b
                    (get_inserted r.branches name b) (refl, (refl, (refl, refl))),
              ),
            ),
          );
      either = either_branch;
      stays = stays_branch;
      elsewhere = elsewhere_branch;
      gone = λ number e. cc;
      counts = λ e. cc;
    }
