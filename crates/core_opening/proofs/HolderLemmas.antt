-- The branch that names a token.
use Rattle.std.proofs.Common.{◌≡◌, ◌⊎◌, ◌||◌, inl, inr, ℕ, Bool, true, false, cond, List, [], ◌∷◌, ◌++◌, Option, Some, None, refl, sym, ap, subst, ◌∙◌}
use Rattle.std.specs.List.{Contains, list_any}
use Rattle.lake_values.proofs.OrderLemmas.{Contains-first, Contains-later}
use Rattle.lake_base.specs.declared.digest.Digest.{Digest}
use Rattle.branch_record.specs.Record.{is_among}
use Rattle.pair_format.specs.declared.stored.Stored.{Stored}
use Rattle.pair_format.specs.declared.stored.Stored.TheVariants as stored
use Rattle.pair_trees.specs.Tables.{names}
use Rattle.pair_trees.specs.Things.{IsThere, Things, tokens_named}
use Rattle.pair_ties.proofs.TokensLemmas.{named_any}
use Rattle.opening_parts.specs.Fillings.{Holder, from_last, holder_in, holder_with}

-- a branch that names a token is there, and is told of it
pub record IsHolder (things : Things) (token : ℕ) (told : Option Holder) : Type 0 where
  pub repo : List ℕ
  pub branch : List ℕ
  pub version : ℕ
  pub head : Digest
  pub staging : ℕ
  pub sealed : List ℕ
  pub there : IsThere things (stored.Branch repo branch version head staging sealed)
  pub names_it : is_among (staging ∷ sealed) token ≡ true
  pub told_so : told ≡ Some (repo, branch)

later : (thing : Option Stored) (things : Things) (token : ℕ) (told : Option Holder) → IsHolder things token told → IsHolder (thing ∷ things) token told
later thing things token told h = record {
  repo = h.repo;
  branch = h.branch;
  version = h.version;
  head = h.head;
  staging = h.staging;
  sealed = h.sealed;
  there = Contains-later thing (Some (stored.Branch h.repo h.branch h.version h.head h.staging h.sealed)) things h.there;
  names_it = h.names_it;
  told_so = h.told_so;
}

-- the first thing, or one behind it
module _ (token : ℕ) (things : Things) (rest : list_any (names token) things ≡ true → IsHolder things token (holder_in things token)) where
  behind : (thing : Option Stored) → names token thing ≡ false → (names token thing || list_any (names token) things) ≡ true
      → holder_with token thing (holder_in things token) ≡ holder_in things token → IsHolder (thing ∷ things) token (holder_in (thing ∷ things) token)
  behind thing free some stays =
      later thing things token (holder_in (thing ∷ things) token)
      (subst (IsHolder things token) (sym stays) (rest (sym (ap (λ b. b || list_any (names token) things) free) ∙ some)))

  at_first : (thing : Option Stored) → (names token thing || list_any (names token) things) ≡ true
      → IsHolder (thing ∷ things) token (holder_in (thing ∷ things) token)
  at_first None some = behind None refl some refl
  at_first (Some (stored.Branch repo branch version head staging sealed)) some = by (is_among (staging ∷ sealed) token) refl
    where
      by : (test : Bool) → is_among (staging ∷ sealed) token ≡ test
          → IsHolder (Some (stored.Branch repo branch version head staging sealed) ∷ things) token
          (holder_in (Some (stored.Branch repo branch version head staging sealed) ∷ things) token)
      by true e = record {
        repo = repo;
        branch = branch;
        version = version;
        head = head;
        staging = staging;
        sealed = sealed;
        there = Contains-first (Some (stored.Branch repo branch version head staging sealed)) things;
        names_it = e;
        told_so = ap (λ b. cond b (Some (repo, branch)) (holder_in things token)) e;
      }
      by false e =
          behind (Some (stored.Branch repo branch version head staging sealed)) e some
          (ap (λ b. cond b (Some (repo, branch)) (holder_in things token)) e)
  at_first (Some (stored.Repository repo created default_branch settings)) some =
      behind (Some (stored.Repository repo created default_branch settings)) refl some refl
  at_first (Some (stored.Tag repo tag commit)) some = behind (Some (stored.Tag repo tag commit)) refl some refl
  at_first (Some (stored.Commit repo id expired commit)) some = behind (Some (stored.Commit repo id expired commit)) refl some refl
  at_first (Some (stored.MetaRange name bytes)) some = behind (Some (stored.MetaRange name bytes)) refl some refl
  at_first (Some (stored.Range name bytes)) some = behind (Some (stored.Range name bytes)) refl some refl
  at_first (Some (stored.Staged other path change)) some = behind (Some (stored.Staged other path change)) refl some refl
  at_first (Some (stored.Note repo name text)) some = behind (Some (stored.Note repo name text)) refl some refl
  at_first (Some (stored.Gone number)) some = behind (Some (stored.Gone number)) refl some refl
  at_first (Some (stored.Counts number version next)) some = behind (Some (stored.Counts number version next)) refl some refl

holder_of_any : (token : ℕ) (things : Things) → list_any (names token) things ≡ true → IsHolder things token (holder_in things token)
holder_of_any token [] some = absurd cc
holder_of_any token (thing ∷ things) some = at_first token things (holder_of_any token things) thing some

-- one that is named has a holder
pub holder_of : (token : ℕ) (things : Things) → is_among (tokens_named things) token ≡ true → IsHolder things token (holder_in things token)
holder_of token things named = holder_of_any token things (sym (named_any things token) ∙ named)
