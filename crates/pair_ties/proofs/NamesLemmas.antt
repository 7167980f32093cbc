-- What is right of branches and tags.
use Rattle.std.proofs.Common.{◌≡◌, ◌↔◌, ◌<◌, ℕ, nat_lt, nat_eq, not, Bool, true, false, List, ◌∷◌, Option, Some, IfOk, IsTrue, MatchOption, Result, Ok, Err}
use Rattle.std.proofs.Common.{refl, sym, ap, subst, ◌∙◌}
use Rattle.std.specs.BTreeMap.{get}
use Rattle.std.specs.List.{AllByRecursion}
use Rattle.std.specs.Ordering.{nat_cmp}
use Rattle.std.proofs.lemmas.Bool.{ltb-true, lt-ltb, eqb-true, eq-eqb}
use Rattle.lake_base.specs.declared.digest.Digest.{Digest}
use Rattle.lake_values.specs.Commit.{CommitRecordValue}
use Rattle.branch_record.specs.Record.{AreDistinct}
use Rattle.pair_format.specs.declared.key.OwnedKey.TheVariants as key
use Rattle.pair_format.specs.declared.stored.Stored.TheVariants as stored
use Rattle.pair_trees.specs.declared.tables.Tables.{Tables}
use Rattle.pair_trees.specs.Found.{AreCounts, IsOnlyCommit}
use Rattle.pair_ties.specs.BrokenPairs.{IsExpired, IsRightBranch}
use Rattle.pair_trees.specs.Tables.{AreTablesOf}
use Rattle.pair_ties.specs.Tested.{IsFreshToken}
use Rattle.pair_trees.specs.Things.{HasKey, IsGivenNumber, IsGivenToken, IsGivenVersion, Spells, Things}
use Rattle.pair_trees.proofs.FoundLemmas.{at_some}
use Rattle.pair_ties.proofs.TokensLemmas.{all_among, among_all, first_fresh, fresh_first}

-- ---- what was given out

truth : (a b : ℕ) (P : Type 0) → ((a < b) ↔ P) → IsTrue (nat_lt a b) ↔ P
truth a b P h = (λ e. h.0 (ltb-true a b e), λ p. lt-ltb a b (h.1 p))

module _ (things : Things) (o : Option (ℕ × ℕ × ℕ)) (told : MatchOption o (HasKey things key.Counts → ⊥) (AreCounts things)) (counts : ℕ × ℕ × ℕ)
    (is : o ≡ Some counts)
    (given : ℕ) where
  are : AreCounts things counts
  are = at_some _ _ o counts told is

  pub given_number : IsTrue (nat_lt given counts.0) ↔ IsGivenNumber things given
  given_number = truth given counts.0 (IsGivenNumber things given) (
    λ lt number version token there. subst (λ n. given < n) (sym (are.only number version token there).0) lt,
    λ all. all counts.0 counts.1 counts.2 are.there,
  )

  pub given_version : IsTrue (nat_lt given counts.1) ↔ IsGivenVersion things given
  given_version = truth given counts.1 (IsGivenVersion things given) (
    λ lt number version token there. subst (λ n. given < n) (sym (are.only number version token there).1) lt,
    λ all. all counts.0 counts.1 counts.2 are.there,
  )

  pub given_token : IsTrue (nat_lt given counts.2) ↔ IsGivenToken things given
  given_token = truth given counts.2 (IsGivenToken things given) (
    λ lt number version token there. subst (λ n. given < n) (sym (are.only number version token there).2) lt,
    λ all. all counts.0 counts.1 counts.2 are.there,
  )

-- where nothing is told, everything was
module _ (things : Things) (none : HasKey things key.Counts → ⊥) (given : ℕ) where
  pub all_number : IsGivenNumber things given
  all_number number version token there = absurd (none (record { thing = stored.Counts number version token; there = there; under = refl }))

  pub all_version : IsGivenVersion things given
  all_version number version token there = absurd (none (record { thing = stored.Counts number version token; there = there; under = refl }))

  pub all_token : IsGivenToken things given
  all_token number version token there = absurd (none (record { thing = stored.Counts number version token; there = there; under = refl }))

-- ---- expired commits

pub live_found : (things : Things) (repo : List ℕ) (id : Digest) (expired : Bool) (commit : CommitRecordValue) → IsOnlyCommit things repo id expired commit
    → IsTrue (not expired) ↔ (IsExpired things repo id → ⊥)
live_found things repo id true commit found =
    (λ e. absurd cc, λ live. absurd (live (record { commit = commit; there = found.there })))
live_found things repo id false commit found =
    (λ e old. absurd (no (found.only true old.commit old.there).0), λ live. refl)
  where
    no : true ≡ false → ⊥
    no e = cc

pub live_absent : (things : Things) (repo : List ℕ) (id : Digest) → (HasKey things (key.Commit repo id) → ⊥)
    → IsTrue true ↔ (IsExpired things repo id → ⊥)
live_absent things repo id absent = (
  λ e old. absent (record { thing = stored.Commit repo id true old.commit; there = old.there; under = refl }),
  λ live. refl,
)

-- ---- tokens

-- the branch at a place is the first that names a token
pub first_here : (things : Things) (tables : Tables) (at token first : ℕ) → IsGivenToken things token → get nat_cmp tables.tokens token ≡ Some first
    → IsTrue (nat_eq first at) ↔ IsFreshToken things tables at token
first_here things tables at token first given is = (
  λ e. record { given = given; first = is ∙ ap (λ n. Some n) (eqb-true first at e) },
  λ fresh. eq-eqb first at (inside (sym is ∙ fresh.first)),
)
  where
    inside : {a b : ℕ} → Some a ≡ Some b → a ≡ b
    inside e = cc

-- ---- branches

module _ (things : Things) (tables : Tables) (are : AreTablesOf things tables) (at : ℕ) (repo branch : List ℕ) (version : ℕ) (head : Digest) (staging : ℕ)
    (sealed : List ℕ) (here : Spells things at (stored.Branch repo branch version head staging sealed)) where
  is_branch : IsGivenVersion things version → AllByRecursion (IsFreshToken things tables at) (staging ∷ sealed) → AreDistinct (staging ∷ sealed)
      → (IsExpired things repo head → ⊥) → IsRightBranch things at repo version head (staging ∷ sealed)
  is_branch given fresh distinct live = record {
    live = live;
    given = given;
    tokens_given = λ token among. (all_among (IsFreshToken things tables at) (staging ∷ sealed) fresh token among).given;
    distinct = distinct;
    fresh = λ token among. first_fresh things tables are at (stored.Branch repo branch version head staging sealed) here token
        (all_among (IsFreshToken things tables at) (staging ∷ sealed) fresh token among).first;
  }

  tokens_fresh : IsRightBranch things at repo version head (staging ∷ sealed) → AllByRecursion (IsFreshToken things tables at) (staging ∷ sealed)
  tokens_fresh right = among_all (IsFreshToken things tables at) (staging ∷ sealed) (λ token among. record {
    given = right.tokens_given token among;
    first = fresh_first things tables are at (stored.Branch repo branch version head staging sealed) here token among (right.fresh token among);
  })

-- ---- branches whose head isn't expired

pub right_branch : {E : Type 0} (things : Things) (tables : Tables) (told : AreTablesOf things tables) (at : ℕ) (repo : List ℕ) (version : ℕ) (head : Digest)
    (staging : ℕ) (sealed : List ℕ) → (branch : List ℕ) × Spells things at (stored.Branch repo branch version head staging sealed)
    → IsGivenVersion things version → AllByRecursion (IsFreshToken things tables at) (staging ∷ sealed) → AreDistinct (staging ∷ sealed) → (r : Result Bool E)
    → IfOk r (λ live. IsTrue live ↔ (IsExpired things repo head → ⊥))
    → IfOk r (λ right. IsTrue right ↔ IsRightBranch things at repo version head (staging ∷ sealed))
right_branch things tables told at repo version head staging sealed here given fresh distinct (Ok live) h = (
  λ e. is_branch things tables told at repo here.0 version head staging sealed here.1 given fresh distinct (h.0 e),
  λ right. h.1 right.live,
)
right_branch things tables told at repo version head staging sealed here given fresh distinct (Err fault) h = tt

pub stale_branch : (things : Things) (tables : Tables) (told : AreTablesOf things tables) (at : ℕ) (repo : List ℕ) (version : ℕ) (head : Digest) (staging : ℕ)
    (sealed : List ℕ) → (branch : List ℕ) × Spells things at (stored.Branch repo branch version head staging sealed)
    → (AllByRecursion (IsFreshToken things tables at) (staging ∷ sealed) → ⊥) → IsRightBranch things at repo version head (staging ∷ sealed) → ⊥
stale_branch things tables told at repo version head staging sealed here stale right =
    stale (tokens_fresh things tables told at repo here.0 version head staging sealed here.1 right)
