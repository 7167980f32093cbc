-- The counts, the branches and the tokens of a lake that was read from tied pairs.
use Rattle.std.proofs.Common.{◌≡◌, inl, inr, ℕ, zero, suc, ◌<◌, ltb, Bool, true, false, ◌||◌, List, [], ◌∷◌, take, Some}
use Rattle.std.proofs.Common.{refl, sym, ap, ◌∙◌, arith}
use Rattle.std.specs.Prelude.{nat_eq}
use Rattle.std.specs.FinMap.{contains_key, get}
use Rattle.std.proofs.lemmas.Bool.{cases_Bool, ltb-true, ltb-false}
use Rattle.std.proofs.lemmas.List.Folds.{list_any-append}
use Rattle.lake_base.specs.Maps.{HasAscendingKeys}
use Rattle.lake_values.specs.declared.entry.Change.{Change}
use Rattle.lake_format.specs.declared.cut.Cut.{Cut}
use Rattle.branch_record.specs.Record.{is_among}
use Rattle.branch_record.specs.Tokens.{changes_under}
use Rattle.pair_format.specs.declared.pair.Pair.{Pair}
use Rattle.pair_format.specs.declared.stored.Stored.{Stored}
use Rattle.pair_format.specs.declared.stored.Stored.TheVariants as stored
use Rattle.keeper.specs.Keepers.{entries_of}
use Rattle.pair_trees.specs.Things.{IsGivenNumber, IsGivenToken, IsGivenVersion, IsThere, Spells, Things, thing_at, things_of, tokens_in, tokens_named}
use Rattle.pair_ties.specs.PairTies.{AreTied as AreTiedPairs, IsTiedBranch, IsTiedCounts, IsTiedRepository}
use Rattle.core_state.specs.BranchStates.{BranchStateValue, tokens_of}
use Rattle.core_state.specs.RepositoryStates.{RepositoryStateValue}
use Rattle.core_state.specs.LakeStates.{LakeStateValue}
use Rattle.core_standing.specs.Standing.{HasNoHistory}
use Rattle.core_standing.specs.Ties.{AreTied, IsTied}
use Rattle.core_pairs.specs.LakePairs.{AreTokensApart, StandsIn}
use Rattle.core_pairs.proofs.ThingLemmas.{HasChange, IsBranchThere, IsRecord, IsRepository, branch_closed, branch_opened, closed}
use Rattle.opening_laws.specs.ReadLakes.{IsReadFrom}
use Rattle.opening_laws.proofs.PairLemmas.{IsTiedThere, some_is, stands_there, tied_there}

-- ---- what was told before

-- what is spelled before a place stands among what is before it
named_before : (things : Things) (n k : ℕ) (s : Stored) (token : ℕ) → k < n → Spells things k s → is_among (tokens_in (Some s)) token ≡ true
    → is_among (tokens_named (take n things)) token ≡ true
named_before [] n k s token lt is among = absurd cc
named_before (thing ∷ things) zero k s token lt is among = absurd (omega (arith, lt))
named_before (thing ∷ things) (suc n) zero s token lt is among =
    list_any-append (λ named. nat_eq named token) (tokens_in thing) (tokens_named (take n things))
    ∙ ap (λ b. b || is_among (tokens_named (take n things)) token) (ap (λ t. is_among (tokens_in t) token) is ∙ among)
named_before (thing ∷ things) (suc n) (suc k) s token lt is among =
    list_any-append (λ named. nat_eq named token) (tokens_in thing) (tokens_named (take n things))
    ∙ ap (λ b. is_among (tokens_in thing) token || b) (named_before things n k s token (omega (arith, lt)) is among)
    ∙ or_true (is_among (tokens_in thing) token)
  where
    or_true : (b : Bool) → (b || true) ≡ true
    or_true true = refl
    or_true false = refl

module _ (cut : Cut) (pairs : List Pair) (l : LakeStateValue) (ascend : HasAscendingKeys (entries_of pairs)) (tied : AreTiedPairs cut (things_of pairs))
    (read : IsReadFrom cut pairs l) where
  abbrev things : Things
  things = things_of pairs

  -- what stands in the lake is tied
  pub tie_of : (s : Stored) → StandsIn l s → IsTiedThere cut things s
  tie_of s h = tied_there cut things tied s (stands_there pairs l ascend read.stand s h)

  -- ---- counts

  counts_there : IsThere things (stored.Counts l.next_number l.next_version l.next_token)
  counts_there = stands_there pairs l ascend read.stand (stored.Counts l.next_number l.next_version l.next_token) (refl, (refl, refl))

  pub counts_tie : IsTiedCounts l.next_number l.next_version l.next_token
  counts_tie = (tied_there cut things tied (stored.Counts l.next_number l.next_version l.next_token) counts_there).tie

  pub number_given : (number : ℕ) → IsGivenNumber things number → number < l.next_number
  number_given number given = given l.next_number l.next_version l.next_token counts_there

  pub version_given : (version : ℕ) → IsGivenVersion things version → version < l.next_version
  version_given version given = given l.next_number l.next_version l.next_token counts_there

  pub token_given : (token : ℕ) → IsGivenToken things token → token < l.next_token
  token_given token given = given l.next_number l.next_version l.next_token counts_there

  -- ---- repositories and branches

  module _ (repo : List ℕ) (r : RepositoryStateValue) (in_lake : get l.repositories repo ≡ Some r) where
    pub repository_stands : StandsIn l (stored.Repository repo r.created r.default_branch r.settings)
    repository_stands = closed (get l.repositories repo) (IsRepository r.created r.default_branch r.settings) r in_lake (refl, (refl, refl))

    pub repository_tie : IsTiedRepository things repo r.default_branch r.settings
    repository_tie = (tie_of (stored.Repository repo r.created r.default_branch r.settings) repository_stands).tie

    module _ (branch : List ℕ) (b : BranchStateValue) (in_it : get r.branches branch ≡ Some b) where
      pub branch_stands : StandsIn l (stored.Branch repo branch b.version b.head b.staging b.sealed)
      branch_stands = branch_closed l repo branch (IsRecord b.version b.head b.staging b.sealed) r b in_lake in_it (refl, (refl, (refl, refl)))

      pub branch_place : IsTiedThere cut things (stored.Branch repo branch b.version b.head b.staging b.sealed)
      branch_place = tie_of (stored.Branch repo branch b.version b.head b.staging b.sealed) branch_stands

      pub branch_tie : IsTiedBranch things branch_place.place repo b.version b.head (tokens_of b)
      branch_tie = branch_place.tie

      -- a change under a token of it stands in the lake
      pub change_stands : (token : ℕ) (path : List ℕ) (change : Change) → get (changes_under b.tokens token) path ≡ Some change
          → StandsIn l (stored.Staged token path change)
      change_stands token path change at = (repo, (branch, branch_closed l repo branch (HasChange token path change) r b in_lake in_it at))

      branch_tied : IsTied l.next_version l.next_token b
      branch_tied = record {
        version = version_given b.version branch_tie.given;
        tokens = λ token among. token_given token (branch_tie.tokens_given token among);
        distinct = branch_tie.distinct;
        named = λ token held. read.named repo r branch b token in_lake in_it held;
      }

  pub lake_tied : AreTied l
  lake_tied = record {
    branches = λ repo r branch b in_lake in_it. branch_tied repo r in_lake branch b in_it;
    settings = λ repo r in_lake. version_given r.settings (repository_tie repo r in_lake).given;
    some_version = counts_tie.some_version;
    numbers = counts_tie.small_number;
    versions = counts_tie.small_version;
    tokens = counts_tie.small_token;
  }

  pub no_history : HasNoHistory l
  no_history = record {
    entries = sym (ap (λ (l : LakeStateValue). l.entries) read.rest);
    references = sym (ap (λ (l : LakeStateValue). l.references) read.rest);
    tickets = sym (ap (λ (l : LakeStateValue). l.tickets) read.rest);
    stopped = sym (ap (λ (l : LakeStateValue). l.stopped) read.rest);
  }

  -- ---- tokens

  -- of two branches that name a token neither stands before the other
  not_before : (token : ℕ) (repo branch other_repo other : List ℕ)
      → (x : IsBranchThere l repo branch (λ b. is_among (tokens_of b) token ≡ true))
      → (y : IsBranchThere l other_repo other (λ b. is_among (tokens_of b) token ≡ true))
      → (branch_place repo x.r x.in_lake branch x.b x.in_it).place < (branch_place other_repo y.r y.in_lake other y.b y.in_it).place → ⊥
  not_before token repo branch other_repo other x y lt =
      let one = branch_place repo x.r x.in_lake branch x.b x.in_it in
      let two = branch_place other_repo y.r y.in_lake other y.b y.in_it in
      let told = named_before things two.place one.place (stored.Branch repo branch x.b.version x.b.head x.b.staging x.b.sealed) token lt one.spelled x.holds in
      let fresh = (branch_tie other_repo y.r y.in_lake other y.b y.in_it).fresh token y.holds in
      no (sym told ∙ fresh)
    where
      no : true ≡ false → ⊥
      no e = cc

  one_branch : (token : ℕ) (repo branch other_repo other : List ℕ)
      → (x : IsBranchThere l repo branch (λ b. is_among (tokens_of b) token ≡ true))
      → (y : IsBranchThere l other_repo other (λ b. is_among (tokens_of b) token ≡ true)) → (repo ≡ other_repo) × (branch ≡ other)
  one_branch token repo branch other_repo other x y =
      let one = branch_place repo x.r x.in_lake branch x.b x.in_it in
      let two = branch_place other_repo y.r y.in_lake other y.b y.in_it in
      elim (cases_Bool (ltb one.place two.place)) [
        | inl lt ↦ absurd (not_before token repo branch other_repo other x y (ltb-true one.place two.place lt))
        | inr ge ↦ elim (cases_Bool (ltb two.place one.place)) [
          | inl gt ↦ absurd (not_before token other_repo other repo branch y x (ltb-true two.place one.place gt))
          | inr le ↦
              let same : one.place ≡ two.place = omega (arith, ltb-false one.place two.place ge, ltb-false two.place one.place le) in
              alike (stored.Branch repo branch x.b.version x.b.head x.b.staging x.b.sealed)
              (stored.Branch other_repo other y.b.version y.b.head y.b.staging y.b.sealed) refl refl
              (some_is (sym one.spelled ∙ ap (thing_at things) same ∙ two.spelled))
        ]
      ]
    where
      alike : (s t : Stored) → s ≡ stored.Branch repo branch x.b.version x.b.head x.b.staging x.b.sealed
          → t ≡ stored.Branch other_repo other y.b.version y.b.head y.b.staging y.b.sealed → s ≡ t → (repo ≡ other_repo) × (branch ≡ other)
      alike s t is are same = (cc, cc)

  pub tokens_apart : AreTokensApart l
  tokens_apart = record {
    apart = λ token repo branch other_repo other one two.
        one_branch token repo branch other_repo other (branch_opened l repo branch (λ b. is_among (tokens_of b) token ≡ true) one)
        (branch_opened l other_repo other (λ b. is_among (tokens_of b) token ≡ true) two);
    named = λ token repo branch h.
        let b = branch_opened l repo branch (λ b. contains_key b.tokens token ≡ true) h in
        branch_closed l repo branch (λ b. is_among (tokens_of b) token ≡ true) b.r b.b b.in_lake b.in_it
        (read.named repo b.r branch b.b token b.in_lake b.in_it b.holds);
  }
