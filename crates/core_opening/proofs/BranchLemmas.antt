-- Branches join a lake that has its repositories.
use Rattle.std.proofs.Common.{◌≡◌, ◌⊎◌, inl, inr, ℕ, Bool, true, false, List, ◌∷◌, Option, Some, None, IsSomeAnd, refl, sym, ap, subst, ◌∙◌}
use Rattle.std.specs.Ordering.{nat_cmp}
use Rattle.std.specs.FinMap.{empty, get, insert}
use Rattle.lake_base.specs.Maps.{ByteMap}
use Rattle.lake_base.specs.declared.digest.Digest.{Digest}
use Rattle.lake_values.specs.KeyMap.{ChangesValue}
use Rattle.lake_values.specs.declared.entry.Change.{Change}
use Rattle.lake_format.specs.declared.cut.Cut.{Cut}
use Rattle.branch_record.specs.Tokens.{TokenMap, changes_under}
use Rattle.branch_record.proofs.TokensLemmas.{under_empty}
use Rattle.byte_map.proofs.ByteMapLemmas.{get_empty}
use Rattle.pair_format.specs.declared.key.OwnedKey.TheVariants as key
use Rattle.pair_format.specs.declared.stored.Stored.{Stored}
use Rattle.pair_format.specs.declared.stored.Stored.TheVariants as stored
use Rattle.pair_format.specs.PairSpelling.{key_of}
use Rattle.pair_trees.specs.Things.{HasKey, IsThere, Things}
use Rattle.core_state.specs.BranchStates.{BranchStateValue}
use Rattle.core_state.specs.RepositoryStates.{RepositoryStateValue}
use Rattle.core_state.specs.LakeStates.{LakeStateValue}
use Rattle.core_filling.specs.Filling.{bare_branch}
use Rattle.core_pairs.specs.LakePairs.{StandsIn}
use Rattle.core_pairs.proofs.BranchPutLemmas.{HasChangesOf, makes_branch, with_branch}
use Rattle.core_pairs.proofs.CountsLemmas.{changed_is}
use Rattle.core_pairs.proofs.ThingLemmas.{HasChange, IsRecord, IsRepository, IsThere as IsOpened, branch_closed, opened, with_all, with_one}
use Rattle.opening_parts.specs.Filled.{branched_lake, counted_lake}
use Rattle.opening_parts.specs.Fillings.{from_last, with_base, with_branch_of}
use Rattle.opening_parts.proofs.PlainLemmas.{each_put}
use Rattle.core_opening.proofs.BaseLemmas.{Bases, first_thing, is_base, shows_bases}
use Rattle.core_opening.proofs.ShowsLemmas.{And, IsFresh, Shows, apart_of, run, shows_more}
use Rattle.core_opening.proofs.TiesLemmas.{AreReadable, tie_of}

abbrev pub is_branch : Stored → Bool
is_branch (stored.Branch repo branch version head staging sealed) = true
is_branch _ = false

-- no branch of a lake has changes
abbrev pub AreBare : LakeStateValue → Type 0
AreBare l = (repo : List ℕ) (r : RepositoryStateValue) (branch : List ℕ) (b : BranchStateValue) → get l.repositories repo ≡ Some r
    → get r.branches branch ≡ Some b → b.tokens ≡ empty

-- a lake has a repository
pub record HasIt (l : LakeStateValue) (repo : List ℕ) : Type 0 where
  pub r : RepositoryStateValue
  pub in_lake : get l.repositories repo ≡ Some r

module _ (cut : Cut) (things : Things) (are : AreReadable cut things) (counts : ℕ × ℕ × ℕ) where
  -- the repositories and the numbers that are gone stand, and the counts
  abbrev pub Base : Stored → Type 0
  Base = Bases things are.limits (apart_of things are.one) cut counts

  -- a repository that is there stands
  pub repository_in : (E : Stored → Type 0) (l : LakeStateValue) → Shows l E → ((s : Stored) → Base s → E s) → (repo : List ℕ)
      → HasKey things (key.Repository repo) → HasIt l repo
  repository_in E l shows keeps repo has = by has.thing has.there has.under
    where
      by : (s : Stored) → IsThere things s → key_of s ≡ key.Repository repo → HasIt l repo
      by (stored.Repository home created default_branch settings) there under =
          let here = opened (get l.repositories home) (IsRepository created default_branch settings)
          (shows.stands (stored.Repository home created default_branch settings)
          (keeps (stored.Repository home created default_branch settings) (inl (refl, there)))) in
          let same : home ≡ repo = cc in
          record { r = here.one; in_lake = ap (get l.repositories) (sym same) ∙ here.is }
      by (stored.Branch home branch version head staging sealed) there under = absurd cc
      by (stored.Tag home tag commit) there under = absurd cc
      by (stored.Commit home id expired commit) there under = absurd cc
      by (stored.MetaRange name bytes) there under = absurd cc
      by (stored.Range name bytes) there under = absurd cc
      by (stored.Staged token path change) there under = absurd cc
      by (stored.Note home name text) there under = absurd cc
      by (stored.Gone number) there under = absurd cc
      by (stored.Counts number version token) there under = absurd cc

  no_branch : (repo branch : List ℕ) (version : ℕ) (head : Digest) (staging : ℕ) (sealed : List ℕ)
      → Base (stored.Branch repo branch version head staging sealed) → ⊥
  no_branch repo branch version head staging sealed (inl (is, has)) = cc
  no_branch repo branch version head staging sealed (inr same) = cc

  abbrev based : LakeStateValue
  based = from_last with_base things (counted_lake cut counts)

  shows_based : Shows based Base
  shows_based = shows_bases things are.limits (apart_of things are.one) cut counts

  bare_first : AreBare based
  bare_first repo r branch b in_lake in_repository =
      absurd (no_branch repo branch b.version b.head b.staging b.sealed
      (shows_based.only (stored.Branch repo branch b.version b.head b.staging b.sealed)
      (branch_closed based repo branch (IsRecord b.version b.head b.staging b.sealed) r b in_lake in_repository (refl, (refl, (refl, refl))))))

  skips : (x : Stored) (l : LakeStateValue) → is_branch x ≡ false → with_branch_of (Some x) l ≡ l
  skips (stored.Branch repo branch version head staging sealed) l e = absurd cc
  skips x l e = refl

  -- no branch of this name is there yet
  none_of : (E : Stored → Type 0) (l : LakeStateValue) → Shows l E → (repo branch : List ℕ) → IsFresh E (key.Branch repo branch) → (h : HasIt l repo)
      → get h.r.branches branch ≡ None
  none_of E l shows repo branch fresh h = by (get h.r.branches branch) refl
    where
      by : (o : Option BranchStateValue) → get h.r.branches branch ≡ o → get h.r.branches branch ≡ None
      by None e = e
      by (Some b) e =
          absurd (fresh (stored.Branch repo branch b.version b.head b.staging b.sealed)
          (shows.only (stored.Branch repo branch b.version b.head b.staging b.sealed)
          (branch_closed l repo branch (IsRecord b.version b.head b.staging b.sealed) h.r b h.in_lake e (refl, (refl, (refl, refl))))) refl)

  -- it has no changes, and nothing was there that has
  no_changes : (version : ℕ) (head : Digest) (staging : ℕ) (sealed : List ℕ) (o : Option BranchStateValue) → o ≡ None
      → HasChangesOf o (bare_branch version head staging sealed)
  no_changes version head staging sealed o none = record {
    from = λ token path change has.
        let nothing = ap (λ (c : ChangesValue). get c path) (under_empty token) ∙ get_empty {X = Change} path in absurd cc;
    into = λ token path change h. absurd (subst (λ o. IsSomeAnd o (HasChange token path change)) none h);
  }

  module _ (E : Stored → Type 0) (l : LakeStateValue) (shows : Shows l E) (keeps : (s : Stored) → Base s → E s) (good : AreBare l)
      (repo branch : List ℕ) (version : ℕ) (head : Digest) (staging : ℕ) (sealed : List ℕ)
      (there : IsThere things (stored.Branch repo branch version head staging sealed)) (fresh : IsFresh E (key.Branch repo branch)) where
    abbrev b : BranchStateValue
    b = bare_branch version head staging sealed

    home : HasIt l repo
    home = repository_in E l shows keeps repo (tie_of cut things are.tied (stored.Branch repo branch version head staging sealed) there).tie.repository

    joined_is : with_branch_of (Some (stored.Branch repo branch version head staging sealed)) l ≡ with_one l repo (with_branch l repo home.r branch b)
    joined_is = ap (with_all l) (changed_is l.repositories repo (λ r. record r { branches = insert r.branches branch b }) home.r home.in_lake)

    shows_it : Shows (with_one l repo (with_branch l repo home.r branch b)) (And (stored.Branch repo branch version head staging sealed) E)
    shows_it =
        shows_more l repo (Some home.r) (with_branch l repo home.r branch b) (stored.Branch repo branch version head staging sealed) E home.in_lake
        (makes_branch l repo home.r branch b
        (no_changes version head staging sealed (get home.r.branches branch) (none_of E l shows repo branch fresh home))
        (are.limits (stored.Branch repo branch version head staging sealed) there))
        shows fresh

    still_bare : AreBare (with_one l repo (with_branch l repo home.r branch b))
    still_bare p x n y in_lake in_x =
        each_put l.repositories repo (with_branch l repo home.r branch b)
        (λ p x. (n : List ℕ) (y : BranchStateValue) → get x.branches n ≡ Some y → y.tokens ≡ empty)
        (each_put home.r.branches branch b (λ n y. y.tokens ≡ empty) refl (λ n y at. good repo home.r n y home.in_lake at))
        (λ p x at n y there. good p x n y at there) p x in_lake n y in_x

    pub joins : Shows (with_branch_of (Some (stored.Branch repo branch version head staging sealed)) l)
        (And (stored.Branch repo branch version head staging sealed) E)
        × AreBare (with_branch_of (Some (stored.Branch repo branch version head staging sealed)) l)
    joins =
        subst (λ m. Shows m (And (stored.Branch repo branch version head staging sealed) E) × AreBare m) (sym joined_is) (shows_it, still_bare)

  step : (x : Stored) (E : Stored → Type 0) (l : LakeStateValue) → IsThere things x → is_branch x ≡ true → Shows l E → ((s : Stored) → Base s → E s)
      → AreBare l → IsFresh E (key_of x) → Shows (with_branch_of (Some x) l) (And x E) × AreBare (with_branch_of (Some x) l)
  step (stored.Branch repo branch version head staging sealed) E l there is shows keeps good fresh =
      joins E l shows keeps good repo branch version head staging sealed there fresh
  step x E l there is shows keeps good fresh = absurd cc

  -- kinds of another key
  pub key_base : (s : Stored) → Base s → (is_base s ≡ true) ⊎ (first_thing cut counts ≡ s)
  key_base s (inl (is, has)) = inl is
  key_base s (inr same) = inr same

  apart : (x s : Stored) → is_branch x ≡ true → Base s → key_of s ≡ key_of x → ⊥
  apart (stored.Branch repo branch version head staging sealed) s is base e = by s (key_base s base) e
    where
      by : (s : Stored) → (is_base s ≡ true) ⊎ (first_thing cut counts ≡ s) → key_of s ≡ key.Branch repo branch → ⊥
      by (stored.Branch p n v h st se) (inl of) e = cc
      by (stored.Branch p n v h st se) (inr same) e = cc
      by s of e = cc
  apart x s is base e = cc

  -- what stands then
  abbrev pub Branched : Stored → Type 0
  Branched s = ((is_branch s ≡ true) × IsThere things s) ⊎ Base s

  pub shows_branched : Shows (branched_lake cut counts things) Branched × AreBare (branched_lake cut counts things)
  shows_branched =
      run with_branch_of is_branch Base (IsThere things) AreBare (λ l. refl) skips step apart based shows_based bare_first
      things (apart_of things are.one) (λ x has. has)
