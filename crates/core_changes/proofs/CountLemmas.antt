-- The versions of a lake, counted over its history.
use Rattle.std.proofs.Common.{◌≡◌, ℕ, Bool, true, false, cond, List, refl, sym, ap, ◌∙◌}
use Rattle.std.specs.Prelude.{Option, Some, None, IsSome, option_and_then}
use Rattle.std.specs.Option.{option_map_or, unwrap_or}
use Rattle.std.specs.Str.{bytes_eq}
use Rattle.std.specs.Cmp.Lexicographic.{same_text}
use Rattle.std.specs.FinMap.{empty, get, insert, remove}
use Rattle.lake_base.specs.Maps.{ByteMap}
use Rattle.byte_map.proofs.ByteMapLemmas.{get_empty, get_insert}
use Rattle.lake_values.specs.declared.entry.Change.{Change}
use Rattle.lake_model.specs.Parts.{changed_at}
use Rattle.lake_model.specs.Versions.{VersionsGiven, branch_version, settings_version, with_branch_version, with_settings_version}
use Rattle.core_state.specs.BranchStates.{BranchStateValue}
use Rattle.core_state.specs.RepositoryStates.{RepositoryStateValue}
use Rattle.core_state.specs.LakeStates.{LakeStateValue}
use Rattle.core_state.specs.Counts.{HasVersions}
use Rattle.core_changes.specs.declared.branch.BranchChange.TheVariants.{Stage}
use Rattle.core_changes.specs.BranchChanges.{branch_after}
use Rattle.core_changes.specs.LakeChanges.{in_branch, with_entry, without_ticket}
use Rattle.core_changes.proofs.ChangedLemmas.{all_changed, all_inserted, all_left, none_changed, same_there}

-- ---- the versions given, after one more

-- the version of a branch among those of its repository, 0 where there are none
abbrev version_in : List ℕ → Option (ByteMap ℕ) → ℕ
version_in branch o = unwrap_or (option_and_then (λ given. get given branch) o) 0

none_in : (branch : List ℕ) (o : Option (ByteMap ℕ)) → get (unwrap_or o empty) branch ≡ option_and_then (λ given. get given branch) o
none_in branch None = get_empty branch
none_in branch (Some given) = refl

or_zero : (test : Bool) (next : ℕ) (o : Option ℕ) → unwrap_or (cond test (Some next) o) 0 ≡ cond test next (unwrap_or o 0)
or_zero true next o = refl
or_zero false next o = refl

module _ (given : VersionsGiven) (repo name q : List ℕ) where
  -- those of the branches of the repository
  abbrev versions_there : ByteMap ℕ
  versions_there = unwrap_or (get given.branches repo) empty

  found : (test : Bool) → bytes_eq q repo ≡ test
      → get (with_branch_version repo name given).branches q ≡ cond test (Some (insert versions_there name given.next)) (get given.branches q)
  found test is =
      get_insert given.branches repo (insert versions_there name given.next) q
      ∙ ap (λ b. cond b (Some (insert versions_there name given.next)) (get given.branches q)) is

  found_in : (branch : List ℕ) (test : Bool) → bytes_eq branch name ≡ test
      → unwrap_or (get (insert versions_there name given.next) branch) 0 ≡ cond test given.next (unwrap_or (get versions_there branch) 0)
  found_in branch test is =
      ap (λ o. unwrap_or o 0) (get_insert versions_there name given.next branch ∙ ap (λ b. cond b (Some given.next) (get versions_there branch)) is)
      ∙ or_zero test given.next (get versions_there branch)

  -- that of a branch of another repository
  pub version_elsewhere : (branch : List ℕ) → bytes_eq q repo ≡ false
      → branch_version (with_branch_version repo name given) q branch ≡ branch_version given q branch
  version_elsewhere branch apart = ap (version_in branch) (found false apart)

  -- that of another branch
  version_beside : (branch : List ℕ) → bytes_eq q repo ≡ true → bytes_eq branch name ≡ false
      → branch_version (with_branch_version repo name given) q branch ≡ branch_version given q branch
  version_beside branch here apart =
      ap (version_in branch) (found true here) ∙ found_in branch false apart ∙ ap (λ o. unwrap_or o 0) (none_in branch (get given.branches repo))
      ∙ ap (λ p. version_in branch (get given.branches p)) (sym (same_text q repo (sym here)))

  -- that of the branch itself
  version_here : (branch : List ℕ) → bytes_eq q repo ≡ true → bytes_eq branch name ≡ true
      → branch_version (with_branch_version repo name given) q branch ≡ given.next
  version_here branch here tie = ap (version_in branch) (found true here) ∙ found_in branch true tie

-- that of settings
settings_by : (given : VersionsGiven) (repo q : List ℕ) (test : Bool) → bytes_eq q repo ≡ test
    → settings_version (with_settings_version repo given) q ≡ cond test given.next (settings_version given q)
settings_by given repo q test is =
    ap (λ o. unwrap_or o 0) (get_insert given.settings repo given.next q ∙ ap (λ b. cond b (Some given.next) (get given.settings q)) is)
    ∙ or_zero test given.next (get given.settings q)

-- ---- the versions that repositories have

-- a repository has these
pub record HasVersionsIn (of_branch : List ℕ → ℕ) (of_settings : ℕ) (r : RepositoryStateValue) : Type 0 where
  pub branches : (name : List ℕ) (b : BranchStateValue) → get r.branches name ≡ Some b → of_branch name ≡ b.version
  pub settings : of_settings ≡ r.settings

-- each repository has these, and settings of one that isn't there had none
pub record AreVersionsOf (of_branch : List ℕ → List ℕ → ℕ) (of_settings : List ℕ → ℕ) (repositories : ByteMap RepositoryStateValue) : Type 0 where
  pub each : (repo : List ℕ) (r : RepositoryStateValue) → get repositories repo ≡ Some r → HasVersionsIn (of_branch repo) (of_settings repo) r
  pub unset : (repo : List ℕ) → get repositories repo ≡ None → of_settings repo ≡ 0

-- those of a lake
pub versions_of : (given : VersionsGiven) (l : LakeStateValue) → HasVersions given l
    → AreVersionsOf (branch_version given) (settings_version given) l.repositories
versions_of given l has = record {
  each = λ repo r is. record { branches = λ name b there. has.branches repo r name b is there; settings = has.settings repo r is };
  unset = has.unset;
}

-- and the other way round
pub lake_versions : (given : VersionsGiven) (l : LakeStateValue) → given.next ≡ l.next_version → given.references ≡ l.references
    → AreVersionsOf (branch_version given) (settings_version given) l.repositories → HasVersions given l
lake_versions given l next references are = record {
  next = next;
  references = references;
  branches = λ repo r name b is there. (are.each repo r is).branches name b there;
  settings = λ repo r is. (are.each repo r is).settings;
  unset = are.unset;
}

module _ (given : VersionsGiven) (repositories : ByteMap RepositoryStateValue) (repo : List ℕ) (change : RepositoryStateValue → RepositoryStateValue)
    (are : AreVersionsOf (branch_version given) (settings_version given) repositories) where
  -- a repository is changed, and its versions stay
  pub versions_stay : ((of_branch : List ℕ → ℕ) (of_settings : ℕ) (r : RepositoryStateValue) → HasVersionsIn of_branch of_settings r
      → HasVersionsIn of_branch of_settings (change r))
      → AreVersionsOf (branch_version given) (settings_version given) (changed_at repo change repositories)
  versions_stay keeps = record {
    each = all_changed (λ q r. HasVersionsIn (branch_version given q) (settings_version given q) r) repositories repo change
        (λ q r tie is. keeps (branch_version given q) (settings_version given q) r (are.each q r is)) (λ q r apart is. are.each q r is);
    unset = λ q none. are.unset q (none_changed repositories repo change q none);
  }

  -- a branch of it is given the next version
  pub versions_rise : (name : List ℕ)
      → ((q : List ℕ) (r : RepositoryStateValue) → bytes_eq q repo ≡ true → HasVersionsIn (branch_version given q) (settings_version given q) r
      → HasVersionsIn (branch_version (with_branch_version repo name given) q) (settings_version given q) (change r))
      → AreVersionsOf (branch_version (with_branch_version repo name given)) (settings_version given) (changed_at repo change repositories)
  versions_rise name rises = record {
    each = all_changed (λ q r. HasVersionsIn (branch_version (with_branch_version repo name given) q) (settings_version given q) r) repositories repo change
        (λ q r tie is. rises q r tie (are.each q r is))
        (λ q r apart is. record {
          branches = λ branch b there. version_elsewhere given repo name q branch apart ∙ (are.each q r is).branches branch b there;
          settings = (are.each q r is).settings;
        });
    unset = λ q none. are.unset q (none_changed repositories repo change q none);
  }

  settings_unset : (q : List ℕ) (test : Bool) → bytes_eq q repo ≡ test → IsSome (get repositories repo) → get repositories q ≡ None
      → settings_version (with_settings_version repo given) q ≡ 0
  settings_unset q true tie there none = let same = same_there repositories repo q tie in absurd cc
  settings_unset q false apart there none = settings_by given repo q false apart ∙ are.unset q none

  -- its settings are given the next version
  pub settings_rise : IsSome (get repositories repo)
      → ((r : RepositoryStateValue) → given.next ≡ (change r).settings) → ((r : RepositoryStateValue) → (change r).branches ≡ r.branches)
      → AreVersionsOf (branch_version given) (settings_version (with_settings_version repo given)) (changed_at repo change repositories)
  settings_rise there next same = record {
    each = all_changed (λ q r. HasVersionsIn (branch_version given q) (settings_version (with_settings_version repo given) q) r) repositories repo change
        (λ q r tie is. record {
          branches = λ branch b stands. (are.each q r is).branches branch b (ap (λ map. get map branch) (sym (same r)) ∙ stands);
          settings = settings_by given repo q true tie ∙ next r;
        })
        (λ q r apart is. record {
          branches = (are.each q r is).branches;
          settings = settings_by given repo q false apart ∙ (are.each q r is).settings;
        });
    unset = λ q none. settings_unset q (bytes_eq q repo) refl there (none_changed repositories repo change q none);
  }

-- ---- what is done to the branches of a repository
module _ (of_branch : List ℕ → ℕ) (of_settings : ℕ) (r : RepositoryStateValue) (has : HasVersionsIn of_branch of_settings r) (name : List ℕ) where
  -- a branch is changed, and its version stays
  branch_stays : (change : BranchStateValue → BranchStateValue) → ((b : BranchStateValue) → b.version ≡ (change b).version)
      → HasVersionsIn of_branch of_settings (record r { branches = changed_at name change r.branches })
  branch_stays change same = record {
    branches = all_changed (λ q b. of_branch q ≡ b.version) r.branches name change
        (λ q b tie is. has.branches q b is ∙ same b) (λ q b apart is. has.branches q b is);
    settings = has.settings;
  }

  -- a branch goes
  pub branch_goes : HasVersionsIn of_branch of_settings (record r { branches = remove r.branches name })
  branch_goes = record { branches = all_left (λ q b. of_branch q ≡ b.version) r.branches name has.branches; settings = has.settings }

module _ (given : VersionsGiven) (repo name q : List ℕ) (of_settings : ℕ) (r : RepositoryStateValue) (tie : bytes_eq q repo ≡ true)
    (has : HasVersionsIn (branch_version given q) of_settings r) where
  -- a branch is given the next version
  branch_rises : (change : BranchStateValue → BranchStateValue) → ((b : BranchStateValue) → given.next ≡ (change b).version)
      → HasVersionsIn (branch_version (with_branch_version repo name given) q) of_settings (record r { branches = changed_at name change r.branches })
  branch_rises change next = record {
    branches = all_changed (λ n b. branch_version (with_branch_version repo name given) q n ≡ b.version) r.branches name change
        (λ n b same is. version_here given repo name q n tie same ∙ next b)
        (λ n b apart is. version_beside given repo name q n tie apart ∙ has.branches n b is);
    settings = has.settings;
  }

  -- a branch is made, with the next version
  pub branch_begins : (b : BranchStateValue) → given.next ≡ b.version
      → HasVersionsIn (branch_version (with_branch_version repo name given) q) of_settings (record r { branches = insert r.branches name b })
  branch_begins b next = record {
    branches = all_inserted (λ n x. branch_version (with_branch_version repo name given) q n ≡ x.version) r.branches name b
        (λ n same. version_here given repo name q n tie same ∙ next)
        (λ n x apart is. version_beside given repo name q n tie apart ∙ has.branches n x is);
    settings = has.settings;
  }

-- ---- what operations do to a lake

-- branches of a repository are changed, and their versions stay
lake_stays : (given : VersionsGiven) (l : LakeStateValue) (repo name : List ℕ) (change : BranchStateValue → BranchStateValue)
    → ((b : BranchStateValue) → b.version ≡ (change b).version)
    → HasVersions given l → AreVersionsOf (branch_version given) (settings_version given) (in_branch repo name change l).repositories
lake_stays given l repo name change same has =
    versions_stay given l.repositories repo (λ r. record r { branches = changed_at name change r.branches }) (versions_of given l has)
    (λ of_branch of_settings r is. branch_stays of_branch of_settings r is name change same)

-- a branch is given the next version
pub lake_rises : (given : VersionsGiven) (l : LakeStateValue) (repo name : List ℕ) (change : BranchStateValue → BranchStateValue)
    → ((b : BranchStateValue) → l.next_version ≡ (change b).version)
    → HasVersions given l
    → AreVersionsOf (branch_version (with_branch_version repo name given)) (settings_version given) (in_branch repo name change l).repositories
lake_rises given l repo name change next has =
    versions_rise given l.repositories repo (λ r. record r { branches = changed_at name change r.branches }) (versions_of given l has) name
    (λ q r tie is. branch_rises given repo name q (settings_version given q) r tie is change (λ b. has.next ∙ next b))

-- a change is staged
pub stage_stays : (given : VersionsGiven) (l : LakeStateValue) (repo name path : List ℕ) (change : Change) → HasVersions given l
    → HasVersions given (with_entry (in_branch repo name (branch_after (Stage path change)) l))
stage_stays given l repo name path change has = lake_versions _ _ has.next has.references (lake_stays given l repo name _ (λ b. refl) has)

-- and the ticket of its number goes
pub ticketed_stays : (given : VersionsGiven) (l : LakeStateValue) (repo name path : List ℕ) (change : Change) (number : Option ℕ) → HasVersions given l
    → HasVersions given (with_entry (in_branch repo name (branch_after (Stage path change)) (option_map_or (λ n. without_ticket n l) number l)))
ticketed_stays given l repo name path change None has = stage_stays given l repo name path change has
ticketed_stays given l repo name path change (Some number) has =
    let same : HasVersions given (without_ticket number l) = lake_versions _ _ has.next has.references (versions_of given l has) in
    stage_stays given (without_ticket number l) repo name path change same
