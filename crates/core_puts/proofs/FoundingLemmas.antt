-- The first commit of a repository; and the fresh lake: what it stands for, and what holds of it.
use Rattle.std.proofs.Common.{◌≡◌, ◌<◌, ℕ, List, [], ◌∷◌, map, length, refl, sym, ap, subst, ◌∙◌, inl, inr, arith}
use Rattle.std.specs.Prelude.{None, Some, codes, is_some, option_and_then}
use Rattle.std.specs.Option.{unwrap_or}
use Rattle.std.specs.FinMap.{empty, get, get-empty, insert}
use Rattle.std.specs.Ordering.{nat_cmp}
use Rattle.lake_values.specs.Commit.{CommitRecordValue}
use Rattle.lake_format.specs.Cutting.{files}
use Rattle.lake_format.specs.Spelling.{commit_id, commit_spelling, line_of, metarange_spelling, range_spelling}
use Rattle.lake_format.specs.declared.cut.Cut.{Cut}
use Rattle.meta_range.specs.Files.{file_of}
use Rattle.meta_range.specs.Ranges.{first_file}
use Rattle.byte_map.proofs.ByteMapLemmas.{get_empty, get_inserted}
use Rattle.byte_map.proofs.ValuesLemmas.{map_values_empty}
use Rattle.lake_model.specs.State.{Repository}
use Rattle.lake_model.specs.Commits.{AreKept, IsAdmissible, StandsBefore, bare_repository, bytes_of, first_draft}
use Rattle.lake_model.specs.Naming.{IsNamed}
use Rattle.lake_model.specs.Soundness.{IsSound, fresh}
use Rattle.lake_model.specs.Versions.{branch_version, fresh_versions}
use Rattle.core_state.specs.BranchStates.{BranchStateValue, new_branch}
use Rattle.core_state.specs.Counts.{HasVersions}
use Rattle.core_state.specs.FirstStates.{first_id, first_record, founded_repository, fresh_lake}
use Rattle.core_state.specs.Index.{HasIndex}
use Rattle.core_state.proofs.FilesLemmas.{alone}
use Rattle.core_state.specs.RepositoryStates.{RepositoryStateValue, repository_of}
use Rattle.core_state.specs.LakeStates.{LakeStateValue, state_of}
use Rattle.core_changes.specs.FreshTokens.{AreTokensBelow, HasTokensBelow}
use Rattle.core_changes.specs.LakeChanges.{after_repository_create}
use Rattle.core_changes.proofs.FoundingLemmas.{IsOnly, founded_seen, no_ranges, one_file, only, seen_alone}
use Rattle.core_changes.proofs.IndexLemmas.{index_stays}
use Rattle.core_changes.proofs.TokenLemmas.{new_below}
use Rattle.core_puts.specs.FirstCommits.{IsFirstCommit}
use Rattle.core_puts.specs.FreshLakes.{IsFirst, bare_lake}
use Rattle.core_puts.specs.declared.commits.FirstCommit.{FirstCommit}

-- ---- the first commit

-- every cut gives the empty map the same files
pub empty_files : (cut other : Cut) → files cut empty ≡ files other empty
unfolding files
empty_files cut other =
    ap (λ ranges. metarange_spelling (map line_of ranges) ∷ map range_spelling ranges) (no_ranges cut ∙ sym (no_ranges other))

-- it has one
pub has_file : (cut : Cut) → 0 < length (files cut empty)
has_file cut = omega (arith, ap length (one_file cut))

-- the id of the first commit
pub first_named : (cut : Cut) (date : ℕ) → commit_id (first_record cut date) ≡ first_id cut date
unfolding first_id
first_named cut date = refl

-- its date
pub first_dated : (cut : Cut) (date : ℕ) → (first_record cut date).date ≡ date
unfolding first_record
first_dated cut date = refl

-- its bytes
pub first_bytes : (cut : Cut) (date : ℕ) → bytes_of cut empty (first_draft date) ≡ commit_spelling (first_record cut date) ∷ files cut empty
unfolding first_record
first_bytes cut date = refl

module _ (cut : Cut) (date : ℕ) (first : FirstCommit) (is : IsFirst cut date first) where
  -- it bears its date
  pub dated : first.commit.date ≡ date
  dated = ap (λ commit. commit.date) is.commit ∙ first_dated cut date

  -- it is the first commit of that date
  pub at_date : IsFirst cut first.commit.date first
  at_date = subst (λ d. IsFirst cut d first) (sym dated) is

  -- with its id and its tree
  pub is_first_commit : IsFirstCommit cut first.commit first.content.name first.tree.value
  is_first_commit = record {
    content = at_date.commit;
    name = ap (λ file. file.name) at_date.content ∙ first_named cut first.commit.date;
    files = is.tree;
  }

  -- its files are those that its bytes are
  pub first_files : map file_of (bytes_of cut empty (first_draft date)) ≡ first.content ∷ first.metarange ∷ []
  first_files =
      ap (map file_of) (first_bytes cut date) ∙ (λ i. file_of (commit_spelling (first_record cut date)) ∷ map file_of (one_file cut i))
      ∙ (λ i. sym is.content i ∷ sym is.metarange i ∷ [])

-- ---- what the fresh lake stands for

-- the fresh lake
pub fresh_seen : (cut : Cut) → state_of (fresh_lake cut) ≡ fresh cut
fresh_seen cut =
    let repo = codes "quickstart" in
    let r = founded_repository cut 0 (codes "main") 1 0 in
    let repositories = seen_alone repository_of repo r ∙ ap (insert empty repo) (founded_seen cut 0 (codes "main") 1 0) in
    λ i. record (state_of (fresh_lake cut)) { repositories = repositories i }

-- ---- what holds of the fresh lake

module _ (cut : Cut) where
  abbrev main : BranchStateValue
  main = new_branch 1 (first_id cut 0) 0

  abbrev quickstart : RepositoryStateValue
  quickstart = founded_repository cut 0 (codes "main") 1 0

  -- the one branch of the one repository
  pub only_main : (repo : List ℕ) (r : RepositoryStateValue) (branch : List ℕ) (b : BranchStateValue)
      → get (fresh_lake cut).repositories repo ≡ Some r → get r.branches branch ≡ Some b → IsOnly (codes "main") main branch b
  only_main repo r branch b here there =
      let is = (only (codes "quickstart") quickstart repo r here).value in
      only (codes "main") main branch b (ap (λ (r : RepositoryStateValue). get r.branches branch) is ∙ there)

  main_version : branch_version fresh_versions (codes "quickstart") (codes "main") ≡ 1
  main_version =
      ap (λ o. unwrap_or (option_and_then (λ given. get given (codes "main")) o) 0) (get_inserted empty (codes "quickstart") (insert empty (codes "main") 1))
      ∙ ap (λ o. unwrap_or o 0) (get_inserted empty (codes "main") 1)

  -- its versions are the fresh ones
  pub fresh_has : HasVersions fresh_versions (fresh_lake cut)
  fresh_has = record {
    next = refl;
    references = refl;
    branches = λ repo r branch b here there.
        let name = (only (codes "quickstart") quickstart repo r here).key in
        let one = only_main repo r branch b here there in
        (λ i. branch_version fresh_versions (name i) (one.key i)) ∙ main_version ∙ ap (λ (b : BranchStateValue). b.version) one.value;
    settings = λ repo r here.
        ap (λ o. unwrap_or o 0) (get_empty repo)
        ∙ ap (λ (r : RepositoryStateValue). r.settings) (only (codes "quickstart") quickstart repo r here).value;
    unset = λ repo none. ap (λ o. unwrap_or o 0) (get_empty repo);
  }

  -- every token is below the next one
  pub fresh_below : AreTokensBelow (fresh_lake cut)
  fresh_below repo r branch b here there =
      subst (HasTokensBelow 1) (only_main repo r branch b here there).value (new_below 1 (first_id cut 0) 0)

  -- nothing is kept in a lake before its first repository
  nothing_there : (repo : List ℕ) (r : Repository) → get (state_of (bare_lake cut)).repositories repo ≡ Some r → ⊥
  nothing_there repo r is =
      absurd (let none = ap (λ m. get m repo) (map_values_empty repository_of) ∙ get_empty {X = Repository} repo in cc)

  nothing_kept : (bytes : List ℕ) → AreKept (state_of (bare_lake cut)) bytes → ⊥
  nothing_kept bytes kept = nothing_there kept.repo kept.r kept.in_lake

  nothing_named : (number : ℕ) → IsNamed (state_of (bare_lake cut)) number → ⊥
  nothing_named number (inl named) = nothing_there named.name named.repository named.stands
  nothing_named number (inr ticket) = absurd (let none = get-empty {X = ℕ} nat_cmp number in cc)

  -- it is sound
  bare_sound : IsSound (state_of (bare_lake cut))
  bare_sound = record {
    repositories = λ repo r is. absurd (nothing_there repo r is);
    named = λ number named. absurd (nothing_named number named);
    gone = λ number gone. absurd (let none = get-empty {X = Unit {0}} nat_cmp number in cc);
    apart = λ number gone named. nothing_named number named;
  }

  -- and its first commit is admissible
  bare_admissible : IsAdmissible (state_of (bare_lake cut)) (bare_repository 0 (codes "main")) (first_draft 0)
  unfolding first_id first_record
  bare_admissible = record {
    live = ap is_some (get_empty {X = Unit {0}} (first_id cut 0).0);
    same_record = λ old is. absurd (let none = get_empty {X = CommitRecordValue} (first_id cut 0).0 in cc);
    same_map = λ old is. absurd (let none = get_empty {X = CommitRecordValue} (first_id cut 0).0 in cc);
    apart = λ new kept within are. absurd (nothing_kept kept are);
    files_apart = λ new kept stands. absurd (alone (first_file (files cut empty)) kept new (subst (λ all. StandsBefore all kept new) (one_file cut) stands));
  }

  -- its index
  bare_index : HasIndex (bare_lake cut)
  bare_index = record {
    commits = λ repo r id commit is there. absurd (let none = get_empty {X = RepositoryStateValue} repo in cc);
    trees = λ repo r id tree is there. absurd (let none = get_empty {X = RepositoryStateValue} repo in cc);
    files = λ repo r id bytes is there within. absurd (let none = get_empty {X = RepositoryStateValue} repo in cc);
    named = λ name bytes is. absurd (let none = get_empty {X = List ℕ} name in cc);
    kept = λ name bytes is. absurd (let none = get_empty {X = List ℕ} name in cc);
  }

  -- so the index of the fresh lake tells of just what is kept
  pub fresh_index : ((l : LakeStateValue) (repo branch : List ℕ) (date : ℕ) → HasIndex l → IsSound (state_of l) → get l.repositories repo ≡ None
      → IsAdmissible (state_of l) (bare_repository date branch) (first_draft date) → HasIndex (after_repository_create repo branch date l))
      → HasIndex (fresh_lake cut)
  fresh_index stays =
      let repo = codes "quickstart" in
      let branch = codes "main" in
      index_stays (after_repository_create repo branch 0 (bare_lake cut)) (fresh_lake cut) refl
      (stays (bare_lake cut) repo branch 0 bare_index bare_sound (get_empty repo) bare_admissible)
