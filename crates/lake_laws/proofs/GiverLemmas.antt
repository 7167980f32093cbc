-- Entries that give no version leave it, and so as many give one as tries found another.
use Rattle.std.proofs.Common.{◌≡◌, ◌≤◌, ◌+◌, ℕ, zero, suc, Bool, true, false, cond, not, ◌&&◌, List, [], ◌∷◌, ◌++◌, refl, sym, ap, ◌∙◌, arith}
use Rattle.std.specs.Prelude.{◌≢◌, ◌==◌, length}
use Rattle.std.specs.List.{filter}
use Rattle.std.specs.Str.{bytes_eq}
use Rattle.std.proofs.lemmas.Bool.{and_parts, or_parts, ne_eqb}
use Rattle.std.proofs.lemmas.List.{length-append}
use Rattle.std.proofs.lemmas.List.Elements.{All-head, All-tail, filter-append}
use Rattle.std.proofs.lemmas.Slice.Eq.{bytes_eq-Decides}
use Rattle.lake_model.specs.declared.history.EntryKind.{EntryKind}
use Rattle.lake_model.specs.declared.history.EntryKind.TheVariants.{Accepted, Faulted}
use Rattle.lake_model.specs.declared.history.HistoryEntry.{HistoryEntry}
use Rattle.lake_model.specs.declared.history.Operation.{Operation}
use Rattle.lake_model.specs.declared.history.Operation.TheVariants.{RepoCreate, BranchCreate, Reset, Seal, Commit, Merge}
use Rattle.lake_model.specs.declared.history.Operation.TheVariants.{Pick, NoteSet}
use Rattle.lake_model.specs.Versions.{VersionsGiven, branch_version, settings_version, version_holder, moves_references}
use Rattle.lake_model.specs.Versions.{count_versions, versions_after, versions_after_kind}
use Rattle.lake_laws.specs.OtherSeats.{AreOfOtherSeats}
use Rattle.lake_laws.specs.VersionGivers.{AreOthersBetween, EachFoundAnother, Try, branch_and_settings, count_of, entries_of_tries}
use Rattle.lake_laws.specs.VersionGivers.{gives_branch, gives_branch_or_settings, gives_settings, is_accepted, is_branch_named, of_other_seat}
use Rattle.lake_laws.specs.VersionGivers.{operation_gives_branch, operation_gives_settings, raises_references}
use Rattle.lake_laws.proofs.PartsLemmas.{ties, names_tied}
use Rattle.lake_laws.proofs.VersionLemmas.{branch_version_with, is_branch, is_settings, settings_version_with}

-- ---- which operations give a version

name_equals : (q name : List ℕ) → ties q name ≡ true → bytes_eq name q ≡ true
name_equals q name tie = (bytes_eq-Decides name q).1 (sym (names_tied q name tie))

branch_equals : (repo branch a b : List ℕ) → (ties repo a && ties branch b) ≡ true → is_branch_named repo branch a b ≡ true
branch_equals repo branch a b tie =
    let both = and_parts (ties repo a) (ties branch b) tie in
    λ i. name_equals repo a both.0 i && name_equals branch b both.1 i

branch_given : (repo branch : List ℕ) (operation : Operation) → is_branch (version_holder operation) repo branch ≡ true
    → operation_gives_branch repo branch operation ≡ true
branch_given repo branch (RepoCreate a b date) is = branch_equals repo branch a b is
branch_given repo branch (BranchCreate a b commit) is = branch_equals repo branch a b is
branch_given repo branch (Reset a b what) is = branch_equals repo branch a b is
branch_given repo branch (Seal a b why) is = branch_equals repo branch a b is
branch_given repo branch (Commit a b about) is = branch_equals repo branch a b is
branch_given repo branch (Merge a b source strategy about) is = branch_equals repo branch a b is
branch_given repo branch (Pick a b base source strategy about) is = branch_equals repo branch a b is
branch_given repo branch _ is = absurd cc

settings_given : (repo : List ℕ) (operation : Operation) → is_settings (version_holder operation) repo ≡ true
    → operation_gives_settings repo operation ≡ true
settings_given repo (NoteSet a name value) is = name_equals repo a is
settings_given repo _ is = absurd cc

-- what isn't given is the old one
not_given : (test gives : Bool) (new next old : ℕ) → (test ≡ true → gives ≡ true) → gives ≡ false → new ≡ cond test next old → new ≡ old
not_given true gives new next old tell none is = absurd (let all = tell refl in cc)
not_given false gives new next old tell none is = is

branch_left_by : (repo branch : List ℕ) (kind : EntryKind) (given : VersionsGiven) → is_accepted (operation_gives_branch repo branch) kind ≡ false
    → branch_version (versions_after_kind kind given) repo branch ≡ branch_version given repo branch
branch_left_by repo branch (Accepted operation) given none =
    not_given (is_branch (version_holder operation) repo branch) (operation_gives_branch repo branch operation) _ given.next _
    (branch_given repo branch operation) none (branch_version_with (version_holder operation) given repo branch)
branch_left_by repo branch (Faulted operation) given none = refl

settings_left_by : (repo : List ℕ) (kind : EntryKind) (given : VersionsGiven) → is_accepted (operation_gives_settings repo) kind ≡ false
    → settings_version (versions_after_kind kind given) repo ≡ settings_version given repo
settings_left_by repo (Accepted operation) given none =
    not_given (is_settings (version_holder operation) repo) (operation_gives_settings repo operation) _ given.next _
    (settings_given repo operation) none (settings_version_with (version_holder operation) given repo)
settings_left_by repo (Faulted operation) given none = refl

references_left_by : (kind : EntryKind) (given : VersionsGiven) → is_accepted moves_references kind ≡ false
    → (versions_after_kind kind given).references ≡ given.references
references_left_by (Accepted operation) given none =
    ap (λ test. cond test (given.references + 1) given.references) none
references_left_by (Faulted operation) given none = refl

-- an entry leaves what is read of the versions where a test fails
abbrev pub Leaves : {X : Type 0} → (VersionsGiven → X) → (HistoryEntry → Bool) → Type 0
Leaves version test = (given : VersionsGiven) (entry : HistoryEntry) → test entry ≡ false → version (versions_after given entry) ≡ version given

pub branch_left : (repo branch : List ℕ) → Leaves (λ given. branch_version given repo branch) (gives_branch repo branch)
branch_left repo branch given entry none = branch_left_by repo branch entry.kind given none

pub settings_left : (repo : List ℕ) → Leaves (λ given. settings_version given repo) (gives_settings repo)
settings_left repo given entry none = settings_left_by repo entry.kind given none

pub both_left : (repo branch : List ℕ) → Leaves (branch_and_settings repo branch) (gives_branch_or_settings repo branch)
both_left repo branch given entry none =
    let neither = or_parts (gives_branch repo branch entry) (gives_settings repo entry) none in
    λ i. (branch_left repo branch given entry neither.0 i, settings_left repo given entry neither.1 i)

pub references_left : Leaves (λ given. given.references) raises_references
references_left given entry none = references_left_by entry.kind given none

-- ---- counts

-- as many of two lists pass as of the one and of the other
pub count_append : (test : HistoryEntry → Bool) (entries more : List HistoryEntry)
    → count_of test (entries ++ more) ≡ count_of test entries + count_of test more
count_append test entries more = ap length (filter-append test entries more) ∙ length-append (filter test entries) (filter test more)

-- the versions after two lists
pub versions_append : (given : VersionsGiven) (entries more : List HistoryEntry)
    → count_versions given (entries ++ more) ≡ count_versions (count_versions given entries) more
versions_append given [] more = refl
versions_append given (entry ∷ entries) more = versions_append (versions_after given entry) entries more

-- of entries of other seats all that pass are of other seats
pub count_others : (seat : ℕ) (test : HistoryEntry → Bool) (entries : List HistoryEntry) → AreOfOtherSeats seat entries
    → count_of (of_other_seat seat test) entries ≡ count_of test entries
count_others seat test entries others = ap length (same entries others)
  where
    same : (entries : List HistoryEntry) → AreOfOtherSeats seat entries → filter (of_other_seat seat test) entries ≡ filter test entries
    same [] others = refl
    same (entry ∷ entries) others =
        let other : (entry.by.seat == seat) ≡ false = ne_eqb entry.by.seat seat (All-head (λ e. e.by.seat ≢ seat) entry entries others) in
        let rest = same entries (All-tail (λ e. e.by.seat ≢ seat) entry entries others) in
        λ i. cond (not (other i) && test entry) (entry ∷ rest i) (rest i)

-- ---- what changed was given

module _ {X : Type 0} (version : VersionsGiven → X) (test : HistoryEntry → Bool) (left : Leaves version test) where
  -- entries of which none passes leave it
  all_left : (entries : List HistoryEntry) (given : VersionsGiven) → count_of test entries ≡ 0 → version (count_versions given entries) ≡ version given
  all_left [] given none = refl
  all_left (entry ∷ entries) given none = by (test entry) refl (all_left entries (versions_after given entry)) none
    where
      by : (passes : Bool) → test entry ≡ passes
          → (count_of test entries ≡ 0 → version (count_versions (versions_after given entry) entries) ≡ version (versions_after given entry))
          → length (cond passes (entry ∷ filter test entries) (filter test entries)) ≡ 0
          → version (count_versions (versions_after given entry) entries) ≡ version given
      by true is later some = absurd cc
      by false is later none = later none ∙ left given entry is

  -- where it is another one, an entry passes
  pub one_given : (given : VersionsGiven) (entries : List HistoryEntry) → version (count_versions given entries) ≢ version given → 1 ≤ count_of test entries
  one_given given entries other = by (count_of test entries) refl
    where
      by : (n : ℕ) → count_of test entries ≡ n → 1 ≤ n
      by zero none = absurd (other (all_left entries given none))
      by (suc n) some = omega arith

  -- so it is between two positions
  pub given_between : (given : VersionsGiven) (seen history more : List HistoryEntry) → seen ≡ history ++ more
      → version (count_versions given seen) ≢ version (count_versions given history) → 1 ≤ count_of test more
  given_between given seen history more is other =
      one_given (count_versions given history) more
      (λ same. other (ap (λ entries. version (count_versions given entries)) is ∙ ap version (versions_append given history more) ∙ same))

  -- where each try found another one, as many pass
  pub tries_given : (given : VersionsGiven) (tries : List Try) → EachFoundAnother version given tries
      → length tries ≤ count_of test (entries_of_tries tries)
  tries_given given [] found = omega arith
  tries_given given (one ∷ tries) found =
      let read = count_versions given one.before in
      let here = one_given read one.between found.0 in
      let later = tries_given (count_versions read one.between) tries found.1 in
      let first = count_append test one.before (one.between ++ entries_of_tries tries) in
      let second = count_append test one.between (entries_of_tries tries) in
      omega arith

  -- and where only others' entries came between, of others
  pub tries_given_by_others : (given : VersionsGiven) (tries : List Try) (seat : ℕ) → AreOthersBetween seat tries → EachFoundAnother version given tries
      → length tries ≤ count_of (of_other_seat seat test) (entries_of_tries tries)
  tries_given_by_others given [] seat others found = omega arith
  tries_given_by_others given (one ∷ tries) seat others found =
      let counted = of_other_seat seat test in
      let read = count_versions given one.before in
      let here = one_given read one.between found.0 in
      let same = count_others seat test one.between (All-head (λ (t : Try). AreOfOtherSeats seat t.between) one tries others) in
      let later = tries_given_by_others (count_versions read one.between) tries seat
      (All-tail (λ (t : Try). AreOfOtherSeats seat t.between) one tries others) found.1 in
      let first = count_append counted one.before (one.between ++ entries_of_tries tries) in
      let second = count_append counted one.between (entries_of_tries tries) in
      omega arith
