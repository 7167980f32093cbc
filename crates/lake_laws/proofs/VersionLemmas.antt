-- Which versions an entry gives, and that versions never fall.
use Rattle.std.proofs.Common.{◌≡◌, ◌<◌, ◌≤◌, ◌+◌, ℕ, Bool, true, false, cond, ◌&&◌, List, refl, ap, ◌∙◌, arith, subst}
use Rattle.std.specs.Prelude.{Option, Some, None, option_and_then, codes}
use Rattle.std.specs.Option.{unwrap_or}
use Rattle.std.specs.FinMap.{empty, get, insert, get-insert, get-empty}
use Rattle.std.proofs.lemmas.Cmp.{nat_list_cmp_total}
use Rattle.lake_base.specs.Maps.{byte_order, ByteMap}
use Rattle.lake_model.specs.declared.history.EntryKind.{EntryKind}
use Rattle.lake_model.specs.declared.history.EntryKind.TheVariants.{Accepted, Faulted}
use Rattle.lake_model.specs.declared.history.HistoryEntry.{HistoryEntry}
use Rattle.lake_model.specs.declared.history.Operation.{Operation}
use Rattle.lake_model.specs.Versions.{VersionsGiven, VersionHolder, Branch, Settings, Nobody, AreBelowNext, branch_version, settings_version, version_holder}
use Rattle.lake_model.specs.Versions.{with_branch_version, with_version, versions_after_operation, versions_after_kind, versions_after, moves_references}
use Rattle.lake_model.specs.Versions.{fresh_versions}
use Rattle.lake_laws.proofs.PartsLemmas.{ties, tied_stands}

-- whether a holder is this branch
abbrev pub is_branch : VersionHolder → List ℕ → List ℕ → Bool
is_branch (Branch a b) repo branch = ties repo a && ties branch b
is_branch _ repo branch = false

-- whether a holder is the settings of this repository
abbrev pub is_settings : VersionHolder → List ℕ → Bool
is_settings (Settings a) repo = ties repo a
is_settings _ repo = false

get_or_none : (o : Option (ByteMap ℕ)) (branch : List ℕ) → get (unwrap_or o empty) branch ≡ option_and_then (λ given. get given branch) o
get_or_none None branch = get-empty byte_order branch
get_or_none (Some given) branch = refl

-- a map of maps after an insert into one of them
inserted_in : (branch b : List ℕ) (next : ℕ) (in_a in_repo : Option (ByteMap ℕ)) (test : Bool) → (test ≡ true → in_a ≡ in_repo)
    → option_and_then (λ map. get map branch) (cond test (Some (insert (unwrap_or in_a empty) b next)) in_repo)
    ≡ cond (test && ties branch b) (Some next) (option_and_then (λ map. get map branch) in_repo)
inserted_in branch b next in_a in_repo true tie =
    get-insert nat_list_cmp_total (unwrap_or in_a empty) b next branch
    ∙ ap (cond (ties branch b) (Some next)) (get_or_none in_a branch ∙ ap (option_and_then (λ map. get map branch)) (tie refl))
inserted_in branch b next in_a in_repo false tie = refl

or_zero : (test : Bool) (next : ℕ) (o : Option ℕ) → unwrap_or (cond test (Some next) o) 0 ≡ cond test next (unwrap_or o 0)
or_zero true next o = refl
or_zero false next o = refl

branch_version_given : (versions : VersionsGiven) (a b repo branch : List ℕ)
    → branch_version (with_branch_version a b versions) repo branch ≡ cond (ties repo a && ties branch b) versions.next (branch_version versions repo branch)
branch_version_given versions a b repo branch =
    let in_a = get versions.branches a in
    let in_repo = get versions.branches repo in
    ap (λ o. unwrap_or (option_and_then (λ (map : ByteMap ℕ). get map branch) o) 0)
    (get-insert nat_list_cmp_total versions.branches a (insert (unwrap_or in_a empty) b versions.next) repo)
    ∙ ap (λ o. unwrap_or o 0) (inserted_in branch b versions.next in_a in_repo (ties repo a) (tied_stands versions.branches repo a))
    ∙ or_zero (ties repo a && ties branch b) versions.next (option_and_then (λ map. get map branch) in_repo)

-- the version of a branch after one is given
pub branch_version_with : (holder : VersionHolder) (versions : VersionsGiven) (repo branch : List ℕ)
    → branch_version (with_version holder versions) repo branch ≡ cond (is_branch holder repo branch) versions.next (branch_version versions repo branch)
branch_version_with (Branch a b) versions repo branch = branch_version_given versions a b repo branch
branch_version_with (Settings a) versions repo branch = refl
branch_version_with Nobody versions repo branch = refl

-- the version of settings after one is given
pub settings_version_with : (holder : VersionHolder) (versions : VersionsGiven) (repo : List ℕ)
    → settings_version (with_version holder versions) repo ≡ cond (is_settings holder repo) versions.next (settings_version versions repo)
settings_version_with (Branch a b) versions repo = refl
settings_version_with (Settings a) versions repo =
    ap (λ o. unwrap_or o 0) (get-insert nat_list_cmp_total versions.settings a versions.next repo)
    ∙ or_zero (ties repo a) versions.next (get versions.settings repo)
settings_version_with Nobody versions repo = refl

-- a version that is below the next one, or is it
given_below : (test : Bool) (old new next : ℕ) → old < next → new ≡ cond test next old → new < next + 1
given_below true old new next below is = omega arith
given_below false old new next below is = omega arith

branch_below : (holder : VersionHolder) (versions : VersionsGiven) (repo branch : List ℕ)
    → branch_version versions repo branch < versions.next
    → branch_version (with_version holder versions) repo branch < (with_version holder versions).next
branch_below (Branch a b) versions repo branch below =
    given_below (ties repo a && ties branch b) _ _ versions.next below (branch_version_given versions a b repo branch)
branch_below (Settings a) versions repo branch below = omega arith
branch_below Nobody versions repo branch below = below

settings_below : (holder : VersionHolder) (versions : VersionsGiven) (repo : List ℕ) → settings_version versions repo < versions.next
    → settings_version (with_version holder versions) repo < (with_version holder versions).next
settings_below (Branch a b) versions repo below = omega arith
settings_below (Settings a) versions repo below =
    given_below (ties repo a) _ _ versions.next below (settings_version_with (Settings a) versions repo)
settings_below Nobody versions repo below = below

AreBelowNext-with : (holder : VersionHolder) (versions : VersionsGiven) → AreBelowNext versions
    → AreBelowNext (with_version holder versions)
AreBelowNext-with holder versions below = record {
  branches = λ repo branch. branch_below holder versions repo branch (below.branches repo branch);
  settings = λ repo. settings_below holder versions repo (below.settings repo);
}

AreBelowNext-kind : (kind : EntryKind) (versions : VersionsGiven) → AreBelowNext versions → AreBelowNext (versions_after_kind kind versions)
AreBelowNext-kind (Accepted operation) versions below =
    let given = AreBelowNext-with (version_holder operation) versions below in
    record { branches = given.branches; settings = given.settings }
AreBelowNext-kind (Faulted operation) versions below = below

-- after each entry, versions are below the next one
pub AreBelowNext-after : (versions : VersionsGiven) (entry : HistoryEntry) → AreBelowNext versions
    → AreBelowNext (versions_after versions entry)
AreBelowNext-after versions entry below = AreBelowNext-kind entry.kind versions below

-- none given yet
abbrev no_versions : VersionsGiven
no_versions = record { next = 1; branches = empty; settings = empty; references = 0 }

AreBelowNext-none : AreBelowNext no_versions
AreBelowNext-none = record {
  branches = λ repo branch.
      let none : branch_version no_versions repo branch ≡ 0 =
      ap (λ o. unwrap_or (option_and_then (λ (map : ByteMap ℕ). get map branch) o) 0) (get-empty byte_order repo) in
      omega arith;
  settings = λ repo. let none : settings_version no_versions repo ≡ 0 = ap (λ o. unwrap_or o 0) (get-empty byte_order repo) in omega arith;
}

AreBelowNext-first : (repo branch : List ℕ)
    → AreBelowNext (record { next = 2; branches = insert empty repo (insert empty branch 1); settings = empty; references = 0 })
AreBelowNext-first repo branch =
    let first_with : Option (ByteMap ℕ) → VersionsGiven =
    λ o. record { next = 2; branches = insert empty repo (insert (unwrap_or o empty) branch 1); settings = empty; references = 0 } in
    subst (λ o. AreBelowNext (first_with o)) (get-empty byte_order repo) (AreBelowNext-with (Branch repo branch) no_versions AreBelowNext-none)

-- in a fresh lake, they are
pub AreBelowNext-fresh : AreBelowNext fresh_versions
AreBelowNext-fresh = AreBelowNext-first (codes "quickstart") (codes "main")

-- ---- what tells that no version was given
given_rises : (test : Bool) (old new next : ℕ) → old < next → new ≡ cond test next old → old ≤ new
given_rises true old new next below is = omega arith
given_rises false old new next below is = omega arith

given_not : (test : Bool) (old new next : ℕ) → old < next → new ≡ cond test next old → old ≡ new → test ≡ false
given_not true old new next below is level = absurd (omega arith)
given_not false old new next below is level = refl

-- the version of a branch never falls
pub branch_version_rises : (kind : EntryKind) (given : VersionsGiven) (repo branch : List ℕ) → AreBelowNext given
    → branch_version given repo branch ≤ branch_version (versions_after_kind kind given) repo branch
branch_version_rises (Accepted operation) given repo branch below =
    given_rises (is_branch (version_holder operation) repo branch) _ _ given.next (below.branches repo branch)
    (branch_version_with (version_holder operation) given repo branch)
branch_version_rises (Faulted operation) given repo branch below = omega arith

-- where it stays, the operation gave it none
pub is_branch-not : (operation : Operation) (given : VersionsGiven) (repo branch : List ℕ) → AreBelowNext given
    → branch_version given repo branch ≡ branch_version (versions_after_operation operation given) repo branch
    → is_branch (version_holder operation) repo branch ≡ false
is_branch-not operation given repo branch below level =
    given_not (is_branch (version_holder operation) repo branch) _ _ given.next (below.branches repo branch)
    (branch_version_with (version_holder operation) given repo branch) level

-- the version of settings never falls
pub settings_version_rises : (kind : EntryKind) (given : VersionsGiven) (repo : List ℕ) → AreBelowNext given
    → settings_version given repo ≤ settings_version (versions_after_kind kind given) repo
settings_version_rises (Accepted operation) given repo below =
    given_rises (is_settings (version_holder operation) repo) _ _ given.next (below.settings repo) (settings_version_with (version_holder operation) given repo)
settings_version_rises (Faulted operation) given repo below = omega arith

-- where it stays, the operation gave it none
pub is_settings-not : (operation : Operation) (given : VersionsGiven) (repo : List ℕ) → AreBelowNext given
    → settings_version given repo ≡ settings_version (versions_after_operation operation given) repo
    → is_settings (version_holder operation) repo ≡ false
is_settings-not operation given repo below level =
    given_not (is_settings (version_holder operation) repo) _ _ given.next (below.settings repo)
    (settings_version_with (version_holder operation) given repo) level

moved_rises : (test : Bool) (old : ℕ) → old ≤ cond test (old + 1) old
moved_rises true old = omega arith
moved_rises false old = omega arith

moved_not : (test : Bool) (old : ℕ) → old ≡ cond test (old + 1) old → test ≡ false
moved_not true old level = absurd (omega arith)
moved_not false old level = refl

-- the count of references never falls
pub references_rise : (kind : EntryKind) (given : VersionsGiven) → given.references ≤ (versions_after_kind kind given).references
references_rise (Accepted operation) given = moved_rises (moves_references operation) given.references
references_rise (Faulted operation) given = omega arith

-- where it stays, the operation moved none
pub moves_references-not : (operation : Operation) (given : VersionsGiven)
    → given.references ≡ (versions_after_operation operation given).references → moves_references operation ≡ false
moves_references-not operation given level = moved_not (moves_references operation) given.references level
