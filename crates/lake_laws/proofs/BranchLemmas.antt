-- The head and the sealed changes of a branch are the same where its version is.
use Rattle.std.proofs.Common.{◌≡◌, ℕ, Bool, true, false, cond, ◌&&◌, List, ◌++◌, refl, sym, ap, ◌∙◌}
use Rattle.std.specs.Prelude.{Option, Some, None, option_map, option_and_then}
use Rattle.std.specs.Option.{option_or}
use Rattle.std.specs.FinMap.{empty, get, insert, get-insert, get-remove, get-empty}
use Rattle.std.proofs.lemmas.Cmp.{nat_list_cmp_total}
use Rattle.lake_base.specs.Maps.{byte_order, ByteMap}
use Rattle.lake_base.specs.declared.digest.Digest.{Digest}
use Rattle.lake_values.specs.KeyMap.{ChangesValue}
use Rattle.lake_values.specs.declared.entry.Change.TheVariants.{Put}
use Rattle.lake_format.specs.declared.cut.Cut.{Cut}
use Rattle.lake_format.specs.Spelling.{commit_id}
use Rattle.lake_model.specs.declared.history.EntryKind.{EntryKind}
use Rattle.lake_model.specs.declared.history.EntryKind.TheVariants.{Accepted, Faulted}
use Rattle.lake_model.specs.declared.history.HistoryEntry.{HistoryEntry}
use Rattle.lake_model.specs.declared.history.Operation.{Operation}
use Rattle.lake_model.specs.declared.history.Operation.TheVariants.{RepoCreate, BranchCreate, BranchDelete, Stage, Copy, Reset, Seal, Commit, Merge, Pick}
use Rattle.lake_model.specs.declared.history.Operation.TheVariants.{Expire}
use Rattle.lake_model.specs.State.{Branch, Repository, State, branch_of}
use Rattle.lake_model.specs.Branches.{clean_branch}
use Rattle.lake_model.specs.Uncommitted.{with_staged, reset_branch, sealed_branch}
use Rattle.lake_model.specs.Commits.{Draft, record_of, with_head, draft_on, new_repository, first_draft, commit_draft, merge_draft, pick_draft}
use Rattle.lake_model.specs.History.{IsLegal, after_kind, replay}
use Rattle.lake_model.specs.Versions.{VersionsGiven, AreBelowNext, branch_version, version_holder, versions_after_kind, count_versions}
use Rattle.lake_laws.proofs.PartsLemmas.{ties, get_changed_elsewhere, get_inserted_elsewhere, seen_again}
use Rattle.lake_laws.proofs.OperationLemmas.{made_repository, touches, change_of, changed_by, get_after, kept_if}
use Rattle.lake_laws.proofs.KeepingLemmas.{kept_expired, kept_draft}
use Rattle.lake_laws.proofs.VersionLemmas.{is_branch, is_branch-not, branch_version_rises, AreBelowNext-after}
use Rattle.lake_laws.proofs.CountingLemmas.{Tells, same_where_level}

-- what a version of a branch tells of: its head and its sealed changes
abbrev content : Branch → Digest × ChangesValue
content b = (b.head, b.sealed)

-- those of a branch of a repository, where it is there
abbrev content_in : List ℕ → Repository → Option (Digest × ChangesValue)
content_in branch r = option_map content (get r.branches branch)

-- those of a branch of a lake
abbrev content_of : List ℕ → List ℕ → State → Option (Digest × ChangesValue)
content_of repo branch state = option_and_then (content_in branch) (get state.repositories repo)

content_of_branch : (repo branch : List ℕ) (state : State) → content_of repo branch state ≡ option_map content (branch_of state repo branch)
content_of_branch repo branch state = either (get state.repositories repo)
  where
    either : (o : Option Repository)
        → option_and_then (content_in branch) o ≡ option_map content (option_and_then (λ r. get r.branches branch) o)
    either None = refl
    either (Some r) = refl

untied : (a b : Bool) → (a && b) ≡ false → a ≡ true → b ≡ false
untied true b none tie = none
untied false b none tie = absurd cc

map_removed : {X Y : Type 0} (f : X → Y) (test : Bool) (y : Y) (o : Option X) → option_map f (cond test None o) ≡ Some y
    → option_map f o ≡ Some y
map_removed f true y o is = absurd cc
map_removed f false y o is = is

module _ (branch : List ℕ) (x : Digest × ChangesValue) where
  -- what the branch has in a repository it had in an older one
  abbrev HadContent : Repository → Repository → Type 0
  HadContent old new = content_in branch new ≡ Some x → content_in branch old ≡ Some x

  -- other branches are as they were
  elsewhere : (r : Repository) (branches : ByteMap Branch) → get branches branch ≡ get r.branches branch
      → HadContent r (record r { branches = branches })
  elsewhere r branches is now_has = ap (option_map content) (sym is) ∙ now_has

  drafted_elsewhere : (cut : Cut) (name : List ℕ) (draft : Repository → Branch → Draft) (r : Repository) → ties branch name ≡ false
      → HadContent r (draft_on cut name draft r)
  drafted_elsewhere cut name draft r other =
      kept_draft (HadContent r) cut name draft r
      (λ b was now_has.
      let head = commit_id (record_of cut r.commits (draft r b)) in
      ap (option_map content) (sym (get_changed_elsewhere name (with_head head) r.branches branch other)) ∙ now_has)
      (λ now_has. now_has)

  content_by : (cut : Cut) (repo : List ℕ) (operation : Operation) (r : Repository)
      → is_branch (version_holder operation) repo branch ≡ false → touches operation repo ≡ true
      → HadContent r (change_of cut operation repo r)
  content_by cut repo (BranchCreate a b commit) r none tie =
      elsewhere r _ (get_inserted_elsewhere r.branches b (clean_branch commit) branch (untied _ _ none tie))
  content_by cut repo (BranchDelete a b) r none tie = λ now_has.
      map_removed content (ties branch b) x (get r.branches branch)
      (ap (option_map content) (sym (get-remove nat_list_cmp_total r.branches b branch)) ∙ now_has)
  content_by cut repo (Stage a b path change) r none tie = λ now_has.
      sym (seen_again content b (with_staged path change) r.branches branch (λ y. refl)) ∙ now_has
  content_by cut repo (Copy a b path from from_path entry) r none tie = λ now_has.
      sym (seen_again content b (with_staged path (Put entry)) r.branches branch (λ y. refl)) ∙ now_has
  content_by cut repo (Reset a b what) r none tie =
      elsewhere r _ (get_changed_elsewhere b (reset_branch what) r.branches branch (untied _ _ none tie))
  content_by cut repo (Seal a b why) r none tie =
      elsewhere r _ (get_changed_elsewhere b sealed_branch r.branches branch (untied _ _ none tie))
  content_by cut repo (Commit a b about) r none tie = drafted_elsewhere cut b (λ s y. commit_draft s y about) r (untied _ _ none tie)
  content_by cut repo (Merge a b source strategy about) r none tie =
      drafted_elsewhere cut b (merge_draft source strategy about) r (untied _ _ none tie)
  content_by cut repo (Pick a b base source strategy about) r none tie =
      drafted_elsewhere cut b (pick_draft base source strategy about) r (untied _ _ none tie)
  content_by cut repo (Expire now commits) r none tie = kept_expired (HadContent r) (λ s one h. h) repo commits r (λ now_has. now_has)
  content_by cut repo _ r none tie = λ now_has. now_has

  no_content_new : (test there : Bool) (new : Branch) → (test && there) ≡ false → (o : Option Branch) → o ≡ cond there (Some new) None
      → (r : Repository) → get r.branches branch ≡ o → option_and_then (content_in branch) (cond test (Some r) None) ≡ None
  no_content_new true true new none o is r has = absurd cc
  no_content_new true false new none o is r has = ap (option_map content) (has ∙ is)
  no_content_new false there new none o is r has = refl

  -- a new repository doesn't have the branch
  no_content_made : (cut : Cut) (repo : List ℕ) (operation : Operation) → is_branch (version_holder operation) repo branch ≡ false
      → option_and_then (content_in branch) (made_repository cut operation repo) ≡ None
  no_content_made cut repo (RepoCreate a b date) none =
      let head = clean_branch (commit_id (record_of cut empty (first_draft date))) in
      no_content_new (ties repo a) (ties branch b) head none (get (insert empty b head) branch)
      (get-insert nat_list_cmp_total empty b head branch ∙ ap (cond (ties branch b) (Some head)) (get-empty byte_order branch))
      (new_repository cut date b) refl
  no_content_made cut repo _ none = refl

  backward : (new : Option Repository) (change : Repository → Repository) (o : Option Repository)
      → option_and_then (content_in branch) new ≡ None → ((r : Repository) → HadContent r (change r))
      → option_and_then (content_in branch) (option_or new (option_map change o)) ≡ Some x → option_and_then (content_in branch) o ≡ Some x
  backward None change None no_content back now_has = now_has
  backward None change (Some r) no_content back now_has = back r now_has
  backward (Some r) change o no_content back now_has = absurd cc

  content_before : (state : State) (seat : ℕ) (kind : EntryKind) (repo : List ℕ)
      → ((operation : Operation) → kind ≡ Accepted operation → is_branch (version_holder operation) repo branch ≡ false)
      → content_of repo branch (after_kind seat kind state) ≡ Some x → content_of repo branch state ≡ Some x
  content_before state seat (Accepted operation) repo none now_has =
      let other = none operation refl in
      backward (made_repository state.cut operation repo) (changed_by state.cut operation repo) (get state.repositories repo)
      (no_content_made state.cut repo operation other)
      (λ r. kept_if (HadContent r) (touches operation repo) (change_of state.cut operation repo) r
      (λ tie. content_by state.cut repo operation r other tie) (λ now_has. now_has))
      (ap (option_and_then (content_in branch)) (sym (get_after state seat operation repo)) ∙ now_has)
  content_before state seat (Faulted operation) repo none now_has = now_has

-- where the branch is there at last, it was there at first, with the same head and sealed changes
abbrev SameBranch : List ℕ → List ℕ → State → State → Type 0
SameBranch repo branch old new = (x : Digest × ChangesValue) → content_of repo branch new ≡ Some x → content_of repo branch old ≡ Some x

BranchTells : (repo branch : List ℕ) → Tells AreBelowNext (λ given. branch_version given repo branch) (SameBranch repo branch)
BranchTells repo branch = record {
  itself = λ state x is. is;
  joined = λ first second third one other x is. one x (other x is);
  fit = AreBelowNext-after;
  rises = λ given entry below. branch_version_rises entry.kind given repo branch below;
  kept = λ state given entry may below level x.
      content_before branch x state entry.by.seat entry.kind repo (λ operation kind.
      is_branch-not operation given repo branch below (level ∙ ap (λ k. branch_version (versions_after_kind k given) repo branch) kind));
}

-- in a legal history two states in which a branch has the same version have the same head and sealed changes of it
pub branch_same : (state : State) (given : VersionsGiven) (entries more : List HistoryEntry) (repo branch : List ℕ) (old new : Branch)
    → AreBelowNext given → IsLegal state (entries ++ more)
    → branch_of (replay state entries) repo branch ≡ Some old → branch_of (replay state (entries ++ more)) repo branch ≡ Some new
    → branch_version (count_versions given entries) repo branch ≡ branch_version (count_versions given (entries ++ more)) repo branch
    → (new.head ≡ old.head) × (new.sealed ≡ old.sealed)
branch_same state given entries more repo branch old new below legal was is level =
    let early = replay state entries in
    let late = replay state (entries ++ more) in
    let first : content_of repo branch early ≡ Some (content old) = content_of_branch repo branch early ∙ ap (option_map content) was in
    let last : content_of repo branch late ≡ Some (content new) = content_of_branch repo branch late ∙ ap (option_map content) is in
    let back = same_where_level AreBelowNext (λ given. branch_version given repo branch) (SameBranch repo branch) (BranchTells repo branch)
    entries more state given below legal level (content new) last in
    let same : content new ≡ content old = cc in
    (ap (λ (x : Digest × ChangesValue). x.0) same, ap (λ (x : Digest × ChangesValue). x.1) same)
