-- What entries make of the repository that stands under a name.
use Rattle.std.proofs.Common.{◌≡◌, ℕ, Bool, true, false, cond, List, [], ◌∷◌, refl, sym, ap, ◌∙◌}
use Rattle.std.specs.Prelude.{Option, Some, None, option_map}
use Rattle.std.specs.Option.{option_or}
use Rattle.std.specs.FinMap.{get, insert, remove, get-insert}
use Rattle.std.proofs.lemmas.Cmp.{nat_list_cmp_total}
use Rattle.lake_base.specs.Maps.{ByteMap}
use Rattle.lake_values.specs.declared.entry.Change.TheVariants.{Put}
use Rattle.lake_format.specs.declared.cut.Cut.{Cut}
use Rattle.lake_model.specs.declared.history.EntryKind.{EntryKind}
use Rattle.lake_model.specs.declared.history.EntryKind.TheVariants.{Accepted, Faulted}
use Rattle.lake_model.specs.declared.history.HistoryEntry.{HistoryEntry}
use Rattle.lake_model.specs.declared.history.Operation.{Operation}
use Rattle.lake_model.specs.declared.history.Operation.TheVariants.{RepoCreate, BranchCreate, BranchDelete, TagCreate, TagDelete, Stage, Copy, Reset, Seal}
use Rattle.lake_model.specs.declared.history.Operation.TheVariants.{Commit, Merge, Pick, NoteSet, Expire}
use Rattle.lake_model.specs.declared.history.RepositoryCommit.{RepositoryCommit}
use Rattle.lake_model.specs.State.{Branch, Repository, State, HasRepository}
use Rattle.lake_model.specs.Parts.{changed_at, in_repository}
use Rattle.lake_model.specs.Branches.{clean_branch}
use Rattle.lake_model.specs.Uncommitted.{put_number, without_ticket, with_staged, reset_branch, sealed_branch}
use Rattle.lake_model.specs.Commits.{new_repository, draft_on, commit_draft, merge_draft, pick_draft}
use Rattle.lake_model.specs.NoteChanges.{notes_after}
use Rattle.lake_model.specs.Removal.{with_expired, after_expire}
use Rattle.lake_model.specs.History.{Allows, IsPossible, after, after_kind, after_operation, operation_of}
use Rattle.lake_laws.proofs.PartsLemmas.{ties, tied_stands, changed_if, option_map_itself, get_changed_at}

-- a repository with its branches changed
abbrev pub with_branches : (ByteMap Branch → ByteMap Branch) → Repository → Repository
with_branches change r = record r { branches = change r.branches }

-- the repository of a name with those of its commits expired that these are
abbrev pub expired_in : List ℕ → List RepositoryCommit → Repository → Repository
expired_in q [] r = r
expired_in q (one ∷ commits) r = expired_in q commits (changed_if (ties q one.repo) (with_expired one.commit) r)

-- the repository that an operation makes under a name
abbrev pub made_repository : Cut → Operation → List ℕ → Option Repository
made_repository cut (RepoCreate repo branch date) q = cond (ties q repo) (Some (new_repository cut date branch)) None
made_repository cut _ q = None

-- whether an operation changes the repository of a name, where it is there
abbrev pub touches : Operation → List ℕ → Bool
touches (BranchCreate repo branch commit) q = ties q repo
touches (BranchDelete repo branch) q = ties q repo
touches (TagCreate repo tag commit) q = ties q repo
touches (TagDelete repo tag) q = ties q repo
touches (Stage repo branch path change) q = ties q repo
touches (Copy repo branch path from from_path entry) q = ties q repo
touches (Reset repo branch what) q = ties q repo
touches (Seal repo branch why) q = ties q repo
touches (Commit repo branch about) q = ties q repo
touches (Merge repo branch source strategy about) q = ties q repo
touches (Pick repo branch base source strategy about) q = ties q repo
touches (NoteSet repo name setting) q = ties q repo
touches (Expire now commits) q = true
touches _ q = false

-- what it makes of that repository
abbrev pub change_of : Cut → Operation → List ℕ → Repository → Repository
change_of cut (BranchCreate repo branch commit) q = with_branches (λ branches. insert branches branch (clean_branch commit))
change_of cut (BranchDelete repo branch) q = with_branches (λ branches. remove branches branch)
change_of cut (TagCreate repo tag commit) q = λ r. record r { tags = insert r.tags tag commit }
change_of cut (TagDelete repo tag) q = λ r. record r { tags = remove r.tags tag }
change_of cut (Stage repo branch path change) q = with_branches (changed_at branch (with_staged path change))
change_of cut (Copy repo branch path from from_path entry) q = with_branches (changed_at branch (with_staged path (Put entry)))
change_of cut (Reset repo branch what) q = with_branches (changed_at branch (reset_branch what))
change_of cut (Seal repo branch why) q = with_branches (changed_at branch sealed_branch)
change_of cut (Commit repo branch about) q = draft_on cut branch (λ r b. commit_draft r b about)
change_of cut (Merge repo branch source strategy about) q = draft_on cut branch (merge_draft source strategy about)
change_of cut (Pick repo branch base source strategy about) q = draft_on cut branch (pick_draft base source strategy about)
change_of cut (NoteSet repo name setting) q = λ r. record r { notes = notes_after name setting r.notes }
change_of cut (Expire now commits) q = expired_in q commits
change_of cut _ q = λ r. r

-- the repository of a name after an operation
abbrev pub changed_by : Cut → Operation → List ℕ → Repository → Repository
changed_by cut operation q = changed_if (touches operation q) (change_of cut operation q)

-- the repository of a name in a state where a repository was changed
get_in_repository : (repo : List ℕ) (change : Repository → Repository) (state : State) (q : List ℕ)
    → get (in_repository repo change state).repositories q ≡ option_map (changed_if (ties q repo) change) (get state.repositories q)
get_in_repository repo change state q = get_changed_at repo change state.repositories q

option_map_twice : {X : Type 0} (f g : X → X) (o : Option X) → option_map f (option_map g o) ≡ option_map (λ x. f (g x)) o
option_map_twice f g None = refl
option_map_twice f g (Some x) = refl

get_expired : (commits : List RepositoryCommit) (state : State) (q : List ℕ)
    → get (after_expire commits state).repositories q ≡ option_map (expired_in q commits) (get state.repositories q)
get_expired [] state q = sym (option_map_itself (get state.repositories q))
get_expired (one ∷ commits) state q =
    get_expired commits (in_repository one.repo (with_expired one.commit) state) q
    ∙ ap (option_map (expired_in q commits)) (get_in_repository one.repo (with_expired one.commit) state q)
    ∙ option_map_twice (expired_in q commits) (changed_if (ties q one.repo) (with_expired one.commit)) (get state.repositories q)

get_made : (state : State) (repo q : List ℕ) (new : Repository)
    → get (insert state.repositories repo new) q ≡ option_or (cond (ties q repo) (Some new) None) (option_map (λ r. r) (get state.repositories q))
get_made state repo q new = get-insert nat_list_cmp_total state.repositories repo new q ∙ made_or (ties q repo) (get state.repositories q)
  where
    made_or : (test : Bool) (o : Option Repository) → cond test (Some new) o ≡ option_or (cond test (Some new) None) (option_map (λ r. r) o)
    made_or true o = refl
    made_or false o = sym (option_map_itself o)

repositories_without_ticket : (number : Option ℕ) (state : State) → (without_ticket number state).repositories ≡ state.repositories
repositories_without_ticket None state = refl
repositories_without_ticket (Some number) state = refl

-- what stands under a name after an operation was made by it, or is what it makes of what stood there
pub get_after : (state : State) (seat : ℕ) (operation : Operation) (q : List ℕ)
    → get (after_operation seat operation state).repositories q
    ≡ option_or (made_repository state.cut operation q) (option_map (changed_by state.cut operation q) (get state.repositories q))
get_after state seat (RepoCreate repo branch date) q = get_made state repo q (new_repository state.cut date branch)
get_after state seat (Stage repo branch path change) q =
    let change_in = with_branches (changed_at branch (with_staged path change)) in
    get_in_repository repo change_in (without_ticket (put_number change) state) q
    ∙ ap (λ (map : ByteMap Repository). option_map (changed_if (ties q repo) change_in) (get map q)) (repositories_without_ticket (put_number change) state)
get_after state seat (BranchCreate repo branch commit) q = get_in_repository repo _ state q
get_after state seat (BranchDelete repo branch) q = get_in_repository repo _ state q
get_after state seat (TagCreate repo tag commit) q = get_in_repository repo _ state q
get_after state seat (TagDelete repo tag) q = get_in_repository repo _ state q
get_after state seat (Copy repo branch path from from_path entry) q = get_in_repository repo _ state q
get_after state seat (Reset repo branch what) q = get_in_repository repo _ state q
get_after state seat (Seal repo branch why) q = get_in_repository repo _ state q
get_after state seat (Commit repo branch about) q = get_in_repository repo _ state q
get_after state seat (Merge repo branch source strategy about) q = get_in_repository repo _ state q
get_after state seat (Pick repo branch base source strategy about) q = get_in_repository repo _ state q
get_after state seat (NoteSet repo name setting) q = get_in_repository repo _ state q
get_after state seat (Expire now commits) q = get_expired commits state q
get_after state seat _ q = sym (option_map_itself (get state.repositories q))

made_where_none : (test : Bool) (new : Repository) (there here : Option Repository) (r : Repository) → (test ≡ true → there ≡ here)
    → there ≡ None → here ≡ Some r
    → cond test (Some new) None ≡ None
made_where_none true new there here r tie none is = let same : there ≡ here = tie refl in absurd cc
made_where_none false new there here r tie none is = refl

-- a possible operation makes no repository where one stands
pub made_none : (state : State) (seat : ℕ) (operation : Operation) (q : List ℕ) (r : Repository) → IsPossible state seat operation
    → get state.repositories q ≡ Some r → made_repository state.cut operation q ≡ None
made_none state seat (RepoCreate repo branch date) q r may is =
    made_where_none (ties q repo) (new_repository state.cut date branch) (get state.repositories repo) (get state.repositories q) r
    (tied_stands state.repositories q repo) may.fresh is
made_none state seat _ q r may is = refl

-- a repository stays under its name, as a possible operation changes it
pub stays_after : (state : State) (seat : ℕ) (operation : Operation) (q : List ℕ) (r : Repository) → IsPossible state seat operation
    → get state.repositories q ≡ Some r
    → get (after_operation seat operation state).repositories q ≡ Some (changed_by state.cut operation q r)
stays_after state seat operation q r may is =
    get_after state seat operation q
    ∙ ap (λ o. option_or o (option_map (changed_by state.cut operation q) (get state.repositories q))) (made_none state seat operation q r may is)
    ∙ ap (option_map (changed_by state.cut operation q)) is

-- what holds of a change where it is made, and without it, holds
pub kept_if : (P : Repository → Type 0) (test : Bool) (change : Repository → Repository) (r : Repository)
    → (test ≡ true → P (change r)) → P r → P (changed_if test change r)
kept_if P true change r changed holds = changed refl
kept_if P false change r changed holds = holds

-- an operation keeps what its change keeps
abbrev pub Keeps : State → ℕ → List ℕ → (Repository → Type 0) → Operation → Type 0
Keeps state seat q P operation =
    (r : Repository) → IsPossible state seat operation → touches operation q ≡ true → get state.repositories q ≡ Some r
    → P r → P (change_of state.cut operation q r)

kept_by_kind : (state : State) (seat : ℕ) (kind : EntryKind) (q : List ℕ) (P : Repository → Type 0)
    → ((operation : Operation) → kind ≡ Accepted operation → Keeps state seat q P operation)
    → IsPossible state seat (operation_of kind) → HasRepository state q P → HasRepository (after_kind seat kind state) q P
kept_by_kind state seat (Accepted operation) q P keeps may has = (
  changed_by state.cut operation q has.0,
  stays_after state seat operation q has.0 may has.1,
  kept_if P (touches operation q) (change_of state.cut operation q) has.0 (λ touched. keeps operation refl has.0 may touched has.1 has.2) has.2,
)
kept_by_kind state seat (Faulted operation) q P keeps may has = has

-- and an entry that may come next what its operation keeps
pub HasRepository-after : (state : State) (entry : HistoryEntry) (q : List ℕ) (P : Repository → Type 0) → Allows state entry
    → ((operation : Operation) → entry.kind ≡ Accepted operation → Keeps state entry.by.seat q P operation)
    → HasRepository state q P → HasRepository (after state entry) q P
HasRepository-after state entry q P may keeps has = kept_by_kind state entry.by.seat entry.kind q P keeps may.possible has
