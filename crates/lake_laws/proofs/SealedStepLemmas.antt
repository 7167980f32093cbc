-- What one entry makes of a branch: a fact of its changes stays, or a commit takes them, or the entry drops the path.
use Rattle.std.proofs.Common.{◌≡◌, ℕ, Bool, true, false, List, refl, sym, ap, ◌∙◌, ◌⊎◌, inl, inr, subst, true≢false}
use Rattle.std.proofs.lemmas.Bool.{cases_Bool}
use Rattle.std.specs.Prelude.{Some, option_map}
use Rattle.std.specs.FinMap.{get}
use Rattle.lake_base.specs.Maps.{ByteMap}
use Rattle.lake_base.specs.declared.digest.Digest.{Digest}
use Rattle.lake_values.specs.Reset.{drops_path}
use Rattle.lake_values.specs.declared.commit.ResetWhat.{ResetWhat}
use Rattle.lake_values.specs.declared.entry.Change.{Change}
use Rattle.lake_values.specs.declared.entry.Change.TheVariants.{Put}
use Rattle.lake_format.specs.declared.cut.Cut.{Cut}
use Rattle.lake_format.specs.Spelling.{commit_id}
use Rattle.lake_model.specs.declared.history.EntryKind.{EntryKind}
use Rattle.lake_model.specs.declared.history.EntryKind.TheVariants.{Accepted, Faulted}
use Rattle.lake_model.specs.declared.history.Operation.{Operation}
use Rattle.lake_model.specs.declared.history.Operation.TheVariants.{BranchCreate, BranchDelete, TagCreate, TagDelete, Stage, Copy, Reset, Seal}
use Rattle.lake_model.specs.declared.history.Operation.TheVariants.{Commit, Merge, Pick, NoteSet, Expire}
use Rattle.lake_model.specs.State.{Branch, Repository, State, HasBranch}
use Rattle.lake_model.specs.Parts.{changed_at}
use Rattle.lake_model.specs.Branches.{clean_branch, MayBegin}
use Rattle.lake_model.specs.Uncommitted.{with_staged, reset_branch, sealed_branch}
use Rattle.lake_model.specs.Commits.{Draft, record_of, with_head, draft_on, commit_draft, merge_draft, pick_draft}
use Rattle.lake_model.specs.History.{IsPossible, after_kind, operation_of}
use Rattle.lake_laws.specs.SealedPaths.{WritesPath, SealsBranch, CommitsBranch, MergesBranch, DropsPath, IsAccepted}
use Rattle.lake_laws.proofs.PartsLemmas.{ties, names_tied, changed_if, get_changed_at, get_changed_elsewhere, get_inserted_elsewhere}
use Rattle.lake_laws.proofs.OperationLemmas.{with_branches, touches, change_of, changed_by, stays_after}
use Rattle.lake_laws.proofs.KeepingLemmas.{kept_expired, kept_draft, held_there}
use Rattle.lake_laws.proofs.LookupLemmas.{remove_other, itself}

-- an operation makes a new head of the branch
abbrev pub HeadsBranch : (repo branch : List ℕ) → Operation → Type 0
HeadsBranch repo branch operation = CommitsBranch repo branch operation ⊎ MergesBranch repo branch operation

-- a fact of a branch's changes that operations keep which spare it, unless a new head takes what is sealed
pub record IsCarried (repo branch path : List ℕ) (Spares : Operation → Type 0) (Fact Taken : Branch → Type 0) : Type 0 where
  pub staged : (operation : Operation) (b : Branch) (q : List ℕ) (change : Change) → Spares operation
      → (q ≡ path → WritesPath repo branch path operation) → Fact b → Fact (with_staged q change b)
  pub reset : (b : Branch) (what : ResetWhat) → drops_path what path ≡ false → Fact b → Fact (reset_branch what b)
  pub sealed : (operation : Operation) (b : Branch) → Spares operation → SealsBranch repo branch operation → Fact b → Fact (sealed_branch b)
  pub head : (b : Branch) (id : Digest) → Fact b → Fact (with_head id b) ⊎ Taken b

module _ (repo branch path : List ℕ) (Spares : Operation → Type 0) (Fact Taken : Branch → Type 0)
    (carried : IsCarried repo branch path Spares Fact Taken) where
  -- the branch is there, with the fact
  abbrev pub HasFact : Repository → Type 0
  HasFact s = (x : Branch) × (get s.branches branch ≡ Some x) × Fact x

  -- or an operation takes what is sealed, or drops the path
  abbrev pub TakesOrDrops : Operation → Branch → Type 0
  TakesOrDrops operation b = (HeadsBranch repo branch operation × Taken b) ⊎ DropsPath repo branch path operation

  module _ (r : Repository) (b : Branch) (is : get r.branches branch ≡ Some b) (holds : Fact b) where
    abbrev Comes : Operation → Repository → Type 0
    Comes operation s = HasFact s ⊎ TakesOrDrops operation b

    here : HasFact r
    here = (b, is, holds)

    -- a name is the branch's, or apart from it
    by_name : (name : List ℕ) (X : Type 0) → (ties branch name ≡ true → X) → (ties branch name ≡ false → X) → X
    by_name name X same other = elim (cases_Bool (ties branch name)) [ inl tie ↦ same tie | inr apart ↦ other apart ]

    -- other branches that have the branch as it was
    elsewhere : (branches : ByteMap Branch) → get branches branch ≡ get r.branches branch → HasFact (record r { branches = branches })
    elsewhere branches same = (b, same ∙ is, holds)

    -- the branch after its own change
    own : (name : List ℕ) (f : Branch → Branch) → ties branch name ≡ true → get (changed_at name f r.branches) branch ≡ Some (f b)
    own name f tie =
        get_changed_at name f r.branches branch
        ∙ ap (option_map (changed_if (ties branch name) f)) is
        ∙ ap (λ test. Some (changed_if test f b)) tie

    changed : (name : List ℕ) (f : Branch → Branch) → (ties branch name ≡ true → Fact (f b)) → HasFact (with_branches (changed_at name f) r)
    changed name f new =
        by_name name (HasFact (with_branches (changed_at name f) r))
        (λ tie. (f b, own name f tie, new tie))
        (λ apart. elsewhere (changed_at name f r.branches) (get_changed_elsewhere name f r.branches branch apart))

    drafted : (cut : Cut) (operation : Operation) (name : List ℕ) (draft : Repository → Branch → Draft)
        → (ties branch name ≡ true → (id : Digest) → Fact (with_head id b) ⊎ TakesOrDrops operation b)
        → Comes operation (draft_on cut name draft r)
    drafted cut operation name draft new =
        kept_draft (Comes operation) cut name draft r
        (λ y was.
        let id = commit_id (record_of cut r.commits (draft r y)) in
        by_name name _
        (λ tie. elim (new tie id) [ inl fact ↦ inl (with_head id b, own name (with_head id) tie, fact) | inr gone ↦ inr gone ])
        (λ apart. inl (b, get_changed_elsewhere name (with_head id) r.branches branch apart ∙ is, holds)))
        (inl here)

    -- names that tie are the repository's and the branch's
    named : (a name : List ℕ) → ties repo a ≡ true → ties branch name ≡ true → (a ≡ repo) × (name ≡ branch)
    named a name tie same = (sym (names_tied repo a tie), sym (names_tied branch name same))

    headed : (operation : Operation) → HeadsBranch repo branch operation → (id : Digest) → Fact (with_head id b) ⊎ TakesOrDrops operation b
    headed operation heads id = elim (carried.head b id holds) [ inl fact ↦ inl fact | inr taken ↦ inr (inl (heads, taken)) ]

    by_change : (state : State) (seat : ℕ) (operation : Operation) → Spares operation → IsPossible state seat operation
        → touches operation repo ≡ true → get state.repositories repo ≡ Some r → Comes operation (change_of state.cut operation repo r)
    by_change state seat (BranchCreate a name commit) spares may tie stands =
        by_name name _
        (λ same.
        let fresh = (held_there (MayBegin name commit) state repo a r tie stands may).fresh in
        let both : get r.branches name ≡ Some b = ap (get r.branches) (sym (names_tied branch name same)) ∙ is in
        absurd cc)
        (λ apart. inl (elsewhere _ (get_inserted_elsewhere r.branches name (clean_branch commit) branch apart)))
    by_change state seat (BranchDelete a name) spares may tie stands =
        by_name name _
        (λ same. inr (inr (named a name tie same)))
        (λ apart.
        let other : branch ≡ name → ⊥ =
        λ same. true≢false (sym (subst (λ n. ties branch n ≡ true) same (itself branch)) ∙ apart) in
        inl (elsewhere _ (remove_other r.branches name branch other)))
    by_change state seat (TagCreate a tag commit) spares may tie stands = inl here
    by_change state seat (TagDelete a tag) spares may tie stands = inl here
    by_change state seat (Stage a name q change) spares may tie stands =
        inl (changed name (with_staged q change) (λ same.
        let names = named a name tie same in
        carried.staged (Stage a name q change) b q change spares (λ at. (names.0, names.1, at)) holds))
    by_change state seat (Copy a name q from from_path entry) spares may tie stands =
        inl (changed name (with_staged q (Put entry)) (λ same.
        let names = named a name tie same in
        carried.staged (Copy a name q from from_path entry) b q (Put entry) spares (λ at. (names.0, names.1, at)) holds))
    by_change state seat (Reset a name what) spares may tie stands =
        elim (cases_Bool (drops_path what path)) [
          | inl drops ↦ by_name name _
              (λ same. let names = named a name tie same in inr (inr (names.0, names.1, drops)))
              (λ apart. inl (elsewhere _ (get_changed_elsewhere name (reset_branch what) r.branches branch apart)))
          | inr leaves ↦ inl (changed name (reset_branch what) (λ same. carried.reset b what leaves holds))
        ]
    by_change state seat (Seal a name why) spares may tie stands =
        inl (changed name sealed_branch (λ same. carried.sealed (Seal a name why) b spares (named a name tie same) holds))
    by_change state seat (Commit a name about) spares may tie stands =
        drafted state.cut (Commit a name about) name (λ s y. commit_draft s y about)
        (λ same id. headed (Commit a name about) (inl (named a name tie same)) id)
    by_change state seat (Merge a name source strategy about) spares may tie stands =
        drafted state.cut (Merge a name source strategy about) name (merge_draft source strategy about)
        (λ same id. headed (Merge a name source strategy about) (inr (named a name tie same)) id)
    by_change state seat (Pick a name base source strategy about) spares may tie stands =
        drafted state.cut (Pick a name base source strategy about) name (pick_draft base source strategy about)
        (λ same id. headed (Pick a name base source strategy about) (inr (named a name tie same)) id)
    by_change state seat (NoteSet a name setting) spares may tie stands = inl here
    by_change state seat (Expire now commits) spares may tie stands = inl (kept_expired HasFact (λ s one fact. fact) repo commits r here)
    by_change state seat _ spares may tie stands = absurd cc

    changed_or_not : (state : State) (operation : Operation) (test : Bool)
        → (test ≡ true → Comes operation (change_of state.cut operation repo r))
        → Comes operation (changed_if test (change_of state.cut operation repo) r)
    changed_or_not state operation true new = new refl
    changed_or_not state operation false new = inl here

    -- after a kind of entry the fact stays, or what is sealed is taken, or the path is dropped
    pub step_by_kind : (state : State) (seat : ℕ) (kind : EntryKind) → ((operation : Operation) → kind ≡ Accepted operation → Spares operation)
        → IsPossible state seat (operation_of kind) → get state.repositories repo ≡ Some r
        → HasBranch (after_kind seat kind state) repo branch (λ s x. Fact x)
        ⊎ ((IsAccepted (HeadsBranch repo branch) kind × Taken b) ⊎ IsAccepted (DropsPath repo branch path) kind)
    step_by_kind state seat (Accepted operation) spares may stands =
        elim (changed_or_not state operation (touches operation repo)
        (λ tie. by_change state seat operation (spares operation refl) may tie stands)) [
          | inl fact ↦ inl (changed_by state.cut operation repo r, stays_after state seat operation repo r may stands, fact)
          | inr gone ↦ inr gone
        ]
    step_by_kind state seat (Faulted operation) spares may stands = inl (r, stands, here)
