-- A change that isn't committed stays along a legal history, until a commit takes it or an entry drops it.
use Rattle.std.proofs.Common.{◌≡◌, ℕ, cond, List, [], ◌∷◌, ◌++◌, refl, sym, ap, ◌∙◌, ◌⊎◌, inl, inr, subst, append_assoc}
use Rattle.std.specs.Prelude.{All, Option, Some, None, option_map}
use Rattle.std.specs.Option.{option_map_or}
use Rattle.std.specs.FinMap.{get, get-empty}
use Rattle.std.proofs.lemmas.List.Elements.{All-head, All-tail}
use Rattle.lake_base.specs.Maps.{byte_order}
use Rattle.lake_values.specs.Commit.{AboutValue}
use Rattle.lake_values.specs.Entry.{EntryValue}
use Rattle.lake_values.specs.KeyMap.{value_after}
use Rattle.lake_values.specs.declared.entry.Change.{Change}
use Rattle.lake_values.specs.declared.entry.Change.TheVariants.{Put, Delete}
use Rattle.lake_values.proofs.KeyMapLemmas.{get_apply}
use Rattle.lake_model.specs.declared.history.EntryKind.{EntryKind}
use Rattle.lake_model.specs.declared.history.EntryKind.TheVariants.{Accepted, Faulted}
use Rattle.lake_model.specs.declared.history.HistoryEntry.{HistoryEntry}
use Rattle.lake_model.specs.declared.history.Operation.{Operation}
use Rattle.lake_model.specs.declared.history.Operation.TheVariants.{Commit, Merge, Pick, Seal}
use Rattle.lake_model.specs.declared.history.SealFor.{SealFor}
use Rattle.lake_model.specs.State.{Branch, Repository, State, HasBranch, head_map, sealed_map}
use Rattle.lake_model.specs.Uncommitted.{sealed_branch}
use Rattle.lake_model.specs.Parts.{changed_at}
use Rattle.lake_model.specs.Commits.{commit_draft, draft_on, with_head, with_draft}
use Rattle.lake_model.specs.History.{Allows, IsLegal, IsPossible, after, after_kind, after_operation, operation_of, replay}
use Rattle.lake_laws.specs.SealedPaths.{uncommitted_change, CommitsBranch, MergesBranch, DropsPath, IsAccepted}
use Rattle.lake_laws.specs.SealedPaths.{TakesChange, CommitsChange, FindsChange, IsMet, IsTakenOrDropped}
use Rattle.lake_laws.proofs.LookupLemmas.{itself, one_value}
use Rattle.lake_laws.proofs.PartsLemmas.{ties, changed_if, get_changed_at}
use Rattle.lake_laws.proofs.OperationLemmas.{changed_by, get_after, stays_after, with_branches}
use Rattle.lake_laws.proofs.ReadingLemmas.{new_id, new_map}
use Rattle.lake_laws.proofs.SealedStepLemmas.{IsCarried, HeadsBranch, step_by_kind}

-- ---- a commit of the branch, and a seal

module _ (state : State) (seat : ℕ) (repo branch : List ℕ) (r : Repository) (b : Branch)
    (stands : get state.repositories repo ≡ Some r) (is : get r.branches branch ≡ Some b) where
  -- its map is that of the sealed changes made on the old head's map
  pub commit_map : (about : AboutValue) → IsPossible state seat (Commit repo branch about)
      → HasBranch (after_operation seat (Commit repo branch about) state) repo branch (λ s c. head_map s c ≡ sealed_map r b)
  commit_map about may =
      let draft = commit_draft r b about in
      let id = new_id state branch r b about in
      let made : changed_by state.cut (Commit repo branch about) repo r ≡ with_draft state.cut branch draft r =
      ap (λ test. cond test (draft_on state.cut branch (λ s y. commit_draft s y about) r) r) (itself repo)
      ∙ ap (λ o. option_map_or (λ y. with_draft state.cut branch (commit_draft r y about) r) o r) is in (
        with_draft state.cut branch draft r,
        stays_after state seat (Commit repo branch about) repo r may stands ∙ ap Some made,
        (
          with_head id b,
          get_changed_at branch (with_head id) r.branches branch
              ∙ ap (option_map (changed_if (ties branch branch) (with_head id))) is
              ∙ ap (λ test. Some (changed_if test (with_head id) b)) (itself branch),
          new_map state branch r b about,
        ),
      )

  -- a seal seals it
  pub seal_made : (why : SealFor) → HasBranch (after_operation seat (Seal repo branch why) state) repo branch (λ s c. c ≡ sealed_branch b)
  seal_made why = (
    changed_by state.cut (Seal repo branch why) repo r,
    get_after state seat (Seal repo branch why) repo ∙ ap (option_map (changed_by state.cut (Seal repo branch why) repo)) stands,
    (
      sealed_branch b,
      ap (λ test. get (changed_if test (with_branches (changed_at branch sealed_branch)) r).branches branch) (itself repo)
          ∙ get_changed_at branch sealed_branch r.branches branch
          ∙ ap (option_map (changed_if (ties branch branch) sealed_branch)) is
          ∙ ap (λ test. Some (changed_if test sealed_branch b)) (itself branch),
      refl,
    ),
  )

  -- after it each change that isn't committed is sealed, and nothing is staged
  pub seal_all : (why : SealFor)
      → HasBranch (after_operation seat (Seal repo branch why) state) repo branch
      (λ s c. (path : List ℕ) → (get c.sealed path ≡ uncommitted_change b path) × (get c.staged path ≡ None))
  seal_all why =
      let made = seal_made why in (
        made.0,
        made.1,
        (
          made.2.0,
          made.2.1,
          λ path. (
            ap (λ (c : Branch). get c.sealed path) made.2.2,
            ap (λ (c : Branch). get c.staged path) made.2.2 ∙ get-empty byte_order path,
          ),
        ),
      )

-- ---- entries among entries

module _ (P : State → HistoryEntry → Type 0) where
  pub met_first : (state : State) (entry : HistoryEntry) (entries : List HistoryEntry) → P state entry → IsMet P state (entry ∷ entries)
  met_first state entry entries has = record { before = []; entry = entry; later = entries; parts = refl; has = has }

  met_later : (state : State) (entry : HistoryEntry) (entries : List HistoryEntry) → IsMet P (after state entry) entries → IsMet P state (entry ∷ entries)
  met_later state entry entries met =
      record { before = entry ∷ met.before; entry = met.entry; later = met.later; parts = ap (λ es. entry ∷ es) met.parts; has = met.has }

  met_behind : (state : State) (entries more : List HistoryEntry) → IsMet P (replay state entries) more → IsMet P state (entries ++ more)
  met_behind state [] more met = met
  met_behind state (entry ∷ entries) more met = met_later state entry (entries ++ more) (met_behind (after state entry) entries more met)

  met_before : (state : State) (entries more : List HistoryEntry) → IsMet P state entries → IsMet P state (entries ++ more)
  met_before state entries more met = record {
    before = met.before;
    entry = met.entry;
    later = met.later ++ more;
    parts = ap (λ es. es ++ more) met.parts ∙ append_assoc met.before (met.entry ∷ met.later) more;
    has = met.has;
  }

pub met_mapped : (P Q : State → HistoryEntry → Type 0) → ((s : State) (entry : HistoryEntry) → P s entry → Q s entry)
    → (state : State) (entries : List HistoryEntry) → IsMet P state entries → IsMet Q state entries
met_mapped P Q implies state entries met = record {
  before = met.before;
  entry = met.entry;
  later = met.later;
  parts = met.parts;
  has = implies (replay state met.before) met.entry met.has;
}

-- what a change says, where the map had something or nothing
said_anyway : (change : Change) (had : Option EntryValue) → value_after (Some change) had ≡ value_after (Some change) None
said_anyway (Put entry) had = refl
said_anyway Delete had = refl

module _ (repo branch path : List ℕ) where
  -- a commit of the branch takes the change that is sealed at the path
  committed_by : (state : State) (seat : ℕ) (kind : EntryKind) (r : Repository) (b : Branch) (change : Change)
      → get state.repositories repo ≡ Some r → get r.branches branch ≡ Some b → IsPossible state seat (operation_of kind)
      → IsAccepted (CommitsBranch repo branch) kind → get b.sealed path ≡ Some change
      → HasBranch (after_kind seat kind state) repo branch (λ s c. get (head_map s c) path ≡ value_after (Some change) None)
  committed_by state seat (Accepted (Commit a name about)) r b change stands is may commits sealed =
      let possible : IsPossible state seat (Commit repo branch about) = subst (λ n. IsPossible state seat (Commit repo n about)) commits.1
      (subst (λ n. IsPossible state seat (Commit n name about)) commits.0 may) in
      let made = commit_map state seat repo branch r b stands is about possible in
      let at_path : HasBranch (after_operation seat (Commit repo branch about) state) repo branch
      (λ s c. get (head_map s c) path ≡ value_after (Some change) None) = (
        made.0,
        made.1,
        (
          made.2.0,
          made.2.1,
          ap (λ map. get map path) made.2.2
              ∙ get_apply b.sealed (head_map r b) path
              ∙ ap (λ says. value_after says (get (head_map r b) path)) sealed
              ∙ said_anyway change (get (head_map r b) path),
        ),
      ) in
      subst (λ n. HasBranch (after_operation seat (Commit a n about) state) repo branch (λ s c. get (head_map s c) path ≡ value_after (Some change) None))
      (sym commits.1)
      (subst (λ n. HasBranch (after_operation seat (Commit n branch about) state) repo branch
      (λ s c. get (head_map s c) path ≡ value_after (Some change) None)) (sym commits.0) at_path)
  committed_by state seat (Accepted _) r b change stands is may commits sealed = absurd commits
  committed_by state seat (Faulted operation) r b change stands is may commits sealed = absurd commits

  -- where the sealed changes leave the head's map as it is, it has at the path what the one there says
  made_already : (r : Repository) (b : Branch) (change : Change) → sealed_map r b ≡ head_map r b → get b.sealed path ≡ Some change
      → get (head_map r b) path ≡ value_after (Some change) None
  made_already r b change clean sealed =
      ap (λ map. get map path) (sym clean)
      ∙ get_apply b.sealed (head_map r b) path
      ∙ ap (λ says. value_after says (get (head_map r b) path)) sealed
      ∙ said_anyway change (get (head_map r b) path)

  -- they leave it so on the branch that is there
  clean_here : (state : State) (a name : List ℕ) (r : Repository) (b : Branch)
      → get state.repositories repo ≡ Some r → get r.branches branch ≡ Some b → a ≡ repo → name ≡ branch
      → HasBranch state a name (λ s c. sealed_map s c ≡ head_map s c) → sealed_map r b ≡ head_map r b
  clean_here state a name r b stands is same named has =
      let Clean : Repository → Branch → Type 0 = λ s c. sealed_map s c ≡ head_map s c in
      let there : HasBranch state repo branch Clean =
      subst (λ n. HasBranch state repo n Clean) named (subst (λ n. HasBranch state n name Clean) same has) in
      let found = subst (λ s. (c : Branch) × (get s.branches branch ≡ Some c) × Clean s c)
      (one_value (get state.repositories repo) there.0 r there.1 stands) there.2 in
      subst (Clean r) (one_value (get r.branches branch) found.0 b found.1 is) found.2

  -- a merge and a pick of the branch find made what the change that is sealed at the path says
  found_by : (state : State) (seat : ℕ) (kind : EntryKind) (r : Repository) (b : Branch) (change : Change)
      → get state.repositories repo ≡ Some r → get r.branches branch ≡ Some b → IsPossible state seat (operation_of kind)
      → IsAccepted (MergesBranch repo branch) kind → get b.sealed path ≡ Some change
      → get (head_map r b) path ≡ value_after (Some change) None
  found_by state seat (Accepted (Merge a name source strategy about)) r b change stands is may merges sealed =
      made_already r b change (clean_here state a name r b stands is merges.0 merges.1
      (may.0, may.1, (may.2.0, may.2.1, may.2.2.sides.clean))) sealed
  found_by state seat (Accepted (Pick a name base source strategy about)) r b change stands is may merges sealed =
      made_already r b change (clean_here state a name r b stands is merges.0 merges.1
      (may.0, may.1, (may.2.0, may.2.1, may.2.2.sides.clean))) sealed
  found_by state seat (Accepted _) r b change stands is may merges sealed = absurd merges
  found_by state seat (Faulted operation) r b change stands is may merges sealed = absurd merges

  -- a new head is of a commit, or of a merge or a pick
  kind_of_head : (kind : EntryKind) → IsAccepted (HeadsBranch repo branch) kind
      → IsAccepted (CommitsBranch repo branch) kind ⊎ IsAccepted (MergesBranch repo branch) kind
  kind_of_head (Accepted operation) heads = heads
  kind_of_head (Faulted operation) heads = absurd heads

  -- a new head of the branch takes the change that is sealed at the path
  pub taken_by : (state : State) (entry : HistoryEntry) (r : Repository) (b : Branch) (change : Change)
      → get state.repositories repo ≡ Some r → get r.branches branch ≡ Some b → IsPossible state entry.by.seat (operation_of entry.kind)
      → IsAccepted (HeadsBranch repo branch) entry.kind → get b.sealed path ≡ Some change → TakesChange repo branch path change state entry
  taken_by state entry r b change stands is may heads sealed =
      elim (kind_of_head entry.kind heads) [
        | inl commits ↦ inl record {
          commits = commits;
          sealed = (r, stands, (b, is, sealed));
          made = committed_by state entry.by.seat entry.kind r b change stands is may commits sealed;
        }
        | inr merges ↦ inr record {
          merges = merges;
          made = (r, stands, (b, is, (sealed, found_by state entry.by.seat entry.kind r b change stands is may merges sealed)));
        }
      ]

  -- a new head takes a change that has P
  abbrev pub TakesOne : (Change → Type 0) → State → HistoryEntry → Type 0
  TakesOne P state entry = (change : Change) × P change × TakesChange repo branch path change state entry

  -- a change that has P is sealed at the path
  abbrev pub IsSealedWith : (Change → Type 0) → Branch → Type 0
  IsSealedWith P b = (change : Change) × (get b.sealed path ≡ Some change) × P change

  abbrev pub Gone : (Change → Type 0) → State → List HistoryEntry → Type 0
  Gone P state entries = IsTakenOrDropped repo branch path (TakesOne P) state entries

  pub later : (P : Change → Type 0) (state : State) (entry : HistoryEntry) (entries : List HistoryEntry)
      → Gone P (after state entry) entries → Gone P state (entry ∷ entries)
  later P state entry entries gone = elim gone [
    | inl taken ↦ inl (met_later (TakesOne P) state entry entries taken)
    | inr dropped ↦ inr (met_later (λ s e. IsAccepted (DropsPath repo branch path) e.kind) state entry entries dropped)
  ]

  pub behind : (P : Change → Type 0) (state : State) (entries more : List HistoryEntry) → Gone P (replay state entries) more → Gone P state (entries ++ more)
  behind P state entries more gone = elim gone [
    | inl taken ↦ inl (met_behind (TakesOne P) state entries more taken)
    | inr dropped ↦ inr (met_behind (λ s e. IsAccepted (DropsPath repo branch path) e.kind) state entries more dropped)
  ]

  pub before : (P : Change → Type 0) (state : State) (entries more : List HistoryEntry) → Gone P state entries → Gone P state (entries ++ more)
  before P state entries more gone = elim gone [
    | inl taken ↦ inl (met_before (TakesOne P) state entries more taken)
    | inr dropped ↦ inr (met_before (λ s e. IsAccepted (DropsPath repo branch path) e.kind) state entries more dropped)
  ]

  module _ (P : Change → Type 0) (Spares : Operation → Type 0) (Fact : Branch → Type 0)
      (carried : IsCarried repo branch path Spares Fact (IsSealedWith P)) where
    -- an entry spares it
    abbrev pub SparesEntry : HistoryEntry → Type 0
    SparesEntry entry = (operation : Operation) → entry.kind ≡ Accepted operation → Spares operation

    pub step : (state : State) (entry : HistoryEntry) → Allows state entry → SparesEntry entry → HasBranch state repo branch (λ r b. Fact b)
        → HasBranch (after state entry) repo branch (λ r b. Fact b) ⊎ Gone P state (entry ∷ [])
    step state entry may spares has =
        let r = has.0 in
        let b = has.2.0 in
        elim (step_by_kind repo branch path Spares Fact (IsSealedWith P) carried r b has.2.1 has.2.2 state entry.by.seat entry.kind spares may.possible has.1) [
          | inl fact ↦ inl fact
          | inr (inl taken) ↦ inr (inl (met_first (TakesOne P) state entry []
              (taken.1.0, taken.1.2, taken_by state entry r b taken.1.0 has.1 has.2.1 may.possible taken.0 taken.1.1)))
          | inr (inr dropped) ↦ inr (inr (met_first (λ s e. IsAccepted (DropsPath repo branch path) e.kind) state entry [] dropped))
        ]

    -- along a legal history the fact stays, or a commit takes the change, or an entry drops the path
    pub fate : (state : State) (entries : List HistoryEntry) → IsLegal state entries → All SparesEntry entries
        → HasBranch state repo branch (λ r b. Fact b)
        → HasBranch (replay state entries) repo branch (λ r b. Fact b) ⊎ Gone P state entries
    fate state [] legal spares has = inl has
    fate state (entry ∷ entries) legal spares has =
        elim (step state entry legal.0 (All-head SparesEntry entry entries spares) has) [
          | inl fact ↦ elim (fate (after state entry) entries legal.1 (All-tail SparesEntry entry entries spares) fact) [
            | inl still ↦ inl still
            | inr gone ↦ inr (later P state entry entries gone)
          ]
          | inr gone ↦ inr (before P state (entry ∷ []) entries gone)
        ]
