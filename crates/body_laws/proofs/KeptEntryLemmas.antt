-- What holds of each entry that a lake names holds of it after an entry of its history too.
use Rattle.std.proofs.Common.{◌≡◌, ℕ, Bool, true, false, cond, not, ◌&&◌, List, [], ◌∷◌, refl, sym, ap, subst, ◌∙◌, ◌⊎◌, inl, inr}
use Rattle.std.specs.Prelude.{Option, Some, None, IsSome, is_some, option_map, option_and_then, cond}
use Rattle.std.specs.FinMap.{empty, get, get-empty, get-insert, insert, remove}
use Rattle.std.specs.Option.{option_map_or, option_or, unwrap_or}
use Rattle.std.specs.Ordering.{eq_by_cmp}
use Rattle.std.specs.Cmp.Lexicographic.{nat_list_cmp_total}
use Rattle.lake_base.specs.Maps.{ByteMap, byte_order}
use Rattle.lake_base.specs.declared.digest.Digest.{Digest}
use Rattle.lake_values.specs.Ancestry.{commit_of}
use Rattle.lake_values.specs.Commit.{CommitRecordValue}
use Rattle.lake_values.specs.Entry.{EntryValue}
use Rattle.lake_values.specs.KeyMap.{KeyMapValue, ChangesValue, apply, over, value_after}
use Rattle.lake_values.specs.Merging.{merged_map, side_of, side_value}
use Rattle.lake_values.specs.Reset.{changes_after_reset, drops_path}
use Rattle.lake_values.specs.declared.commit.ResetWhat.{ResetWhat}
use Rattle.lake_values.specs.declared.commit.Strategy.{Strategy}
use Rattle.lake_values.specs.declared.commit.Strategy.TheVariants.{Refuse, SourceWins, DestWins}
use Rattle.lake_values.specs.declared.entry.Change.{Change}
use Rattle.lake_values.specs.declared.entry.Change.TheVariants.{Put, Delete}
use Rattle.lake_values.specs.declared.merge.Side.{Side}
use Rattle.lake_values.specs.declared.merge.Side.TheVariants.{Source, Destination, Neither}
use Rattle.lake_values.proofs.KeyMapLemmas.{get_apply, get_over}
use Rattle.lake_values.proofs.MergingLemmas.{get_merged}
use Rattle.lake_values.proofs.ResetLemmas.{get_reset}
use Rattle.lake_format.specs.Spelling.{commit_id}
use Rattle.lake_format.specs.declared.cut.Cut.{Cut}
use Rattle.lake_model.specs.declared.history.CopySource.{CopySource}
use Rattle.lake_model.specs.declared.history.CopySource.TheVariants as source
use Rattle.lake_model.specs.declared.history.EntryKind.{EntryKind}
use Rattle.lake_model.specs.declared.history.EntryKind.TheVariants.{Accepted, Faulted}
use Rattle.lake_model.specs.declared.history.HistoryEntry.{HistoryEntry}
use Rattle.lake_model.specs.declared.history.Operation.{Operation}
use Rattle.lake_model.specs.declared.history.Operation.TheVariants.{RepoCreate, BranchCreate, BranchDelete, TagCreate, TagDelete, TicketTake, TicketDrop, Stage}
use Rattle.lake_model.specs.declared.history.Operation.TheVariants.{Copy, Reset, Seal, Commit, Merge, Pick, NoteSet, Expire, Condemn}
use Rattle.lake_model.specs.declared.history.RepositoryCommit.{RepositoryCommit}
use Rattle.lake_model.specs.State.{Branch, Notes, Repository, State, HasLiveCommit, head_map, is_expired, map_of, now_map, sealed_map}
use Rattle.lake_model.specs.Branches.{clean_branch}
use Rattle.lake_model.specs.Commits.{Draft, MergeSides, after_repository_create, bare_repository, commit_draft, draft_on, first_draft, merge_draft, merge_sides}
use Rattle.lake_model.specs.Commits.{merged_into, new_repository, pick_draft, pick_sides, record_of, with_commit, with_draft, with_head}
use Rattle.lake_model.specs.History.{Allows, IsPossible, after, after_kind, after_operation, operation_of}
use Rattle.lake_model.specs.NoteChanges.{notes_after}
use Rattle.lake_model.specs.Parts.{changed_at, in_branch, in_repository}
use Rattle.lake_model.specs.Removal.{after_expire, with_expired}
use Rattle.lake_model.specs.Soundness.{IsSound}
use Rattle.lake_model.specs.Uncommitted.{copied_map, put_number, reset_branch, sealed_branch, with_staged, without_ticket}
use Rattle.lake_laws.proofs.ChangeLemmas.{changed_cases, insert_cases, nothing_stands, remove_stood, stood}
use Rattle.lake_laws.proofs.NamedLemmas.{HasLiveHeadsEverywhere, in_same}
use Rattle.lake_laws.proofs.NamingLemmas.{live_heads}

module _ (P : EntryValue → Type 0) where
  -- ---- maps and changes

  -- it holds of each entry of a map, and of each that changes put
  abbrev pub AllIn : KeyMapValue → Type 0
  AllIn map = (path : List ℕ) (entry : EntryValue) → get map path ≡ Some entry → P entry

  abbrev pub AllPut : ChangesValue → Type 0
  AllPut changes = (path : List ℕ) (entry : EntryValue) → get changes path ≡ Some (Put entry) → P entry

  in_nothing : AllIn empty
  in_nothing path entry is = absurd (nothing_stands path entry is)

  put_nothing : AllPut empty
  put_nothing path entry is = absurd (nothing_stands path (Put entry) is)

  said : (change : Option Change) (had : Option EntryValue) (e : EntryValue) → value_after change had ≡ Some e → (change ≡ Some (Put e)) ⊎ (had ≡ Some e)
  said None had e is = inr is
  said (Some (Put entry)) had e is = let same : entry ≡ e = cc (is) in inl (ap (λ x. Some (Put x)) same)
  said (Some Delete) had e is = absurd cc

  in_applied : (changes : ChangesValue) (map : KeyMapValue) → AllPut changes → AllIn map → AllIn (apply changes map)
  in_applied changes map puts has path entry is =
      elim (said (get changes path) (get map path) entry (sym (get_apply changes map path) ∙ is)) [
        | inl put ↦ puts path entry put
        | inr had ↦ has path entry had
      ]

  one_of : (new old : Option Change) (c : Change) → option_or new old ≡ Some c → (new ≡ Some c) ⊎ (old ≡ Some c)
  one_of None old c is = inr is
  one_of (Some x) old c is = inl is

  put_over : (new old : ChangesValue) → AllPut new → AllPut old → AllPut (over new old)
  put_over new old one two path entry is =
      elim (one_of (get new path) (get old path) (Put entry) (sym (get_over new old path) ∙ is)) [
        | inl here ↦ one path entry here
        | inr here ↦ two path entry here
      ]

  put_reset : (what : ResetWhat) (changes : ChangesValue) → AllPut changes → AllPut (changes_after_reset what changes)
  put_reset what changes puts path entry is =
      puts path entry (stood (drops_path what path) (get changes path) (Put entry) (sym (get_reset what changes path) ∙ is))

  abbrev Puts : Change → Type 0
  Puts (Put entry) = P entry
  Puts Delete = Unit {0}

  put_so : (change : Change) (entry : EntryValue) → Put entry ≡ change → Puts change → P entry
  put_so change entry is = λ puts. subst Puts (sym is) puts

  put_inserted : (changes : ChangesValue) (path : List ℕ) (change : Change) → AllPut changes → Puts change → AllPut (insert changes path change)
  put_inserted changes path change puts new at entry is =
      elim (insert_cases changes path change at (Put entry) is) [
        | inl put ↦ put_so change entry put.1 new
        | inr old ↦ puts at entry old
      ]

  of_side : (strategy : Strategy) (source dest : Option EntryValue) (side : Side) (e : EntryValue) → side_value strategy source dest side ≡ Some e
      → (source ≡ Some e) ⊎ (dest ≡ Some e)
  of_side strategy source dest Source e is = inl is
  of_side strategy source dest Destination e is = inr is
  of_side Refuse source dest Neither e is = inr is
  of_side SourceWins source dest Neither e is = inl is
  of_side DestWins source dest Neither e is = inr is

  in_merged : (strategy : Strategy) (base source dest : KeyMapValue) → AllIn source → AllIn dest → AllIn (merged_map strategy base source dest)
  in_merged strategy base source dest one two path entry is =
      elim (of_side strategy (get source path) (get dest path) (side_of (get base path) (get source path) (get dest path)) entry
      (sym (get_merged strategy base source dest path) ∙ is)) [
        | inl here ↦ one path entry here
        | inr here ↦ two path entry here
      ]

  -- ---- a repository

  abbrev pub AllOf : Branch → Type 0
  AllOf b = AllPut b.sealed × AllPut b.staged

  -- it holds of each entry of a commit that isn't expired, and of each that a branch puts
  pub record AllNamed (r : Repository) : Type 0 where
    pub committed : (id : Digest) → HasLiveCommit r id → AllIn (map_of r id)
    pub uncommitted : (name : List ℕ) (b : Branch) → get r.branches name ≡ Some b → AllOf b

  all_in_branch : (r : Repository) (branch : List ℕ) (change : Branch → Branch)
      → ((b : Branch) → get r.branches branch ≡ Some b → AllOf b → AllOf (change b)) → AllNamed r
      → AllNamed (record r { branches = changed_at branch change r.branches })
  all_in_branch r branch change keeps all = record {
    committed = λ id live. all.committed id live;
    uncommitted = λ name b is. elim (changed_cases branch change r.branches name b is) [
      | inl before ↦ all.uncommitted name b before
      | inr was ↦ subst AllOf (sym was.3) (keeps was.0 was.1 (all.uncommitted branch was.0 was.1))
    ];
  }

  clean : (id : Digest) → AllOf (clean_branch id)
  clean id = (put_nothing, put_nothing)

  all_with_clean : (r : Repository) (branch : List ℕ) (id : Digest) → AllNamed r
      → AllNamed (record r { branches = insert r.branches branch (clean_branch id) })
  all_with_clean r branch id all = record {
    committed = λ one live. all.committed one live;
    uncommitted = λ name b is. elim (insert_cases r.branches branch (clean_branch id) name b is) [
      | inl put ↦ subst AllOf (sym put.1) (clean id)
      | inr before ↦ all.uncommitted name b before
    ];
  }

  all_without_branch : (r : Repository) (branch : List ℕ) → AllNamed r → AllNamed (record r { branches = remove r.branches branch })
  all_without_branch r branch all = record {
    committed = λ id live. all.committed id live;
    uncommitted = λ name b is. all.uncommitted name b (remove_stood r.branches branch name b is);
  }

  all_without : (r : Repository) (tags : ByteMap Digest) (notes : Notes) → AllNamed r → AllNamed (record r { tags = tags; notes = notes })
  all_without r tags notes all = record { committed = λ id live. all.committed id live; uncommitted = λ name b is. all.uncommitted name b is }

  unexpired : (b : Bool) (was : Option (Unit {0})) → is_some (cond b (Some tt) was) ≡ false → is_some was ≡ false
  unexpired true was is = absurd cc
  unexpired false was is = is

  live_before : (r : Repository) (id old : Digest) → HasLiveCommit (with_expired id r) old → HasLiveCommit r old
  live_before r id old live = (
    live.0,
    unexpired (eq_by_cmp byte_order old.0 id.0) (get r.expired old.0) (ap is_some (sym (get-insert nat_list_cmp_total r.expired id.0 tt old.0)) ∙ live.1),
  )

  all_expired : (r : Repository) (id : Digest) → AllNamed r → AllNamed (with_expired id r)
  all_expired r id all = record {
    committed = λ one live. all.committed one (live_before r id one live);
    uncommitted = λ name b is. all.uncommitted name b is;
  }

  committed_with : (r : Repository) (id : Digest) (commit : CommitRecordValue) (map : KeyMapValue) → AllIn map
      → ((one : Digest) → HasLiveCommit r one → AllIn (map_of r one)) → (one : Digest) → HasLiveCommit (with_commit id commit map r) one
      → AllIn (map_of (with_commit id commit map r) one)
  committed_with r id commit map new old one live =
      subst (λ (o : Option KeyMapValue). AllIn (unwrap_or o empty)) (sym (get-insert nat_list_cmp_total r.maps id.0 map one.0))
      (by (eq_by_cmp byte_order one.0 id.0) (ap is_some (sym (get-insert nat_list_cmp_total r.commits id.0 commit one.0)) ∙ live.0))
    where
      by : (b : Bool) → IsSome (cond b (Some commit) (commit_of r.commits one)) → AllIn (unwrap_or (cond b (Some map) (get r.maps one.0)) empty)
      by true there = new
      by false there = old one (there, live.1)

  all_with_draft : (cut : Cut) (branch : List ℕ) (draft : Draft) (r : Repository) → AllIn draft.objects → AllNamed r
      → AllNamed (with_draft cut branch draft r)
  all_with_draft cut branch draft r new all =
      let commit = record_of cut r.commits draft in
      let changed = all_in_branch r branch (with_head (commit_id commit)) (λ b is had. (put_nothing, had.1)) all in record {
        committed = λ id live. committed_with r (commit_id commit) commit draft.objects new all.committed id (live.0, live.1);
        uncommitted = λ name b is. changed.uncommitted name b is;
      }

  all_new : (cut : Cut) (date : ℕ) (branch : List ℕ) → AllNamed (new_repository cut date branch)
  all_new cut date branch =
      let commit = record_of cut empty (first_draft date) in record {
        committed = λ id live.
            committed_with (bare_repository date branch) (commit_id commit) commit empty in_nothing
            (λ one there. absurd (let none = get-empty {X = CommitRecordValue} byte_order one.0 in cc (there.0, none)))
            id (live.0, live.1);
        uncommitted = λ name b is. elim (insert_cases empty branch (clean_branch (commit_id commit)) name b is) [
          | inl put ↦ subst AllOf (sym put.1) (clean (commit_id commit))
          | inr before ↦ absurd (nothing_stands name b before)
        ];
      }

  -- ---- a lake

  -- it holds of each entry that the lake names
  abbrev pub AllLive : State → Type 0
  AllLive state = (name : List ℕ) (r : Repository) → get state.repositories name ≡ Some r → AllNamed r

  all_in_repository : (state : State) (repo : List ℕ) (change : Repository → Repository)
      → ((r : Repository) → get state.repositories repo ≡ Some r → AllNamed r → AllNamed (change r)) → AllLive state
      → AllLive (in_repository repo change state)
  all_in_repository state repo change keeps all name r is =
      elim (changed_cases repo change state.repositories name r is) [
        | inl before ↦ all name r before
        | inr was ↦ subst AllNamed (sym was.3) (keeps was.0 was.1 (all repo was.0 was.1))
      ]

  all_with_branch : (state : State) (repo branch : List ℕ) (change : Branch → Branch)
      → ((r : Repository) (b : Branch) → get state.repositories repo ≡ Some r → get r.branches branch ≡ Some b → AllOf b → AllOf (change b))
      → AllLive state → AllLive (in_branch repo branch change state)
  all_with_branch state repo branch change keeps =
      all_in_repository state repo (λ r. record r { branches = changed_at branch change r.branches })
      (λ r there. all_in_branch r branch change (λ b at. keeps r b there at))

  all_drafted : (state : State) (repo branch : List ℕ) (draft : Repository → Branch → Draft)
      → ((r : Repository) (b : Branch) → get state.repositories repo ≡ Some r → get r.branches branch ≡ Some b → AllIn (draft r b).objects)
      → AllLive state → AllLive (in_repository repo (draft_on state.cut branch draft) state)
  all_drafted state repo branch draft new =
      all_in_repository state repo (draft_on state.cut branch draft) (λ r there all. by r there (get r.branches branch) refl all)
    where
      by : (r : Repository) → get state.repositories repo ≡ Some r → (o : Option Branch) → get r.branches branch ≡ o → AllNamed r
          → AllNamed (option_map_or (λ b. with_draft state.cut branch (draft r b) r) o r)
      by r there None at all = all
      by r there (Some b) at all = all_with_draft state.cut branch (draft r b) r (new r b there at) all

  module _ (state : State) (heads : HasLiveHeadsEverywhere state) (all : AllLive state) (repo : List ℕ) (r : Repository)
      (there : get state.repositories repo ≡ Some r) where
    pub in_head : (branch : List ℕ) (b : Branch) → get r.branches branch ≡ Some b → AllIn (head_map r b)
    in_head branch b at = (all repo r there).committed b.head (heads repo r there branch b at)

    pub in_sealed : (branch : List ℕ) (b : Branch) → get r.branches branch ≡ Some b → AllIn (sealed_map r b)
    in_sealed branch b at = in_applied b.sealed (head_map r b) ((all repo r there).uncommitted branch b at).0 (in_head branch b at)

    -- what is read on a branch
    pub in_now : (branch : List ℕ) (b : Branch) → get r.branches branch ≡ Some b → AllIn (now_map r b)
    in_now branch b at = in_applied b.staged (sealed_map r b) ((all repo r there).uncommitted branch b at).1 (in_sealed branch b at)

    in_copied : (from : CopySource) (path : List ℕ) (entry : EntryValue)
        → option_and_then (λ (map : KeyMapValue). get map path) (copied_map r from) ≡ Some entry → P entry
    in_copied (source.Branch branch) path entry copied = by (get r.branches branch) refl copied
      where
        by : (o : Option Branch) → get r.branches branch ≡ o → option_and_then (λ (map : KeyMapValue). get map path) (option_map (now_map r) o) ≡ Some entry
            → P entry
        by None at is = absurd cc
        by (Some b) at is = in_now branch b at path entry is
    in_copied (source.Commit id) path entry copied = by (is_some (commit_of r.commits id)) (is_expired r id) refl refl copied
      where
        by : (some expired : Bool) → is_some (commit_of r.commits id) ≡ some → is_expired r id ≡ expired
            → option_and_then (λ (map : KeyMapValue). get map path) (cond (some && not expired) (Some (map_of r id)) None) ≡ Some entry → P entry
        by true false some live is = (all repo r there).committed id (some, live) path entry is
        by true true some expired is = absurd cc
        by false expired none either is = absurd cc

    in_merge : (branch : List ℕ) (b : Branch) → get r.branches branch ≡ Some b → (sides : MergeSides) (id : Digest) → HasLiveCommit r id
        → sides.source ≡ map_of r id → AllIn (merged_into r b sides)
    in_merge branch b at sides id live is =
        in_merged sides.strategy sides.base sides.source (head_map r b)
        (subst AllIn (sym is) ((all repo r there).committed id live)) (in_head branch b at)

  all_staged : (state : State) (repo branch path : List ℕ) (change : Change) → Puts change → AllLive state
      → AllLive (in_branch repo branch (with_staged path change) state)
  all_staged state repo branch path change new =
      all_with_branch state repo branch (with_staged path change) (λ r b there at had. (had.0, put_inserted b.staged path change had.1 new))

  all_staged_own : (state : State) (repo branch path : List ℕ) (change : Change) (own : Option ℕ) → Puts change → AllLive state
      → AllLive (in_branch repo branch (with_staged path change) (without_ticket own state))
  all_staged_own state repo branch path change None new all = all_staged state repo branch path change new all
  all_staged_own state repo branch path change (Some number) new all = all_staged (without_ticket (Some number) state) repo branch path change new all

  all_after_expire : (commits : List RepositoryCommit) (state : State) → AllLive state → AllLive (after_expire commits state)
  all_after_expire [] state all = all
  all_after_expire (one ∷ commits) state all =
      all_after_expire commits (in_repository one.repo (with_expired one.commit) state)
      (all_in_repository state one.repo (with_expired one.commit) (λ r there had. all_expired r one.commit had) all)

  all_created : (state : State) (repo branch : List ℕ) (date : ℕ) → AllLive state → AllLive (after_repository_create repo branch date state)
  all_created state repo branch date all name r is =
      elim (insert_cases state.repositories repo (new_repository state.cut date branch) name r is) [
        | inl put ↦ subst AllNamed (sym put.1) (all_new state.cut date branch)
        | inr before ↦ all name r before
      ]

  -- what an operation stages anew
  abbrev pub Stages : Operation → Type 0
  Stages (Stage repo branch path (Put entry)) = P entry
  Stages operation = Unit {0}

  stages_so : (repo branch path : List ℕ) (change : Change) → Stages (Stage repo branch path change) → Puts change
  stages_so repo branch path (Put entry) is = is
  stages_so repo branch path Delete is = tt

  all_operation : (state : State) (seat : ℕ) (operation : Operation) → HasLiveHeadsEverywhere state → IsPossible state seat operation → Stages operation
      → AllLive state → AllLive (after_operation seat operation state)
  all_operation state seat (RepoCreate repo branch date) heads may new all = all_created state repo branch date all
  all_operation state seat (BranchCreate repo branch commit) heads may new all =
      all_in_repository state repo (λ r. record r { branches = insert r.branches branch (clean_branch commit) })
      (λ r there had. all_with_clean r branch commit had) all
  all_operation state seat (BranchDelete repo branch) heads may new all =
      all_in_repository state repo (λ r. record r { branches = remove r.branches branch }) (λ r there had. all_without_branch r branch had) all
  all_operation state seat (TagCreate repo tag commit) heads may new all =
      all_in_repository state repo (λ r. record r { tags = insert r.tags tag commit })
      (λ r there had. all_without r (insert r.tags tag commit) r.notes had) all
  all_operation state seat (TagDelete repo tag) heads may new all =
      all_in_repository state repo (λ r. record r { tags = remove r.tags tag })
      (λ r there had. all_without r (remove r.tags tag) r.notes had) all
  all_operation state seat (TicketTake repo branch taken) heads may new all = all
  all_operation state seat (TicketDrop dropped) heads may new all = all
  all_operation state seat (Stage repo branch path change) heads may new all =
      all_staged_own state repo branch path change (put_number change) (stages_so repo branch path change new) all
  all_operation state seat (Copy repo branch path from from_path entry) heads may new all =
      all_staged state repo branch path (Put entry) (in_copied state heads all repo may.0 may.1 from from_path entry may.2.2.1) all
  all_operation state seat (Reset repo branch what) heads may new all =
      all_with_branch state repo branch (reset_branch what)
      (λ r b there at had. (put_reset what b.sealed had.0, put_reset what b.staged had.1)) all
  all_operation state seat (Seal repo branch why) heads may new all =
      all_with_branch state repo branch sealed_branch (λ r b there at had. (put_over b.staged b.sealed had.1 had.0, put_nothing)) all
  all_operation state seat (Commit repo branch about) heads may new all =
      all_drafted state repo branch (λ r b. commit_draft r b about) (λ r b there at. in_sealed state heads all repo r there branch b at) all
  all_operation state seat (Merge repo branch id strategy about) heads may new all =
      all_drafted state repo branch (merge_draft id strategy about) (λ r b there at.
      in_merge state heads all repo r there branch b at (merge_sides r b id strategy) id
      (in_same state repo (λ s. HasLiveCommit s id) r there (may.0, may.1, may.2.2.live)) refl) all
  all_operation state seat (Pick repo branch base id strategy about) heads may new all =
      all_drafted state repo branch (pick_draft base id strategy about) (λ r b there at.
      in_merge state heads all repo r there branch b at (pick_sides r base id strategy) id
      (in_same state repo (λ s. HasLiveCommit s id) r there (may.0, may.1, may.2.2.live)) refl) all
  all_operation state seat (NoteSet repo name value) heads may new all =
      all_in_repository state repo (λ r. record r { notes = notes_after name value r.notes })
      (λ r there had. all_without r r.tags (notes_after name value r.notes) had) all
  all_operation state seat (Expire now commits) heads may new all = all_after_expire commits state all
  all_operation state seat (Condemn numbers) heads may new all = all

  abbrev pub StagesAnew : EntryKind → Type 0
  StagesAnew (Accepted operation) = Stages operation
  StagesAnew (Faulted operation) = Unit {0}

  all_kind : (state : State) (seat : ℕ) (kind : EntryKind) → HasLiveHeadsEverywhere state → IsPossible state seat (operation_of kind) → StagesAnew kind
      → AllLive state → AllLive (after_kind seat kind state)
  all_kind state seat (Accepted operation) heads may new all = all_operation state seat operation heads may new all
  all_kind state seat (Faulted operation) heads may new all = all

  -- after a legal entry of a sound lake
  pub all_after : (state : State) (entry : HistoryEntry) → IsSound state → Allows state entry → StagesAnew entry.kind → AllLive state
      → AllLive (after state entry)
  all_after state entry sound may new all = all_kind state entry.by.seat entry.kind (live_heads state sound) may.possible new all
