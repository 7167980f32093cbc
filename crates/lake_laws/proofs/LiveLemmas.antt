-- A number that is live after an entry was live, or the entry staged it; and what is condemned is garbage from then on.
use Rattle.std.proofs.Common.{◌≡◌, ℕ, List, [], ◌∷◌, ◌++◌, refl, sym, subst, ◌⊎◌, inl, inr}
use Rattle.std.specs.Prelude.{Option, Some, None}
use Rattle.std.specs.FinMap.{empty, insert, remove}
use Rattle.std.specs.List.{Contains}
use Rattle.lake_values.proofs.OrderLemmas.{Contains-first, Contains-later}
use Rattle.lake_values.specs.declared.entry.Change.{Change}
use Rattle.lake_values.specs.declared.entry.Change.TheVariants.{Put}
use Rattle.lake_model.specs.declared.history.By.{By}
use Rattle.lake_model.specs.declared.history.EntryKind.{EntryKind}
use Rattle.lake_model.specs.declared.history.EntryKind.TheVariants.{Accepted, Faulted}
use Rattle.lake_model.specs.declared.history.HistoryEntry.{HistoryEntry}
use Rattle.lake_model.specs.declared.history.Operation.{Operation}
use Rattle.lake_model.specs.declared.history.Operation.TheVariants.{RepoCreate, BranchCreate, BranchDelete, TagCreate, TagDelete, TicketTake, TicketDrop, Stage}
use Rattle.lake_model.specs.declared.history.Operation.TheVariants.{Copy, Reset, Seal, Commit, Merge, Pick, NoteSet, Expire, Condemn}
use Rattle.lake_model.specs.declared.history.RepositoryCommit.{RepositoryCommit}
use Rattle.lake_model.specs.State.{Branch, Repository, State, HasLiveCommit}
use Rattle.lake_model.specs.Branches.{clean_branch}
use Rattle.lake_model.specs.Commits.{commit_draft, merge_draft, merge_sides, pick_draft, pick_sides}
use Rattle.lake_model.specs.History.{Allows, IsLegal, IsPossible, accepted_entry, after, after_kind, after_operation, operation_of, replay}
use Rattle.lake_model.specs.Naming.{IsGarbage, IsNamed}
use Rattle.lake_model.specs.NoteChanges.{notes_after}
use Rattle.lake_model.specs.Parts.{in_branch, in_repository}
use Rattle.lake_model.specs.Removal.{after_expire, with_expired}
use Rattle.lake_model.specs.Soundness.{IsSound}
use Rattle.lake_model.specs.Uncommitted.{put_number, reset_branch, sealed_branch, with_staged, without_ticket}
use Rattle.lake_laws.specs.LiveNumbers.{IsLive, IsStagedIn, KindStages, OperationStages, StagesNumber}
use Rattle.lake_laws.proofs.ChangeLemmas.{no_number}
use Rattle.lake_laws.proofs.HistoryLemmas.{IsLegal-earlier, from_end, legal_before, legal_behind, replay-append}
use Rattle.lake_laws.proofs.NamedLemmas.{HasLiveHeadsEverywhere, in_same, named_branch_fewer, named_by_copied, named_by_merge, named_by_sealed_map}
use Rattle.lake_laws.proofs.NamedLemmas.{named_fewer, named_with_draft, named_with_staged}
use Rattle.lake_laws.proofs.NamesLemmas.{Names, Puts, names_expired, names_with_clean, names_without, names_without_branch}
use Rattle.lake_laws.proofs.NamingLemmas.{fewer_reset, fewer_seal, live_heads, named_repository_create}
use Rattle.lake_laws.proofs.SoundnessLemmas.{IsSound-after, IsSound-replay, garbage_replay}

-- ---- one entry

-- a lake without its tickets, where only what is live is named
abbrev unticketed : State → State
unticketed state = record state { tickets = empty }

live_of : (state : State) (number : ℕ) → IsNamed (unticketed state) number → IsLive state number
live_of state number (inl live) = live
live_of state number (inr ticket) = absurd (no_number ℕ number ticket)

module _ (state : State) (number : ℕ) where
  live_fewer : (repo : List ℕ) (change : Repository → Repository) → ((r : Repository) → Names (change r) number → Names r number)
      → IsLive (in_repository repo change state) number → IsLive state number
  live_fewer repo change fewer live = live_of state number (named_fewer (unticketed state) number repo change fewer (inl live))

  live_branch_fewer : (repo branch : List ℕ) (change : Branch → Branch) → ((b : Branch) → Puts (change b) number → Puts b number)
      → IsLive (in_branch repo branch change state) number → IsLive state number
  live_branch_fewer repo branch change fewer live = live_of state number (named_branch_fewer (unticketed state) number repo branch change fewer (inl live))

  live_with_staged : (repo branch path : List ℕ) (change : Change) → IsLive (in_branch repo branch (with_staged path change) state) number
      → IsLive state number ⊎ (put_number change ≡ Some number)
  live_with_staged repo branch path change live =
      elim (named_with_staged (unticketed state) number repo branch path change (inl live)) [
        | inl before ↦ inl (live_of state number before)
        | inr put ↦ inr put
      ]

  live_stage : (repo branch path : List ℕ) (change : Change) (o : Option ℕ)
      → IsLive (in_branch repo branch (with_staged path change) (without_ticket o state)) number → IsLive state number ⊎ (put_number change ≡ Some number)
  live_stage repo branch path change None live = live_with_staged repo branch path change live
  live_stage repo branch path change (Some own) live = live_with_staged repo branch path change live

live_expire : (state : State) (commits : List RepositoryCommit) (number : ℕ) → IsLive (after_expire commits state) number → IsLive state number
live_expire state [] number live = live
live_expire state (one ∷ commits) number live =
    live_fewer state number one.repo (with_expired one.commit) (λ r. names_expired r number one.commit)
    (live_expire (in_repository one.repo (with_expired one.commit) state) commits number live)

live_operation : (state : State) (seat : ℕ) (operation : Operation) (number : ℕ) → HasLiveHeadsEverywhere state → IsPossible state seat operation
    → IsLive (after_operation seat operation state) number → IsLive state number ⊎ OperationStages number operation
live_operation state seat (RepoCreate repo branch date) number heads may live =
    inl (live_of state number (named_repository_create (unticketed state) repo branch date number (inl live)))
live_operation state seat (BranchCreate repo branch commit) number heads may live =
    inl (live_fewer state number repo (λ r. record r { branches = insert r.branches branch (clean_branch commit) })
    (λ r. names_with_clean r number branch commit) live)
live_operation state seat (BranchDelete repo branch) number heads may live =
    inl (live_fewer state number repo (λ r. record r { branches = remove r.branches branch }) (λ r. names_without_branch r number branch) live)
live_operation state seat (TagCreate repo tag commit) number heads may live =
    inl (live_fewer state number repo (λ r. record r { tags = insert r.tags tag commit }) (λ r. names_without r number (insert r.tags tag commit) r.notes) live)
live_operation state seat (TagDelete repo tag) number heads may live =
    inl (live_fewer state number repo (λ r. record r { tags = remove r.tags tag }) (λ r. names_without r number (remove r.tags tag) r.notes) live)
live_operation state seat (TicketTake repo branch taken) number heads may live = inl live
live_operation state seat (TicketDrop dropped) number heads may live = inl live
live_operation state seat (Stage repo branch path change) number heads may live =
    live_stage state number repo branch path change (put_number change) live
live_operation state seat (Copy repo branch path from from_path entry) number heads may live =
    elim (live_with_staged state number repo branch path (Put entry) live) [
      | inl before ↦ inl before
      | inr own ↦ inl (live_of state number (named_by_copied (unticketed state) number heads repo may.0 may.1 from from_path entry may.2.2.1 own))
    ]
live_operation state seat (Reset repo branch what) number heads may live =
    inl (live_branch_fewer state number repo branch (reset_branch what) (fewer_reset what number) live)
live_operation state seat (Seal repo branch why) number heads may live =
    inl (live_branch_fewer state number repo branch sealed_branch (fewer_seal number) live)
live_operation state seat (Commit repo branch about) number heads may live =
    elim (named_with_draft (unticketed state) number repo branch (λ r b. commit_draft r b about) (inl live)) [
      | inl before ↦ inl (live_of state number before)
      | inr new ↦ inl (live_of state number (named_by_sealed_map (unticketed state) number heads repo new.0 new.1 branch new.2.0 new.2.1 new.2.2))
    ]
live_operation state seat (Merge repo branch id strategy about) number heads may live =
    elim (named_with_draft (unticketed state) number repo branch (merge_draft id strategy about) (inl live)) [
      | inl before ↦ inl (live_of state number before)
      | inr new ↦
          let r = new.0 in
          let b = new.2.0 in
          let whole = in_same state repo (λ s. HasLiveCommit s id) r new.1 (may.0, may.1, may.2.2.live) in
          inl (live_of state number
          (named_by_merge (unticketed state) number heads repo r new.1 branch b new.2.1 (merge_sides r b id strategy) id whole refl new.2.2))
    ]
live_operation state seat (Pick repo branch base id strategy about) number heads may live =
    elim (named_with_draft (unticketed state) number repo branch (pick_draft base id strategy about) (inl live)) [
      | inl before ↦ inl (live_of state number before)
      | inr new ↦
          let r = new.0 in
          let b = new.2.0 in
          let whole = in_same state repo (λ s. HasLiveCommit s id) r new.1 (may.0, may.1, may.2.2.live) in
          inl (live_of state number
          (named_by_merge (unticketed state) number heads repo r new.1 branch b new.2.1 (pick_sides r base id strategy) id whole refl new.2.2))
    ]
live_operation state seat (NoteSet repo name value) number heads may live =
    inl (live_fewer state number repo (λ r. record r { notes = notes_after name value r.notes })
    (λ r. names_without r number r.tags (notes_after name value r.notes)) live)
live_operation state seat (Expire now commits) number heads may live = inl (live_expire state commits number live)
live_operation state seat (Condemn numbers) number heads may live = inl live

live_kind : (state : State) (seat : ℕ) (kind : EntryKind) (number : ℕ) → HasLiveHeadsEverywhere state → IsPossible state seat (operation_of kind)
    → IsLive (after_kind seat kind state) number → IsLive state number ⊎ KindStages number kind
live_kind state seat (Accepted operation) number heads may live = live_operation state seat operation number heads may live
live_kind state seat (Faulted operation) number heads may live = inl live

-- what is live after an entry was live, or the entry staged it
pub live_after : (state : State) (entry : HistoryEntry) (number : ℕ) → IsSound state → Allows state entry → IsLive (after state entry) number
    → IsLive state number ⊎ StagesNumber number entry
live_after state entry number sound may live = live_kind state entry.by.seat entry.kind number (live_heads state sound) may.possible live

-- ---- histories

live_along : (state : State) (entries : List HistoryEntry) (number : ℕ) → IsSound state → IsLegal state entries → IsLive (replay state entries) number
    → IsLive state number ⊎ IsStagedIn entries number
live_along state [] number sound legal live = inl live
live_along state (entry ∷ entries) number sound legal live =
    elim (live_along (after state entry) entries number (IsSound-after state entry sound legal.0) legal.1 live) [
      | inl now_live ↦ elim (live_after state entry number sound legal.0 now_live) [
        | inl before ↦ inl before
        | inr stages ↦ inr (record { entry = entry; among = Contains-first entry entries; stages = stages })
      ]
      | inr later ↦ inr (record { entry = later.entry; among = Contains-later entry later.entry entries later.among; stages = later.stages })
    ]

-- what is live at a later position was live at the earlier one, or an entry between staged it
pub live_between : (state : State) (seen history more : List HistoryEntry) (number : ℕ) → IsSound state → seen ≡ history ++ more → IsLegal state seen
    → IsLive (replay state seen) number → IsLive (replay state history) number ⊎ IsStagedIn more number
live_between state seen history more number sound is legal live =
    live_along (replay state history) more number (IsSound-replay state history sound (legal_before state seen history more is legal))
    (legal_behind state seen history more is legal) (from_end state seen history more is (λ s. IsLive s number) live)

-- ---- what is condemned

module _ (state : State) (seen before : List HistoryEntry) (by : By) (numbers : List ℕ) (number : ℕ) where
  -- is garbage before it is
  pub garbage_condemned : (later : List HistoryEntry) → seen ≡ before ++ accepted_entry by (Condemn numbers) ∷ later → IsLegal state seen
      → Contains numbers number → IsGarbage (replay state before) number
  garbage_condemned later is legal listed =
      (legal_behind state seen before (accepted_entry by (Condemn numbers) ∷ later) is legal).0.possible.garbage number listed

  -- and later
  pub garbage_later : (between later : List HistoryEntry) → IsSound state → seen ≡ before ++ (accepted_entry by (Condemn numbers) ∷ (between ++ later))
      → IsLegal state seen → Contains numbers number → IsGarbage (replay state (before ++ accepted_entry by (Condemn numbers) ∷ between)) number
  garbage_later between later sound is legal listed =
      let entry = accepted_entry by (Condemn numbers) in
      let more = entry ∷ (between ++ later) in
      let here = replay state before in
      let still = IsSound-replay state before sound (legal_before state seen before more is legal) in
      let follows = IsLegal-earlier here (entry ∷ between) later (legal_behind state seen before more is legal) in
      subst (λ s. IsGarbage s number) (sym (replay-append state before (entry ∷ between)))
      (garbage_replay here (entry ∷ between) number still follows (garbage_condemned (between ++ later) is legal listed))
