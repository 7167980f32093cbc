-- The numbers of a lake after an entry: what is named was named or is the one given out, and what is gone stays unnamed.
use Rattle.std.proofs.Common.{◌≡◌, ◌<◌, ◌≤◌, ◌+◌, ℕ, List, [], ◌∷◌, refl, sym, ap, subst, ◌∙◌, ◌⊎◌, inl, inr, arith}
use Rattle.std.specs.Prelude.{Option, Some, None, IsSome, IfSome, is_some, codes}
use Rattle.std.specs.FinMap.{FinMap, empty, get, insert}
use Rattle.std.specs.List.{Contains}
use Rattle.std.specs.Ordering.{nat_cmp}
use Rattle.lake_format.specs.declared.cut.Cut.{Cut}
use Rattle.lake_values.proofs.OrderLemmas.{Contains-first, Contains-later}
use Rattle.lake_values.specs.declared.commit.ResetWhat.{ResetWhat}
use Rattle.lake_values.specs.declared.entry.Change.{Change}
use Rattle.lake_values.specs.declared.entry.Change.TheVariants.{Put}
use Rattle.lake_model.specs.declared.history.EntryKind.{EntryKind}
use Rattle.lake_model.specs.declared.history.EntryKind.TheVariants.{Accepted, Faulted}
use Rattle.lake_model.specs.declared.history.HistoryEntry.{HistoryEntry}
use Rattle.lake_model.specs.declared.history.Operation.{Operation}
use Rattle.lake_model.specs.declared.history.Operation.TheVariants.{RepoCreate, BranchCreate, BranchDelete, TagCreate, TagDelete, TicketTake, TicketDrop, Stage}
use Rattle.lake_model.specs.declared.history.Operation.TheVariants.{Copy, Reset, Seal, Commit, Merge, Pick, NoteSet, Expire, Condemn}
use Rattle.lake_model.specs.declared.history.RepositoryCommit.{RepositoryCommit}
use Rattle.lake_model.specs.State.{Branch, State, HasLiveCommit}
use Rattle.lake_model.specs.Commits.{after_repository_create, commit_draft, merge_draft, merge_sides, pick_draft, pick_sides}
use Rattle.lake_model.specs.History.{Allows, IsPossible, after, after_kind, after_operation, operation_of}
use Rattle.lake_model.specs.Naming.{IsGarbage, IsNamed}
use Rattle.lake_model.specs.NoteChanges.{notes_after}
use Rattle.lake_model.specs.Parts.{in_branch, in_repository}
use Rattle.lake_model.specs.Removal.{after_expire, with_expired, with_gone}
use Rattle.lake_model.specs.Soundness.{IsSound, fresh}
use Rattle.lake_model.specs.Uncommitted.{HasTicket, after_stage, after_ticket_drop, after_ticket_take, put_number, reset_branch, sealed_branch, with_staged}
use Rattle.lake_model.specs.Uncommitted.{without_ticket}
use Rattle.lake_laws.proofs.ChangeLemmas.{insert_cases, no_number, nothing_stands, number_cases, number_stood}
use Rattle.lake_laws.proofs.InMapLemmas.{put_nothing, put_over, put_reset}
use Rattle.lake_laws.proofs.NamesLemmas.{Names, Puts, names_expired, names_with_clean, names_without, names_without_branch, new_names}
use Rattle.lake_laws.proofs.NamedLemmas.{HasLiveHeadsEverywhere, in_same, named_branch_fewer, named_by, named_by_copied, named_by_merge, named_by_sealed_map}
use Rattle.lake_laws.proofs.NamedLemmas.{named_fewer, named_with_draft, named_with_staged}

-- heads of a sound lake are live
pub live_heads : (state : State) → IsSound state → HasLiveHeadsEverywhere state
live_heads state sound name r there = (sound.repositories name r there).heads

-- ---- what is named

-- a number is the next one, and the lake goes on to the number after it
abbrev IsTaken : State → State → ℕ → Type 0
IsTaken state now number = (number ≡ state.next_number) × (now.next_number ≡ state.next_number + 1)

pub named_repository_create : (state : State) (repo branch : List ℕ) (date number : ℕ) → IsNamed (after_repository_create repo branch date state) number
    → IsNamed state number
named_repository_create state repo branch date number (inr ticket) = inr ticket
named_repository_create state repo branch date number (inl n) =
    elim (insert_cases state.repositories repo _ n.name n.repository n.stands) [
      | inl put ↦ absurd (new_names state.cut date branch number (subst (λ r. Names r number) put.1 n.names))
      | inr stood ↦ named_by state number n.name n.repository stood n.names
    ]

named_ticket_take : (state : State) (seat taken number : ℕ) → taken ≡ state.next_number → IsNamed (after_ticket_take seat taken state) number
    → IsNamed state number ⊎ IsTaken state (after_ticket_take seat taken state) number
named_ticket_take state seat taken number next (inl n) = inl (inl n)
named_ticket_take state seat taken number next (inr ticket) =
    elim (number_cases state.tickets taken seat number ticket) [
      | inl same ↦ inr (same ∙ next, ap (λ n. n + 1) next)
      | inr was ↦ inl (inr was)
    ]

named_ticket_drop : (state : State) (dropped number : ℕ) → IsNamed (after_ticket_drop dropped state) number → IsNamed state number
named_ticket_drop state dropped number (inl n) = inl n
named_ticket_drop state dropped number (inr ticket) = inr (number_stood state.tickets dropped number ticket)

module _ (state : State) (seat : ℕ) (repo branch path : List ℕ) (change : Change) (number : ℕ) where
  named_staged_by : (o : Option ℕ) → put_number change ≡ o → IfSome o (HasTicket state seat)
      → IsNamed (in_branch repo branch (with_staged path change) (without_ticket o state)) number → IsNamed state number
  named_staged_by None e ticket named =
      elim (named_with_staged state number repo branch path change named) [
        | inl before ↦ before
        | inr put ↦ absurd cc
      ]
  named_staged_by (Some own) e ticket named =
      elim (named_with_staged (after_ticket_drop own state) number repo branch path change named) [
        | inl before ↦ named_ticket_drop state own number before
        | inr put ↦ let same : own ≡ number = cc in inr (ap is_some (subst (λ n. get state.tickets n ≡ Some seat) same ticket))
      ]

  named_stage : IfSome (put_number change) (HasTicket state seat) → IsNamed (after_stage repo branch path change state) number → IsNamed state number
  named_stage ticket named = named_staged_by (put_number change) refl ticket named

pub fewer_reset : (what : ResetWhat) (number : ℕ) (b : Branch) → Puts (reset_branch what b) number → Puts b number
fewer_reset what number b (inl put) = inl (put_reset number what b.sealed put)
fewer_reset what number b (inr put) = inr (put_reset number what b.staged put)

pub fewer_seal : (number : ℕ) (b : Branch) → Puts (sealed_branch b) number → Puts b number
fewer_seal number b (inl put) = elim (put_over number b.staged b.sealed put) [ inl new ↦ inr new | inr old ↦ inl old ]
fewer_seal number b (inr put) = absurd (put_nothing number put)

named_expire : (state : State) (commits : List RepositoryCommit) (number : ℕ) → IsNamed (after_expire commits state) number → IsNamed state number
named_expire state [] number named = named
named_expire state (one ∷ commits) number named =
    named_fewer state number one.repo (with_expired one.commit) (λ r. names_expired r number one.commit)
    (named_expire (in_repository one.repo (with_expired one.commit) state) commits number named)

-- what is named after an operation was named, or is the number that it gives out
named_operation : (state : State) (seat : ℕ) (operation : Operation) (number : ℕ) → HasLiveHeadsEverywhere state → IsPossible state seat operation
    → IsNamed (after_operation seat operation state) number
    → IsNamed state number ⊎ IsTaken state (after_operation seat operation state) number
named_operation state seat (RepoCreate repo branch date) number heads may named = inl (named_repository_create state repo branch date number named)
named_operation state seat (BranchCreate repo branch commit) number heads may named =
    inl (named_fewer state number repo _ (λ r. names_with_clean r number branch commit) named)
named_operation state seat (BranchDelete repo branch) number heads may named =
    inl (named_fewer state number repo _ (λ r. names_without_branch r number branch) named)
named_operation state seat (TagCreate repo tag commit) number heads may named =
    inl (named_fewer state number repo _ (λ r. names_without r number (insert r.tags tag commit) r.notes) named)
named_operation state seat (TagDelete repo tag) number heads may named = inl (named_fewer state number repo _ (λ r. names_without r number _ r.notes) named)
named_operation state seat (TicketTake repo branch taken) number heads may named = named_ticket_take state seat taken number may.1 named
named_operation state seat (TicketDrop dropped) number heads may named = inl (named_ticket_drop state dropped number named)
named_operation state seat (Stage repo branch path change) number heads may named = inl (named_stage state seat repo branch path change number may.1 named)
named_operation state seat (Copy repo branch path from from_path entry) number heads may named =
    elim (named_with_staged state number repo branch path (Put entry) named) [
      | inl before ↦ inl before
      | inr own ↦ inl (named_by_copied state number heads repo may.0 may.1 from from_path entry may.2.2.1 own)
    ]
named_operation state seat (Reset repo branch what) number heads may named =
    inl (named_branch_fewer state number repo branch (reset_branch what) (fewer_reset what number) named)
named_operation state seat (Seal repo branch why) number heads may named =
    inl (named_branch_fewer state number repo branch sealed_branch (fewer_seal number) named)
named_operation state seat (Commit repo branch about) number heads may named =
    elim (named_with_draft state number repo branch (λ r b. commit_draft r b about) named) [
      | inl before ↦ inl before
      | inr new ↦ inl (named_by_sealed_map state number heads repo new.0 new.1 branch new.2.0 new.2.1 new.2.2)
    ]
named_operation state seat (Merge repo branch id strategy about) number heads may named =
    elim (named_with_draft state number repo branch (merge_draft id strategy about) named) [
      | inl before ↦ inl before
      | inr new ↦
          let live = in_same state repo (λ r. HasLiveCommit r id) new.0 new.1 (may.0, may.1, may.2.2.live) in
          inl (named_by_merge state number heads repo new.0 new.1 branch new.2.0 new.2.1 (merge_sides new.0 new.2.0 id strategy) id live refl new.2.2)
    ]
named_operation state seat (Pick repo branch base id strategy about) number heads may named =
    elim (named_with_draft state number repo branch (pick_draft base id strategy about) named) [
      | inl before ↦ inl before
      | inr new ↦
          let live = in_same state repo (λ r. HasLiveCommit r id) new.0 new.1 (may.0, may.1, may.2.2.live) in
          inl (named_by_merge state number heads repo new.0 new.1 branch new.2.0 new.2.1 (pick_sides new.0 base id strategy) id live refl new.2.2)
    ]
named_operation state seat (NoteSet repo name value) number heads may named =
    inl (named_fewer state number repo _ (λ r. names_without r number r.tags (notes_after name value r.notes)) named)
named_operation state seat (Expire now commits) number heads may named = inl (named_expire state commits number named)
named_operation state seat (Condemn numbers) number heads may named = inl named

named_kind : (state : State) (seat : ℕ) (kind : EntryKind) (number : ℕ) → HasLiveHeadsEverywhere state → IsPossible state seat (operation_of kind)
    → IsNamed (after_kind seat kind state) number
    → IsNamed state number ⊎ IsTaken state (after_kind seat kind state) number
named_kind state seat (Accepted operation) number heads may named = named_operation state seat operation number heads may named
named_kind state seat (Faulted operation) number heads may named = inl named

named_with_heads : (state : State) (entry : HistoryEntry) (number : ℕ) → HasLiveHeadsEverywhere state → Allows state entry → IsNamed (after state entry) number
    → IsNamed state number ⊎ IsTaken state (after state entry) number
named_with_heads state entry number heads may named = named_kind state entry.by.seat entry.kind number heads may.possible named

-- what is named after an entry was named, or is the number that it gives out
pub named_after : (state : State) (entry : HistoryEntry) (number : ℕ) → IsSound state → Allows state entry → IsNamed (after state entry) number
    → IsNamed state number ⊎ ((number ≡ state.next_number) × ((after state entry).next_number ≡ state.next_number + 1))
named_after state entry number sound may named = named_with_heads state entry number (live_heads state sound) may named

-- ---- the next number, and the numbers that are gone

-- the next number and the gone ones stay
abbrev pub AreLeft : State → State → Type 0
AreLeft state now = (now.next_number ≡ state.next_number) × (now.gone ≡ state.gone)

pub left_without : (o : Option ℕ) (state : State) → AreLeft state (without_ticket o state)
left_without None state = (refl, refl)
left_without (Some number) state = (refl, refl)

pub left_expire : (commits : List RepositoryCommit) (state : State) → AreLeft state (after_expire commits state)
left_expire [] state = (refl, refl)
left_expire (one ∷ commits) state = left_expire commits (in_repository one.repo (with_expired one.commit) state)

next_operation : (state : State) (seat : ℕ) (operation : Operation) → IsPossible state seat operation
    → state.next_number ≤ (after_operation seat operation state).next_number
next_operation state seat (TicketTake repo branch number) may = let next : number ≡ state.next_number = may.1 in omega arith
next_operation state seat (Stage repo branch path change) may = let left = (left_without (put_number change) state).0 in omega arith
next_operation state seat (Expire now commits) may = let left = (left_expire commits state).0 in omega arith
next_operation state seat _ may = omega arith

next_kind : (state : State) (seat : ℕ) (kind : EntryKind) → IsPossible state seat (operation_of kind)
    → state.next_number ≤ (after_kind seat kind state).next_number
next_kind state seat (Accepted operation) may = next_operation state seat operation may
next_kind state seat (Faulted operation) may = omega arith

-- the next number never falls
pub next_after : (state : State) (entry : HistoryEntry) → Allows state entry → state.next_number ≤ (after state entry).next_number
next_after state entry may = next_kind state entry.by.seat entry.kind may.possible

gone_with : (numbers : List ℕ) (gone : FinMap nat_cmp (Unit {0})) (number : ℕ) → IsSome (get (with_gone numbers gone) number)
    → IsSome (get gone number) ⊎ Contains numbers number
gone_with [] gone number is = inl is
gone_with (first ∷ numbers) gone number is =
    elim (gone_with numbers (insert gone first tt) number is) [
      | inl now ↦ elim (number_cases gone first tt number now) [
        | inl same ↦ inr (subst (λ n. Contains (first ∷ numbers) n) (sym same) (Contains-first first numbers))
        | inr was ↦ inl was
      ]
      | inr later ↦ inr (Contains-later first number numbers later)
    ]

-- a number that is gone after an operation was gone, or is garbage
gone_operation : (state : State) (seat : ℕ) (operation : Operation) (number : ℕ) → IsPossible state seat operation
    → IsSome (get (after_operation seat operation state).gone number)
    → IsSome (get state.gone number) ⊎ IsGarbage state number
gone_operation state seat (Condemn numbers) number may gone =
    elim (gone_with numbers state.gone number gone) [
      | inl was ↦ inl was
      | inr listed ↦ inr (may.garbage number listed)
    ]
gone_operation state seat (Stage repo branch path change) number may gone =
    inl (subst (λ g. IsSome (get g number)) (left_without (put_number change) state).1 gone)
gone_operation state seat (Expire now commits) number may gone = inl (subst (λ g. IsSome (get g number)) (left_expire commits state).1 gone)
gone_operation state seat _ number may gone = inl gone

gone_kind : (state : State) (seat : ℕ) (kind : EntryKind) (number : ℕ) → IsPossible state seat (operation_of kind)
    → IsSome (get (after_kind seat kind state).gone number)
    → IsSome (get state.gone number) ⊎ IsGarbage state number
gone_kind state seat (Accepted operation) number may gone = gone_operation state seat operation number may gone
gone_kind state seat (Faulted operation) number may gone = inl gone

-- in a sound lake a number that is gone after an entry is garbage before it
garbage_before : (state : State) (entry : HistoryEntry) (number : ℕ) → IsSound state → Allows state entry → IsSome (get (after state entry).gone number)
    → IsGarbage state number
garbage_before state entry number sound may gone =
    elim (gone_kind state entry.by.seat entry.kind number may.possible gone) [
      | inl was ↦ record { given_out = sound.gone number was; unnamed = sound.apart number was }
      | inr garbage ↦ garbage
    ]

-- ---- garbage

-- where heads are live, garbage is garbage after an entry
garbage_with_heads : (state : State) (entry : HistoryEntry) (number : ℕ) → HasLiveHeadsEverywhere state → Allows state entry → IsGarbage state number
    → IsGarbage (after state entry) number
garbage_with_heads state entry number heads may garbage = record {
  given_out = let rises = next_after state entry may in let given_out = garbage.given_out in omega arith;
  unnamed = λ named. elim (named_with_heads state entry number heads may named) [
    | inl before ↦ garbage.unnamed before
    | inr taken ↦ let next = taken.0 in let given_out = garbage.given_out in omega arith
  ];
}

-- and so it is in a sound lake
pub garbage_after : (state : State) (entry : HistoryEntry) (number : ℕ) → IsSound state → Allows state entry → IsGarbage state number
    → IsGarbage (after state entry) number
garbage_after state entry number sound = garbage_with_heads state entry number (live_heads state sound)

-- ---- what soundness says of numbers

-- after an entry: what is named or gone was given out, and none is both
pub numbers_after : (state : State) (entry : HistoryEntry) → IsSound state → Allows state entry
    → ((number : ℕ) → IsNamed (after state entry) number → number < (after state entry).next_number)
    × ((number : ℕ) → IsSome (get (after state entry).gone number) → number < (after state entry).next_number)
    × ((number : ℕ) → IsSome (get (after state entry).gone number) → IsNamed (after state entry) number → ⊥)
numbers_after state entry sound may = (
  λ number named. elim (named_after state entry number sound may named) [
    | inl before ↦ let below = sound.named number before in let rises = next_after state entry may in omega arith
    | inr taken ↦ let next = taken.0 in let rises = taken.1 in omega arith
  ],
  λ number gone. (garbage_after state entry number sound may (garbage_before state entry number sound may gone)).given_out,
  λ number gone named. (garbage_after state entry number sound may (garbage_before state entry number sound may gone)).unnamed named,
)

fresh_unnamed : (cut : Cut) (number : ℕ) → IsNamed (fresh cut) number → ⊥
fresh_unnamed cut number (inr ticket) = no_number ℕ number ticket
fresh_unnamed cut number (inl n) =
    elim (insert_cases empty (codes "quickstart") _ n.name n.repository n.stands) [
      | inl put ↦ new_names cut 0 (codes "main") number (subst (λ r. Names r number) put.1 n.names)
      | inr stood ↦ nothing_stands n.name n.repository stood
    ]

-- and in a fresh lake
pub numbers_fresh : (cut : Cut)
    → ((number : ℕ) → IsNamed (fresh cut) number → number < (fresh cut).next_number)
    × ((number : ℕ) → IsSome (get (fresh cut).gone number) → number < (fresh cut).next_number)
    × ((number : ℕ) → IsSome (get (fresh cut).gone number) → IsNamed (fresh cut) number → ⊥)
numbers_fresh cut = (
  λ number named. absurd (fresh_unnamed cut number named),
  λ number gone. absurd (no_number (Unit {0}) number gone),
  λ number gone named. fresh_unnamed cut number named,
)
