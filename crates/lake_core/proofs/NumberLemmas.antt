-- The numbers that a legal history gives out.
use Rattle.std.proofs.Common.{◌≡◌, ◌<◌, ◌≤◌, ◌+◌, ℕ, List, [], ◌∷◌, refl, sym, subst, arith}
use Rattle.std.specs.Prelude.{Option, Some, None, IfSome}
use Rattle.std.specs.List.{AllByRecursion, Contains, cons_option}
use Rattle.std.specs.List.Sorted.{IsStrictlySortedBy}
use Rattle.std.specs.Ordering.{nat_cmp}
use Rattle.std.specs.Cmp.{nat_cmp_is}
use Rattle.std.specs.declared.cmp.Ordering.TheVariants.{Less}
use Rattle.std.proofs.lemmas.List.Elements.{All-from_recursion, All-contains}
use Rattle.lake_model.specs.declared.history.HistoryEntry.{HistoryEntry}
use Rattle.lake_model.specs.declared.history.EntryKind.{EntryKind}
use Rattle.lake_model.specs.declared.history.EntryKind.TheVariants.{Accepted, Faulted}
use Rattle.lake_model.specs.declared.history.Operation.{Operation}
use Rattle.lake_model.specs.declared.history.Operation.TheVariants.{TicketTake}
use Rattle.lake_model.specs.State.{State}
use Rattle.lake_model.specs.History.{Allows, IsLegal, IsPossible, after, after_kind, after_operation, operation_of, replay}
use Rattle.lake_laws.proofs.HistoryLemmas.{kept-replay}
use Rattle.lake_laws.proofs.NamingLemmas.{next_after}
use Rattle.lake_core.specs.Numbers.{entry_number, numbers_of, operation_number}

-- what is given out is the next number, and the one after it is next then
abbrev IsNext : ℕ → ℕ → Option ℕ → Type 0
IsNext next then given = IfSome given (λ number. (number ≡ next) × (then ≡ number + 1))

-- by an operation
next_operation : (state : State) (seat : ℕ) (operation : Operation) → IsPossible state seat operation
    → IsNext state.next_number (after_operation seat operation state).next_number (operation_number operation)
next_operation state seat (TicketTake repo branch number) may = (may.1, refl)
next_operation state seat _ may = tt

-- by an entry
next_kind : (state : State) (seat : ℕ) (kind : EntryKind) → IsPossible state seat (operation_of kind)
    → IsNext state.next_number (after_kind seat kind state).next_number (entry_number kind)
next_kind state seat (Accepted operation) may = next_operation state seat operation may
next_kind state seat (Faulted tried) may = tt

-- ---- lists of numbers

abbrev AreFrom : ℕ → List ℕ → Type 0
AreFrom low numbers = AllByRecursion (λ n. low ≤ n) numbers

abbrev AreBelow : ℕ → List ℕ → Type 0
AreBelow bound numbers = AllByRecursion (λ n. n < bound) numbers

from_lower : (low high : ℕ) (numbers : List ℕ) → low ≤ high → AreFrom high numbers → AreFrom low numbers
from_lower low high [] lower from = tt
from_lower low high (n ∷ numbers) lower from =
    let first : high ≤ n = from.0 in (omega arith, from_lower low high numbers lower from.1)

above : (number : ℕ) (numbers : List ℕ) → AreFrom (number + 1) numbers
    → AllByRecursion (λ n. nat_cmp number n ≡ Less) numbers
above number [] from = tt
above number (n ∷ numbers) from =
    let first : number + 1 ≤ n = from.0 in (sym (nat_cmp_is number n Less (omega arith)), above number numbers from.1)

-- one more in front of numbers
from_cons : (given : Option ℕ) (next then : ℕ) (numbers : List ℕ) → IsNext next then given → next ≤ then
    → AreFrom then numbers
    → AreFrom next (cons_option given numbers)
from_cons None next then numbers is later from = from_lower next then numbers later from
from_cons (Some number) next then numbers is later from =
    let first : number ≡ next = is.0 in (omega arith, from_lower next then numbers later from)

sorted_cons : (given : Option ℕ) (next then : ℕ) (numbers : List ℕ) → IsNext next then given → AreFrom then numbers
    → IsStrictlySortedBy nat_cmp numbers → IsStrictlySortedBy nat_cmp (cons_option given numbers)
unfolding IsStrictlySortedBy
sorted_cons None next then numbers is from sorted = sorted
sorted_cons (Some number) next then numbers is from sorted =
    (above number numbers (subst (λ low. AreFrom low numbers) is.1 from), sorted)

below_cons : (given : Option ℕ) (next then bound : ℕ) (numbers : List ℕ) → IsNext next then given → then ≤ bound
    → AreBelow bound numbers → AreBelow bound (cons_option given numbers)
below_cons None next then bound numbers is within below = below
below_cons (Some number) next then bound numbers is within below =
    let one : then ≡ number + 1 = is.1 in (omega arith, below)

-- ---- histories

numbers_from : (state : State) (entries : List HistoryEntry) → IsLegal state entries
    → AreFrom state.next_number (numbers_of entries)
numbers_from state [] legal = tt
numbers_from state (entry ∷ entries) legal =
    from_cons (entry_number entry.kind) state.next_number (after state entry).next_number (numbers_of entries)
    (next_kind state entry.by.seat entry.kind legal.0.possible) (next_after state entry legal.0)
    (numbers_from (after state entry) entries legal.1)

-- they strictly ascend
pub numbers_sorted : (state : State) (entries : List HistoryEntry) → IsLegal state entries
    → IsStrictlySortedBy nat_cmp (numbers_of entries)
unfolding IsStrictlySortedBy
numbers_sorted state [] legal = tt
numbers_sorted state (entry ∷ entries) legal =
    sorted_cons (entry_number entry.kind) state.next_number (after state entry).next_number (numbers_of entries)
    (next_kind state entry.by.seat entry.kind legal.0.possible) (numbers_from (after state entry) entries legal.1)
    (numbers_sorted (after state entry) entries legal.1)

-- the next number never falls
next_rises : (state : State) (entries : List HistoryEntry) → IsLegal state entries
    → state.next_number ≤ (replay state entries).next_number
next_rises state entries legal =
    kept-replay (λ s. state.next_number ≤ s.next_number) entries state rises legal at_start
  where
    at_start : state.next_number ≤ state.next_number
    at_start = omega arith

    rises : (s : State) (entry : HistoryEntry) → Allows s entry → state.next_number ≤ s.next_number
        → state.next_number ≤ (after s entry).next_number
    rises s entry may low =
        let more : s.next_number ≤ (after s entry).next_number = next_after s entry may in omega arith

numbers_below : (state : State) (entries : List HistoryEntry) → IsLegal state entries
    → AreBelow (replay state entries).next_number (numbers_of entries)
numbers_below state [] legal = tt
numbers_below state (entry ∷ entries) legal =
    below_cons (entry_number entry.kind) state.next_number (after state entry).next_number
    (replay (after state entry) entries).next_number (numbers_of entries)
    (next_kind state entry.by.seat entry.kind legal.0.possible) (next_rises (after state entry) entries legal.1)
    (numbers_below (after state entry) entries legal.1)

-- none is below the next number at the start
pub number_from : (state : State) (entries : List HistoryEntry) (number : ℕ) → IsLegal state entries
    → Contains (numbers_of entries) number
    → state.next_number ≤ number
number_from state entries number legal among =
    let low = state.next_number in
    All-contains (λ n. low ≤ n) (numbers_of entries) number
    (All-from_recursion (λ n. low ≤ n) (numbers_of entries) (numbers_from state entries legal)) among

-- each is below the next number at the end
pub number_below : (state : State) (entries : List HistoryEntry) (number : ℕ) → IsLegal state entries
    → Contains (numbers_of entries) number
    → number < (replay state entries).next_number
number_below state entries number legal among =
    let bound = (replay state entries).next_number in
    All-contains (λ n. n < bound) (numbers_of entries) number
    (All-from_recursion (λ n. n < bound) (numbers_of entries) (numbers_below state entries legal)) among
