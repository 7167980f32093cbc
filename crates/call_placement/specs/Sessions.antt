-- Calls of one seat, one after the other.
use Rattle.std.specs.Prelude.{◌≡◌, ◌⊎◌, ◌+◌, ◌<◌, ◌≤◌, ◌++◌, ℕ, max, List, [], ◌∷◌, length, All, Option, Some, None}
use Rattle.call_placement.specs.Rules.{Caller, Rules}
use Rattle.call_placement.specs.Served.{IsServed}

-- a request, what the call met, the reply, and the position of that
pub record Item (Request Met Reply : Type 0) : Type 0 where
  pub request : Request
  pub met : Met
  pub reply : Reply
  pub position : ℕ

-- the call of a seat that has this number
abbrev pub caller : (seat number : ℕ) → Caller
caller seat number = record { seat = seat; call = number }

module _ {Entry State Operation Request Fixed Point Met Reply : Type 0} (rules : Rules Entry State Operation Request Fixed Point Met Reply) where
  -- of what came, the seat's entries are all of this call
  abbrev pub AddsOnly : Caller → (before after : List Entry) → Type 0
  AddsOnly by before after = (added : List Entry) × (after ≡ before ++ added)
      × All (λ entry. (rules.maker entry).seat ≡ by.seat → (rules.maker entry).call ≡ by.call) added

  -- A CALL WAS SERVED, AND NO OTHER OF ITS SEAT: what a flow of several steps promises.
  abbrev pub IsOnlyServed : State → Caller → (before after : List Entry) → Item Request Met Reply → (next_edge : ℕ) → Type 0
  IsOnlyServed opened by before after item next_edge =
      IsServed rules opened by before after item.request item.met item.reply item.position next_edge
      × AddsOnly by before after

  -- of what came, the seat's entries are of so many calls, numbered from this one on
  abbrev pub AddsNumbered : (seat number count : ℕ) → (before after : List Entry) → Type 0
  AddsNumbered seat number count before after = (added : List Entry) × (after ≡ before ++ added)
      × All (λ entry. (rules.maker entry).seat ≡ seat → (number ≤ (rules.maker entry).call) × ((rules.maker entry).call < number + count)) added

  -- A request whose form is refused comes at the edge before it, and one at which memory ran out at what was seen. It
  -- adds nothing.
  abbrev pub IsFormRefused : Reply → (edge : ℕ) → (before after : List Entry) → Item Request Met Reply → ℕ → Type 0
  IsFormRefused refusal edge before after item next_edge =
      (((item.reply ≡ refusal) × (item.position ≡ edge)) ⊎ (rules.is_no_memory item.reply × (item.position ≡ length before)))
      × (after ≡ before) × (next_edge ≡ item.position)

  -- an item, by whether the form of its request is refused
  abbrev pub IsItemServed : State → Caller → (edge : ℕ) → (before after : List Entry) → Item Request Met Reply → ℕ
      → Option Reply → Type 0
  IsItemServed opened by edge before after item next_edge (Some refusal) = IsFormRefused refusal edge before after item next_edge
  IsItemServed opened by edge before after item next_edge None = IsOnlyServed opened by before after item next_edge

  -- CALLS WERE SERVED, of a seat, numbered from this one on: each between what the seat had seen before it and what it
  -- had seen after it. The edge is the greatest so far.
  abbrev pub AreServed : State → (seat number edge : ℕ) → (before : List Entry) → List (Item Request Met Reply)
      → (after : List Entry) → (last : ℕ) → Type 0
  AreServed opened seat number edge before [] after last = (after ≡ before) × (last ≡ edge)
  AreServed opened seat number edge before (item ∷ items) after last =
      (between : List Entry) × (next_edge : ℕ)
      × IsItemServed opened (caller seat number) edge before between item next_edge (rules.form item.request)
      × AreServed opened seat (number + 1) (max edge next_edge) between items after last
