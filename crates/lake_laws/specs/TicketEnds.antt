-- Entries that end the ticket of an upload.
use Rattle.std.specs.Prelude.{◌≡◌, ℕ, Some}
use Rattle.lake_model.specs.declared.history.HistoryEntry.{HistoryEntry}
use Rattle.lake_model.specs.declared.history.EntryKind.TheVariants.{Accepted}
use Rattle.lake_model.specs.declared.history.Operation.{Operation}
use Rattle.lake_model.specs.declared.history.Operation.TheVariants.{TicketDrop, Stage}
use Rattle.lake_model.specs.Uncommitted.{put_number}

-- an operation ends the ticket of a number: it drops the ticket, or stages an own object of the number
abbrev pub EndsTicket : ℕ → Operation → Type 0
EndsTicket number (TicketDrop dropped) = dropped ≡ number
EndsTicket number (Stage repo branch path change) = put_number change ≡ Some number
EndsTicket number _ = ⊥

-- an entry isn't one of this seat that was accepted and ends the ticket of the number
abbrev pub LeavesTicket : (seat number : ℕ) → HistoryEntry → Type 0
LeavesTicket seat number entry =
    entry.by.seat ≡ seat → (operation : Operation) → entry.kind ≡ Accepted operation → EndsTicket number operation → ⊥
