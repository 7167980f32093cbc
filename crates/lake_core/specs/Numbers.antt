-- The numbers of objects that a history gives out.
use Rattle.std.specs.Prelude.{ℕ, List, Option, Some, None}
use Rattle.std.specs.List.{filter_map}
use Rattle.lake_model.specs.declared.history.HistoryEntry.{HistoryEntry}
use Rattle.lake_model.specs.declared.history.EntryKind.{EntryKind}
use Rattle.lake_model.specs.declared.history.EntryKind.TheVariants.{Accepted, Faulted}
use Rattle.lake_model.specs.declared.history.Operation.{Operation}
use Rattle.lake_model.specs.declared.history.Operation.TheVariants.{TicketTake}

-- the number that an operation gives out
abbrev pub operation_number : Operation → Option ℕ
operation_number (TicketTake repo branch number) = Some number
operation_number _ = None

-- an entry gives out its operation's, where that was accepted
abbrev pub entry_number : EntryKind → Option ℕ
entry_number (Accepted operation) = operation_number operation
entry_number (Faulted tried) = None

-- the numbers that a history gives out, the first one first
abbrev pub numbers_of : List HistoryEntry → List ℕ
numbers_of history = filter_map (λ entry. entry_number entry.kind) history
