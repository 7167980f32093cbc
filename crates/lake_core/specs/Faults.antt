-- Faults of the store in a history.
use Rattle.std.specs.Prelude.{List}
use Rattle.std.specs.List.{Contains}
use Rattle.lake_model.specs.declared.history.By.{By}
use Rattle.lake_model.specs.declared.history.HistoryEntry.{HistoryEntry}
use Rattle.lake_model.specs.declared.history.Operation.{Operation}
use Rattle.lake_model.specs.History.{faulted_entry}

-- an entry tells that the store failed as an operation was tried
pub record HasFault (history : List HistoryEntry) : Type 0 where
  pub by : By
  pub tried : Operation
  pub among : Contains history (faulted_entry by tried)
