-- A lake after a seal.
use Rattle.std.specs.Prelude.{List, ℕ}
use Rattle.lake_model.specs.declared.history.By.{By}
use Rattle.lake_model.specs.declared.history.EntryKind.TheVariants.{Accepted}
use Rattle.lake_model.specs.declared.history.HistoryEntry.{HistoryEntry}
use Rattle.lake_model.specs.declared.history.Operation.TheVariants.{Seal}
use Rattle.lake_model.specs.declared.history.SealFor.{SealFor}
use Rattle.lake_model.specs.State.{State}
use Rattle.lake_model.specs.History.{after}

-- a seal of a branch: who makes it, and what for
pub record SealValue : Type 0 where
  pub by : By
  pub repo : List ℕ
  pub branch : List ℕ
  pub why : SealFor

-- its entry
abbrev pub seal_entry : SealValue → HistoryEntry
seal_entry seal = record { by = seal.by; kind = Accepted (Seal seal.repo seal.branch seal.why) }

-- the state after it, with as many entries as before
abbrev pub sealed_state : State → SealValue → State
sealed_state state seal = record (after state (seal_entry seal)) { entries = state.entries }
