-- What a lake knows of its keeper since it was opened.
use Rattle.std.specs.Prelude.{◌≡◌, List}
use Rattle.lake_base.specs.Outside.{Rose}
use Rattle.lake_model.specs.declared.history.HistoryEntry.{HistoryEntry}
use Rattle.core_puts.specs.KeeperViews.{IsLaterKeeper, KeeperView}
use Rattle.lake_core.specs.Faults.{HasFault}

-- The keeper now is a later one of the first, which the lake was opened over. A fault of the store that the history
-- notes was counted since then: the count of faults rose, or stands at its last value. Where the history notes none, none
-- was counted.
pub record IsKeptSince {K : Type 0} (view : KeeperView K) (first now : K) (history : List HistoryEntry) : Type 0 where
  pub keeper : IsLaterKeeper view first now
  pub counted : HasFault history → Rose (view.faults first) (view.faults now)
  pub quiet : (HasFault history → ⊥) → view.faults now ≡ view.faults first
