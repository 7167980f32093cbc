-- The state of a lake after a change.
use Rattle.std.proofs.Common.{◌≡◌, List, [], ◌∷◌, ◌++◌, refl, ap, ◌∙◌}
use Rattle.lake_model.specs.declared.history.By.{By}
use Rattle.lake_model.specs.declared.history.HistoryEntry.{HistoryEntry}
use Rattle.lake_model.specs.History.{accepted_entry, after, faulted_entry, replay}
use Rattle.lake_model.specs.Versions.{VersionsGiven, count_versions, versions_after}
use Rattle.lake_laws.proofs.HistoryLemmas.{replay-append}
use Rattle.core_state.specs.LakeStates.{lake_value, state_of}
use Rattle.core_standing.specs.Standing.{versions_since}
use Rattle.core_puts.specs.KeeperViews.{KeeperView}
use Rattle.core_puts.specs.KeptChanges.{IsFaulted, IsMade, Making}
use Rattle.lake_core.specs.Lakes.{LakeValue, state, versions}
use Rattle.lake_core.specs.Leaving.{parts_of}

count_more : (given : VersionsGiven) (history : List HistoryEntry) (entry : HistoryEntry)
    → count_versions given (history ++ entry ∷ []) ≡ versions_after (count_versions given history) entry
count_more given [] entry = refl
count_more given (first ∷ later) entry = count_more (versions_after given first) later entry

-- a lake was opened as the same, and has one entry more
module _ {K : Type 0} (old new : LakeValue K) (entry : HistoryEntry) (opened : new.opened ≡ old.opened)
    (history : new.history ≡ old.history ++ entry ∷ []) where
  state_more : state new ≡ after (state old) entry
  state_more = ap (λ l. replay (state_of (lake_value l)) new.history) opened ∙ ap (replay (state_of (lake_value old.opened))) history
      ∙ replay-append (state_of (lake_value old.opened)) old.history (entry ∷ [])

  versions_more : versions new ≡ versions_after (versions old) entry
  versions_more = ap (λ l. versions_since (lake_value l) new.history) opened ∙ ap (versions_since (lake_value old.opened)) history
      ∙ count_more _ old.history entry

module _ {K : Type 0} (view : KeeperView K) (by : By) (made : Making) (old new : LakeValue K) where
  pub change_made : new.opened ≡ old.opened → IsMade view by made (parts_of old) (parts_of new)
      → (state new ≡ after (state old) (accepted_entry by made.operation))
      × (versions new ≡ versions_after (versions old) (accepted_entry by made.operation))
  change_made opened is = (
    state_more old new (accepted_entry by made.operation) opened is.history,
    versions_more old new (accepted_entry by made.operation) opened is.history,
  )

  pub change_faulted : new.opened ≡ old.opened → IsFaulted view by made (parts_of old) (parts_of new)
      → (state new ≡ after (state old) (faulted_entry by made.operation)) × (versions new ≡ versions old)
  change_faulted opened is = (
    state_more old new (faulted_entry by made.operation) opened is.history,
    versions_more old new (faulted_entry by made.operation) opened is.history,
  )
