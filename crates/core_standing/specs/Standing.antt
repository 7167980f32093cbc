-- A lake in memory stands for its history.
use Rattle.std.specs.Prelude.{◌≡◌, ◌<◌, ◌++◌, ◌∷◌, false, [], List}
use Rattle.std.specs.FinMap.{empty}
use Rattle.lake_model.specs.declared.history.By.{By}
use Rattle.lake_model.specs.declared.history.HistoryEntry.{HistoryEntry}
use Rattle.lake_model.specs.declared.history.Operation.{Operation}
use Rattle.lake_model.specs.History.{IsLegal, accepted_entry, faulted_entry, replay}
use Rattle.lake_model.specs.Soundness.{IsSound}
use Rattle.lake_model.specs.Versions.{AreBelowNext, VersionsGiven, count_versions}
use Rattle.core_state.specs.Counts.{AreCounted, AreFew, HasVersions, versions_of}
use Rattle.core_state.specs.Index.{HasIndex}
use Rattle.core_state.specs.LakeStates.{LakeStateValue, state_of}
use Rattle.core_changes.specs.FreshTokens.{AreTokensBelow}
use Rattle.core_changes.specs.LakeChanges.{after_fault}

-- the versions given up to the end of a history, in a lake that was opened as this
abbrev pub versions_since : LakeStateValue → List HistoryEntry → VersionsGiven
versions_since opened history = count_versions (versions_of opened) history

-- nothing has happened in a lake: it has no entries and no unfinished uploads, no change of references was counted, and the
-- store hasn't failed
pub record HasNoHistory (l : LakeStateValue) : Type 0 where
  pub entries : l.entries ≡ 0
  pub references : l.references ≡ 0
  pub tickets : l.tickets ≡ empty
  pub stopped : l.stopped ≡ false

-- A lake in memory stands for the replay of a legal history from the sound state that it was opened as, in which nothing
-- had happened and versions were below the next one. Its versions are those that were given over the history, its tokens
-- differ and are below the next one, its counts are small, its index tells of just what is kept, and the modulus of its cut
-- is above 0.
pub record Stands (opened : LakeStateValue) (history : List HistoryEntry) (present : LakeStateValue) : Type 0 where
  pub sound : IsSound (state_of opened)
  pub fresh_start : HasNoHistory opened
  pub versions_below : AreBelowNext (versions_of opened)
  pub legal : IsLegal (state_of opened) history
  pub replayed : replay (state_of opened) history ≡ state_of present
  pub versions : HasVersions (versions_since opened history) present
  pub tokens : AreTokensBelow present
  pub counted : AreCounted present
  pub index : HasIndex present
  pub modulus : 0 < present.cut.modulus

-- An operation may be made of a lake that stands for its history: there is room to count it, and the lake stands for the
-- history with its entry after it was made, and for the history with its fault after the store failed.
pub record MayMake (opened : LakeStateValue) (history : List HistoryEntry) (present : LakeStateValue) (by : By) (operation : Operation)
    (after : LakeStateValue → LakeStateValue) : Type 0 where
  pub few : AreFew present
  pub accepted : Stands opened (history ++ accepted_entry by operation ∷ []) (after present)
  pub faulted : Stands opened (history ++ faulted_entry by operation ∷ []) (after_fault present)
