-- What may be made of a lake that stands for its history.
use Rattle.std.proofs.Common.{◌≡◌, List, refl}
use Rattle.lake_model.specs.declared.history.By.{By}
use Rattle.lake_model.specs.declared.history.HistoryEntry.{HistoryEntry}
use Rattle.lake_model.specs.declared.history.Operation.{Operation}
use Rattle.lake_model.specs.History.{Allows, accepted_entry, after, faulted_entry}
use Rattle.lake_model.specs.Versions.{versions_after}
use Rattle.core_state.specs.Counts.{AreCounted, AreFew, HasVersions}
use Rattle.core_state.specs.Index.{HasIndex}
use Rattle.core_state.specs.LakeStates.{LakeStateValue, state_of}
use Rattle.core_changes.specs.FreshTokens.{AreTokensBelow}
use Rattle.core_changes.specs.LakeChanges.{after_fault}
use Rattle.core_standing.specs.Standing.{MayMake, Stands, versions_since}
use Rattle.core_standing.proofs.StandingLemmas.{Follows, stands_more}

module _ (opened : LakeStateValue) (history : List HistoryEntry) (l : LakeStateValue) (by : By) (operation : Operation)
    (stands : Stands opened history l) (allowed : Allows (state_of l) (accepted_entry by operation)) where
  -- there is room to count it
  few : AreFew l
  few = record { counted = stands.counted; room = allowed.room }

  -- the store failed
  fault_follows : (AreFew l → AreCounted (after_fault l)) → (HasIndex l → HasIndex (after_fault l))
      → Follows opened history l (faulted_entry by operation) (after_fault l)
  fault_follows counted index = record {
    allowed = record { running = allowed.running; room = allowed.room; possible = allowed.possible };
    state = refl;
    versions = record {
      next = stands.versions.next;
      references = stands.versions.references;
      branches = stands.versions.branches;
      settings = stands.versions.settings;
      unset = stands.versions.unset;
    };
    tokens = stands.tokens;
    counted = counted few;
    index = index stands.index;
  }

  -- it is made, and what holds of the lake before it holds of the lake after it
  pub may_make : (make : LakeStateValue → LakeStateValue)
      → state_of (make l) ≡ after (state_of l) (accepted_entry by operation)
      → (HasVersions (versions_since opened history) l → HasVersions (versions_after (versions_since opened history) (accepted_entry by operation)) (make l))
      → (AreTokensBelow l → AreTokensBelow (make l))
      → (AreFew l → AreCounted (make l))
      → (AreFew l → AreCounted (after_fault l))
      → (HasIndex l → HasIndex (make l))
      → (HasIndex l → HasIndex (after_fault l))
      → MayMake opened history l by operation make
  may_make make state versions tokens counted faulted index faulted_index = record {
    few = few;
    accepted = stands_more opened history l (accepted_entry by operation) (make l) stands (record {
      allowed = allowed;
      state = state;
      versions = versions stands.versions;
      tokens = tokens stands.tokens;
      counted = counted few;
      index = index stands.index;
    });
    faulted = stands_more opened history l (faulted_entry by operation) (after_fault l) stands (fault_follows faulted faulted_index);
  }
