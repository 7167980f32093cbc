use Rattle.std.proofs.Common.{List, [], ◌∷◌}
use Rattle.lake_model.specs.declared.history.HistoryEntry.{HistoryEntry}
use Rattle.lake_model.specs.Versions.{AreBelowNext, VersionsGiven, count_versions, versions_after}
use Rattle.core_state.specs.Counts.{versions_of}
use Rattle.core_standing.specs.Standing.{versions_since}
use Rattle.reading_again.proofs.reading.law_of_order.Goals as goal

-- versions go on to be below the next one over a history
below_since : ((given : VersionsGiven) (entry : HistoryEntry) → AreBelowNext given → AreBelowNext (versions_after given entry))
    → (given : VersionsGiven) (history : List HistoryEntry) → AreBelowNext given → AreBelowNext (count_versions given history)
below_since after given [] below = below
below_since after given (entry ∷ history) below = below_since after (versions_after given entry) history (after given entry below)

pub returns : goal.returns
returns c opened history present stands apart = record {
  sound = c.law_of_present.ensures opened history present stands;
  versions =
      c.law_of_versions_below.ensures (versions_since opened history) present stands.versions
      (below_since c.law_of_next_versions.ensures.after (versions_of opened) history stands.versions_below);
  tokens = stands.tokens;
  index = stands.index;
  apart = apart;
}
