-- Versions guard a write: a seat stages by the version that it read, and another sealed the branch meanwhile.
use Rattle.std.specs.Prelude.{List, [], ◌∷◌, ◌++◌}
use Rattle.lake_format.specs.declared.cut.Cut.{Cut}
use Rattle.lake_model.specs.declared.history.HistoryEntry.{HistoryEntry}
use Rattle.lake_model.specs.declared.history.Operation.TheVariants.{Seal}
use Rattle.lake_model.specs.declared.history.SealFor.TheVariants as seal
use Rattle.lake_model.specs.State.{State}
use Rattle.lake_model.specs.History.{replay}
use Rattle.lake_model.specs.Soundness.{fresh}
use Rattle.lake_model.specs.Versions.{VersionsGiven, count_versions, fresh_versions}
use Rattle.law_examples.specs.HistoryWords.{quickstart, main, a, outside, entry_by, put_entry}

-- the seat 2 seals `main`, not for a commit
abbrev pub seal_of_other : List HistoryEntry
seal_of_other = entry_by 2 (Seal quickstart main seal.Other) ∷ []

-- then the seat 1 puts the outside object at `a`
abbrev pub seal_and_write : List HistoryEntry
seal_and_write = seal_of_other ++ put_entry a outside ∷ []

-- the lake after the seal, and its versions
abbrev pub lake_of_seal : Cut → State
lake_of_seal cut = replay (fresh cut) seal_of_other

abbrev pub versions_of_seal : VersionsGiven
versions_of_seal = count_versions fresh_versions seal_of_other

-- the lake after all
abbrev pub lake_of_write : Cut → State
lake_of_write cut = replay (fresh cut) seal_and_write
