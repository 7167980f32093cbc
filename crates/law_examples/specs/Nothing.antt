-- A commit of nothing.
use Rattle.std.specs.Prelude.{List, [], ◌∷◌}
use Rattle.lake_format.specs.declared.cut.Cut.{Cut}
use Rattle.lake_model.specs.declared.history.HistoryEntry.{HistoryEntry}
use Rattle.lake_model.specs.State.{State}
use Rattle.lake_model.specs.History.{replay}
use Rattle.lake_model.specs.Soundness.{fresh}
use Rattle.law_examples.specs.HistoryWords.{seal_entry}

-- `main` is sealed, and nothing was staged
abbrev pub empty_seal : List HistoryEntry
empty_seal = seal_entry ∷ []

-- the lake after it
abbrev pub lake_of_nothing : Cut → State
lake_of_nothing cut = replay (fresh cut) empty_seal
