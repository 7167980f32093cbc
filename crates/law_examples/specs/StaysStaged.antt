-- What is staged after a seal isn't committed with it, and stays.
use Rattle.std.specs.Prelude.{List, [], ◌∷◌, ◌++◌}
use Rattle.lake_values.specs.Commit.{AboutValue}
use Rattle.lake_format.specs.declared.cut.Cut.{Cut}
use Rattle.lake_model.specs.declared.history.HistoryEntry.{HistoryEntry}
use Rattle.lake_model.specs.State.{State}
use Rattle.lake_model.specs.History.{replay}
use Rattle.lake_model.specs.Soundness.{fresh}
use Rattle.law_examples.specs.HistoryWords.{b, outside, put_entry, commit_entry, until_seal}

-- the outside object is put at `a`, `main` is sealed, and then the object is put at `b`
abbrev pub until_second_put : List HistoryEntry
until_second_put = until_seal ++ put_entry b outside ∷ []

-- then what is sealed is committed
abbrev pub commit_beside_staged : AboutValue → List HistoryEntry
commit_beside_staged about = until_second_put ++ commit_entry about ∷ []

-- the lake before the commit, and after it
abbrev pub lake_before_commit : Cut → State
lake_before_commit cut = replay (fresh cut) until_second_put

abbrev pub lake_beside_staged : Cut → AboutValue → State
lake_beside_staged cut about = replay (fresh cut) (commit_beside_staged about)
