-- Two seals and one commit: the commit that came second is answered by the new version.
use Rattle.std.specs.Prelude.{List, [], ◌∷◌, ◌++◌}
use Rattle.lake_values.specs.Commit.{AboutValue}
use Rattle.lake_format.specs.declared.cut.Cut.{Cut}
use Rattle.lake_model.specs.declared.history.HistoryEntry.{HistoryEntry}
use Rattle.lake_model.specs.State.{State}
use Rattle.lake_model.specs.History.{replay}
use Rattle.lake_model.specs.Soundness.{fresh}
use Rattle.lake_model.specs.declared.reply.SwapKind.TheVariants as kind
use Rattle.lake_model.specs.Steps.{SwapRule, swap_rule}
use Rattle.lake_model.specs.Versions.{VersionsGiven, count_versions, fresh_versions}
use Rattle.law_examples.specs.HistoryWords.{seal_entry, commit_entry, until_seal}

-- the outside object is put at `a`, and `main` is sealed, and sealed again
abbrev pub until_second_seal : List HistoryEntry
until_second_seal = until_seal ++ seal_entry ∷ []

-- then what is sealed is committed
abbrev pub commit_of_two_seals : AboutValue → List HistoryEntry
commit_of_two_seals about = until_second_seal ++ commit_entry about ∷ []

-- the lake before the commit, and after it; the versions after it
abbrev pub lake_of_two_seals : Cut → State
lake_of_two_seals cut = replay (fresh cut) until_second_seal

abbrev pub lake_of_their_commit : Cut → AboutValue → State
lake_of_their_commit cut about = replay (fresh cut) (commit_of_two_seals about)

abbrev pub versions : AboutValue → VersionsGiven
versions about = count_versions fresh_versions (commit_of_two_seals about)

-- how a commit of what is sealed is made
abbrev pub commit_rule : AboutValue → SwapRule
commit_rule about = swap_rule kind.Commit about
