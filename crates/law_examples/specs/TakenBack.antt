-- An upload that is taken back.
use Rattle.std.specs.Prelude.{List, [], ◌∷◌, ◌++◌}
use Rattle.lake_base.specs.declared.digest.Digest.{Digest}
use Rattle.lake_format.specs.declared.cut.Cut.{Cut}
use Rattle.lake_model.specs.declared.history.HistoryEntry.{HistoryEntry}
use Rattle.lake_model.specs.State.{State}
use Rattle.lake_model.specs.History.{replay}
use Rattle.lake_model.specs.Soundness.{fresh}
use Rattle.law_examples.specs.HistoryWords.{a, own, ticket_entry, put_entry, delete_entry, seal_entry}

-- the number 0 is given out, and its object is put at `a`
abbrev pub upload : Digest → List HistoryEntry
upload digest = ticket_entry 0 ∷ put_entry a (own digest 0) ∷ []

-- then `a` is deleted
abbrev pub upload_and_deletion : Digest → List HistoryEntry
upload_and_deletion digest = upload digest ++ delete_entry a ∷ []

-- then `main` is sealed
abbrev pub sealed_deletion : Digest → List HistoryEntry
sealed_deletion digest = upload_and_deletion digest ++ seal_entry ∷ []

-- the lake after the upload, after the deletion, and after all
abbrev pub lake_of_upload : Cut → Digest → State
lake_of_upload cut digest = replay (fresh cut) (upload digest)

abbrev pub lake_of_deletion : Cut → Digest → State
lake_of_deletion cut digest = replay (fresh cut) (upload_and_deletion digest)

abbrev pub lake_of_sealed_deletion : Cut → Digest → State
lake_of_sealed_deletion cut digest = replay (fresh cut) (sealed_deletion digest)
