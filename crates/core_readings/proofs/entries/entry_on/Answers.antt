use Rattle.std.proofs.Common.{sym, ap, ◌∙◌}
use Rattle.std.specs.FinMap.{get}
use Rattle.lake_values.specs.KeyMap.{value_after}
use Rattle.lake_model.specs.State.{map_of}
use Rattle.core_readings.proofs.EntryLemmas.{get_now}
use Rattle.core_readings.proofs.PlacesLemmas.{repository_at}
use Rattle.core_readings.proofs.entries.entry_on.Goals as goal

pub returns-in-Entry : goal.returns-in-Entry
returns-in-Entry c =
    let r = repository_at c.args.repository.now in
    let path = c.args.path.now in
    ap (λ said. value_after said (get (map_of r c.args.branch.now.record.head) path)) c.in-Entry.ensures ∙ sym (get_now r c.args.branch.now path)

pub returns-in-Tombstone : goal.returns-in-Tombstone
returns-in-Tombstone c =
    let r = repository_at c.args.repository.now in
    let path = c.args.path.now in
    ap (λ said. value_after said (get (map_of r c.args.branch.now.record.head) path)) c.in-Tombstone.ensures ∙ sym (get_now r c.args.branch.now path)

pub returns-in-Below : goal.returns-in-Below
returns-in-Below c =
    let r = repository_at c.args.repository.now in
    let path = c.args.path.now in
    c.map_entry.ensures ∙ ap (λ id. get (map_of r id) path) c.head.ensures
    ∙ ap (λ said. value_after said (get (map_of r c.args.branch.now.record.head) path)) c.in-Below.ensures ∙ sym (get_now r c.args.branch.now path)
