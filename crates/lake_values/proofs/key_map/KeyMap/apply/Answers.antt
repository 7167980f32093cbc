use Rattle.lake_values.specs.KeyMap.{apply, value_after}
use Rattle.lake_values.proofs.KeyMapLemmas.{joined_map, get_apply}
use Rattle.lake_values.proofs.key_map.KeyMap.apply.Goals as goal

pub returns : goal.returns
returns c =
    let map = c.args.self.now in
    let changes = c.args.changes.now in
    joined_map (λ had change. value_after change had) map changes c.as_slice.result.now c.as_slice-2.result.now c.in_ok-entries.entries.items
    (apply changes map)
    c.as_slice.ensures.entries c.as_slice-2.ensures.changes c.in_ok-entries.ensures.ascend c.in_ok-entries.ensures.values (get_apply changes map)
