use Rattle.std.specs.Option.{option_or}
use Rattle.lake_values.specs.KeyMap.{over}
use Rattle.lake_values.proofs.KeyMapLemmas.{joined_map, get_over}
use Rattle.lake_values.proofs.changes.Changes.over.Goals as goal

pub returns : goal.returns
returns c =
    let new = c.args.self.now in
    let old = c.args.old.now in
    joined_map option_or new old c.as_slice.result.now c.as_slice-2.result.now c.in_ok-changes.changes.items (over new old)
    c.as_slice.ensures.changes c.as_slice-2.ensures.changes c.in_ok-changes.ensures.ascend c.in_ok-changes.ensures.values (get_over new old)
