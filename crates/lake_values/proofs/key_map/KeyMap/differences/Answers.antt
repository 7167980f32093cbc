use Rattle.std.proofs.Common.{◌∙◌}
use Rattle.lake_values.specs.KeyMap.{change_between, differences}
use Rattle.lake_values.proofs.KeyMapLemmas.{joined_map, get_differences}
use Rattle.lake_values.proofs.key_map.KeyMap.differences.Goals as goal

pub returns : goal.returns
returns c =
    let new = c.args.self.now in
    let old = c.args.old.now in
    c.from_vec.ensures
    ∙ joined_map change_between new old c.as_slice.result.now c.as_slice-2.result.now c.in_ok-changes.changes.items (differences new old)
    c.as_slice.ensures.entries c.as_slice-2.ensures.entries c.in_ok-changes.ensures.ascend c.in_ok-changes.ensures.values (get_differences new old)
