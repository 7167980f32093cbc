use Rattle.std.proofs.Common.{take}
use Rattle.lake_values.specs.KeyMap.{HasPathKeys}
use Rattle.lake_values.proofs.sorted.are_paths.Given as goal

-- the keys so far
abbrev pub invariant-loop-item : goal.invariant-loop-item
invariant-loop-item g l = HasPathKeys (take l.item-index l.items)
