use Rattle.std.proofs.Common.{ap, sym, length, ◌∙◌}
use Rattle.std.specs.FinMap.{len-entries}
use Rattle.lake_values.proofs.key_map.KeyMap.len.Goals as goal

pub returns : goal.returns
returns c = ap length c.as_slice.ensures.entries ∙ sym (len-entries c.args.self.now)
