use Rattle.std.proofs.Common.{sym}
use Rattle.lake_base.proofs.MapsLemmas.{tested_gap}
use Rattle.lake_values.proofs.sorted.is_above_all.Goals as goal

pub returns-in-Some : goal.returns-in-Some
returns-in-Some g c =
    tested_gap c.args.items.now c.args.path.now c.in-Some.last.now c.requires (sym c.in-Some.ensures.value) c.cmp.result c.cmp.ensures c.eq.result c.eq.ensures
