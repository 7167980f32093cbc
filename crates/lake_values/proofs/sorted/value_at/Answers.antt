use Rattle.std.proofs.Common.{sym}
use Rattle.lake_base.proofs.MapsLemmas.{find_at, find_gap}
use Rattle.lake_values.proofs.sorted.value_at.Goals as goal

pub returns-in-Ok : goal.returns-in-Ok
returns-in-Ok g c = sym (find_at c.args.items.now c.args.path.now c.in-Ok.at c.index-items-at.result c.requires c.in-Ok.ensures)

pub returns-in-Err : goal.returns-in-Err
returns-in-Err g c = sym (find_gap c.args.items.now c.args.path.now c.in-Err.field-0 c.in-Err.ensures)
