use Rattle.pair_trees.proofs.TablesLemmas.{adds_name}
use Rattle.pair_trees.proofs.tables.put_name.Goals as goal

pub returns : goal.returns
returns c = adds_name c.args.table.now c.insert.new.self c.args.name c.in_ok-insert.ensures.updates.0
