use Rattle.pair_trees.proofs.TablesLemmas.{puts_none}
use Rattle.pair_trees.proofs.tables.put_tokens.Goals as goal

pub loop-token-init : goal.loop-token-init
loop-token-init c = puts_none c.args.table.now c.args.at
