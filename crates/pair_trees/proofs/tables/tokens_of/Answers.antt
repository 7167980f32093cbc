use Rattle.pair_trees.proofs.TablesLemmas.{tells_no_tokens, tells_tokens}
use Rattle.pair_trees.proofs.tables.tokens_of.Goals as goal

pub loop-at-init : goal.loop-at-init
loop-at-init c = tells_no_tokens c.new-table.result c.new-table.ensures.empty

pub loop-at-preserved : goal.loop-at-preserved
loop-at-preserved c =
    tells_tokens c.loop-at.table c.put_thing.new.table c.args.things.now c.loop-at.at c.index-things-at.result c.loop-at-test.true c.index-things-at.is
    c.loop-at.invariant c.in_ok-put_thing.ensures
