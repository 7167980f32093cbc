use Rattle.pair_trees.proofs.TablesLemmas.{tells_no_commits, tells_commits}
use Rattle.pair_trees.proofs.tables.commits_of.Goals as goal

pub loop-at-init : goal.loop-at-init
loop-at-init c = tells_no_commits c.new-table.result c.new-table.ensures.empty

pub loop-at-preserved : goal.loop-at-preserved
loop-at-preserved c =
    tells_commits c.loop-at.table c.put_commit.new.table c.args.things.now c.loop-at.at c.index-things-at.result c.loop-at-test.true c.index-things-at.is
    c.loop-at.invariant c.in_ok-put_commit.ensures
