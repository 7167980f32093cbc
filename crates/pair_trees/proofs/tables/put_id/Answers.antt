use Rattle.std.proofs.Common.{sym, ◌∙◌}
use Rattle.pair_trees.proofs.TablesLemmas.{keeps_id, puts_id}
use Rattle.pair_trees.proofs.tables.put_id.Goals as goal

pub returns-then-contains_key : goal.returns-then-contains_key
returns-then-contains_key c = keeps_id c.args.table.now c.args.id c.args.at (sym c.contains_key.ensures ∙ c.if-contains_key.true)

pub returns : goal.returns
returns c =
    puts_id c.args.table.now c.insert.new.self c.args.id c.args.at (sym c.contains_key.ensures ∙ c.if-contains_key.false) c.in_ok-insert.ensures.updates.0
