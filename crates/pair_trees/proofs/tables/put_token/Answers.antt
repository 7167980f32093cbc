use Rattle.std.proofs.Common.{sym, ◌∙◌}
use Rattle.pair_trees.proofs.TablesLemmas.{keeps_token, puts_token}
use Rattle.pair_trees.proofs.tables.put_token.Goals as goal

pub returns-then-contains_key : goal.returns-then-contains_key
returns-then-contains_key c = keeps_token c.args.table.now c.args.token c.args.at (sym c.contains_key.ensures ∙ c.if-contains_key.true)

pub returns : goal.returns
returns c =
    puts_token c.args.table.now c.insert.new.self c.args.token c.args.at (sym c.contains_key.ensures ∙ c.if-contains_key.false) c.in_ok-insert.ensures.updates.0
