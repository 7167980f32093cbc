use Rattle.pair_trees.proofs.SpelledLemmas.{key_at, no_key}
use Rattle.pair_trees.proofs.spelled.place.Goals as goal

pub returns-in-Ok : goal.returns-in-Ok
returns-in-Ok c = key_at c.args.pairs.now c.args.key.now c.in-Ok.at c.in-Ok.ensures

pub returns-in-Err : goal.returns-in-Err
returns-in-Err c = no_key c.args.pairs.now c.args.key.now _ c.in-Err.ensures
