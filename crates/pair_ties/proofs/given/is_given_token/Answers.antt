use Rattle.pair_ties.proofs.NamesLemmas.{given_token}
use Rattle.pair_ties.proofs.given.is_given_token.Goals as goal

pub returns-in-Some : goal.returns-in-Some
returns-in-Some c = given_token c.args.pairs.now c.args.tables.now.counts c.requires.counts _ c.in-Some.is c.args.given
