use Rattle.pair_ties.proofs.NamesLemmas.{given_number}
use Rattle.pair_ties.proofs.given.is_given_number.Goals as goal

pub returns-in-Some : goal.returns-in-Some
returns-in-Some c = given_number c.args.pairs.now c.args.tables.now.counts c.requires.counts _ c.in-Some.is c.args.given
