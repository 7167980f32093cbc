use Rattle.std.proofs.Common.{sym}
use Rattle.pair_ties.proofs.NamesLemmas.{first_here}
use Rattle.pair_ties.proofs.names.is_fresh.Goals as goal

pub returns-in-Some : goal.returns-in-Some
returns-in-Some c =
    first_here c.args.pairs.now c.args.tables.now c.args.at c.args.token c.in-Some.first.now (c.is_given_token.ensures.0 c.if-is_given_token.true)
    (sym c.in-Some.ensures.value)
