use Rattle.pair_ties.proofs.BreakingLemmas.{none_broken, some_broken}
use Rattle.pair_ties.proofs.breaking.first_broken.Goals as goal

pub returns-in-Some : goal.returns-in-Some
returns-in-Some c =
    some_broken c.args.cut.now c.args.pairs.now c.args.spelled.now c.requires.spelled (c.has_counts_pair.ensures.0 c.if-not-has_counts_pair.false)
    c.in_ok-tables.tables.cut c.in_ok-tables.ensures.cut c.in_ok-at.field-0 c.in_ok-at.ensures c.in-Some.at c.in-Some.is

pub returns : goal.returns
returns c =
    none_broken c.args.cut.now c.args.pairs.now c.args.spelled.now c.requires.spelled (c.has_counts_pair.ensures.0 c.if-not-has_counts_pair.false)
    c.in_ok-tables.tables.cut c.in_ok-tables.ensures.cut c.in_ok-at.field-0 c.in_ok-at.ensures c.in-None.is
