use Rattle.pair_ties.proofs.BreakingLemmas.{named_right}
use Rattle.pair_ties.proofs.breaking.is_blameless.Goals as goal

pub are_named_there-requires-clause-limits : goal.are_named_there-requires-clause-limits
are_named_there-requires-clause-limits c = c.as_slice.ensures.limits c.args.at c.args.stored.now c.requires.here

pub returns : goal.returns
returns c =
    named_right c.args.tables.now.cut c.args.raw.now c.args.pairs.now c.args.at c.args.stored.now
    (c.in_ok-are_named_there.ensures.0 c.if-not-branch.false) c.is_right.result c.is_right.ensures
