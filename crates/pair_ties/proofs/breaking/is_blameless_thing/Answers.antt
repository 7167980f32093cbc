use Rattle.std.proofs.Common.{◌∙◌}
use Rattle.pair_ties.proofs.BreakingLemmas.{blameless_at}
use Rattle.pair_ties.proofs.breaking.is_blameless_thing.Goals as goal

pub returns-in-Some : goal.returns-in-Some
returns-in-Some c =
    blameless_at c.args.tables.now.cut c.args.raw.now c.args.pairs.now c.args.at c.in-Some.stored (c.requires.here ∙ c.in-Some.is) c.is_blameless.result
    c.is_blameless.ensures
