use Rattle.std.proofs.Common.{IsTrue, ◌↔◌, sym, subst}
use Rattle.pair_trees.specs.Things.{HasCountsPair}
use Rattle.pair_ties.proofs.BreakingLemmas.{any_counts}
use Rattle.pair_ties.proofs.breaking.has_counts_pair.Goals as goal

pub returns : goal.returns
returns c = subst (λ b. IsTrue b ↔ HasCountsPair c.args.pairs.now) (sym c.any_counts_pair.ensures) (any_counts c.args.pairs.now)
