use Rattle.std.proofs.Common.{sym, ◌∙◌}
use Rattle.keeper.proofs.PairsLemmas.{entries_rows}
use Rattle.keeper.proofs.pairs.OrderedPairs.all.Goals as goal

pub returns : goal.returns
returns c = rw (← c.self.view_is) (c.in_ok-pairs.ensures.pairs ∙ sym (entries_rows c.self.inside.rows.entries c.in_ok-pairs.ensures.ordered))
