use Rattle.std.proofs.Common.{ap, sym, subst, ◌∙◌}
use Rattle.std.specs.FinMap.{entries, entries_sorted}
use Rattle.lake_base.specs.Maps.{HasAscendingKeys}
use Rattle.keeper.proofs.SureLemmas.{settled}
use Rattle.keeper.proofs.sure.SureKeeperKeeper.load.Goals as goal

pub returns-clause-pairs : goal.returns-clause-pairs
returns-clause-pairs c =
    c.in_ok-pairs.ensures
    ∙ ap entries
    (sym (settled c.settle.new.waiting.items c.settle.new.given.items c.settle.new.pairs c.in_ok-settle.ensures.waiting c.in_ok-settle.ensures.given)
    ∙ c.settle.ensures.same ∙ c.self.view_is)

pub returns-clause-ascending : goal.returns-clause-ascending
returns-clause-ascending c = subst HasAscendingKeys (sym c.in_ok-pairs.ensures) (entries_sorted c.settle.new.pairs)
