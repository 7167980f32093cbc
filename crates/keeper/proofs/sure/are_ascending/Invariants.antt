use Rattle.std.proofs.Common.{◌-◌, drop}
use Rattle.std.proofs.lemmas.Cmp.{nat_list_cmp_total}
use Rattle.lake_base.proofs.MapsLemmas.{TellsAll}
use Rattle.keeper.specs.Keepers.{entries_of}
use Rattle.keeper.proofs.sure.are_ascending.Given as goal

-- whether all ascend is told by the keys to come
abbrev pub invariant-loop-at : goal.invariant-loop-at
invariant-loop-at l = TellsAll nat_list_cmp_total (entries_of l.pairs) (drop (l.at - 1) (entries_of l.pairs))
