use Rattle.std.proofs.Common.{◌-◌, drop}
use Rattle.lake_base.proofs.MapsLemmas.{TellsAll}
use Rattle.lake_values.proofs.sorted.has_ascending_keys.Given as goal

-- whether all ascend is told by the keys to come
abbrev pub invariant-loop-at : goal.invariant-loop-at
invariant-loop-at g l = TellsAll g.met.K.Ord.total l.items (drop (l.at - 1) l.items)
