use Rattle.std.proofs.Common.{subst}
use Rattle.std.specs.FinMap.{entries, entries_sorted}
use Rattle.std.specs.Map.Iter.{deref_pair}
use Rattle.std.specs.Option.{option_map}
use Rattle.lake_base.specs.Maps.{HasAscendingKeys}
use Rattle.branch_record.proofs.CursorLemmas.{ascends_left}
use Rattle.branch_record.proofs.placed.PlacedCursor.first.Goals as goal

pub returns-clause-ascend : goal.returns-clause-ascend
returns-clause-ascend c =
    let placed = c.self.inside.placed.now in
    subst HasAscendingKeys c.self.view_is
    (ascends_left (entries placed) (entries_sorted placed) (option_map deref_pair c.self.inside.first) c.self.inside.rest c.self.invariant)
