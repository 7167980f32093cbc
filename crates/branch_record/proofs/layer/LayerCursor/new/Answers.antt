use Rattle.std.proofs.Common.{sym, subst, ◌∙◌}
use Rattle.std.specs.FinMap.{from_sorted, entries-from_sorted}
use Rattle.lake_base.specs.Maps.{byte_order, HasAscendingKeys}
use Rattle.branch_record.specs.Layers.{rows_ahead}
use Rattle.branch_record.proofs.LayerCursorLemmas.{ahead_of, over_slices}
use Rattle.branch_record.proofs.layer.LayerCursor.new.Goals as goal

pub returns-clause-left : goal.returns-clause-left
returns-clause-left g c =
    let changes = g.D.ChangesLeft.left c.args.changes in
    let below = g.C.EntriesLeft.left c.args.below in
    let ascend : HasAscendingKeys below = subst HasAscendingKeys c.new.ensures.same c.new.ensures.ascend in
    over_slices (from_sorted changes) (rows_ahead c.next-change.result (g.D.ChangesLeft.left c.next-change.new.self)) c.new.result (from_sorted below)
    (ahead_of c.next-change.result changes (g.D.ChangesLeft.left c.next-change.new.self) c.next-change.ensures.change
    ∙ sym (entries-from_sorted byte_order changes c.next-change.ensures.ascend))
    (c.new.ensures.same ∙ sym (entries-from_sorted byte_order below ascend))

pub returns-clause-of_map : goal.returns-clause-of_map
returns-clause-of_map g c layer map is are =
    over_slices layer (rows_ahead c.next-change.result (g.D.ChangesLeft.left c.next-change.new.self)) c.new.result map
    (ahead_of c.next-change.result (g.D.ChangesLeft.left c.args.changes) (g.D.ChangesLeft.left c.next-change.new.self) c.next-change.ensures.change ∙ is)
    (c.new.ensures.same ∙ are)
