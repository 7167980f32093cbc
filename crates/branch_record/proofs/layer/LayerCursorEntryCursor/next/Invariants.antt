use Rattle.std.proofs.Common.{◌≡◌, length}
use Rattle.lake_base.specs.Maps.{HasAscendingKeys}
use Rattle.branch_record.specs.Layers.{rows_ahead, rows_over}
use Rattle.branch_record.proofs.layer.LayerCursorEntryCursor.next.Given as goal

-- what is left is as at the start
abbrev pub invariant-loop-path : goal.invariant-loop-path
invariant-loop-path g l = record {
  whole : rows_over (rows_ahead l.self-inside.change (g.D.ChangesLeft.left l.self-inside.after)) l.self-inside.below
      ≡ rows_over (rows_ahead l.initial.self-inside.change (g.D.ChangesLeft.left l.initial.self-inside.after)) l.initial.self-inside.below;
  changes_ascend : HasAscendingKeys (rows_ahead l.self-inside.change (g.D.ChangesLeft.left l.self-inside.after));
  below_ascends : HasAscendingKeys l.self-inside.below;
}

abbrev pub decreases-loop-path : goal.decreases-loop-path
decreases-loop-path g l = length (rows_ahead l.self-inside.change (g.D.ChangesLeft.left l.self-inside.after))
