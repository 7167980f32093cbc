use Rattle.std.proofs.Common.{◌∙◌}
use Rattle.branch_record.specs.Layers.{rows_ahead}
use Rattle.branch_record.proofs.LayerCursorLemmas.{row_given}
use Rattle.branch_record.proofs.layer.LayerCursorEntryCursor.next.Goals as goal

pub returns-clause-entry : goal.returns-clause-entry
returns-clause-entry g c =
    let after = g.D.ChangesLeft.left c.loop-path.self-inside.after in
    row_given c.next.result (rows_ahead c.loop-path.self-inside.change after) c.args.self.now c.loop-path.self-inside.below c.next.new.self
    (c.loop-path.invariant.whole ∙ c.self.view_is) (c.in_default.ensures after) c.next.ensures.entry
