use Rattle.std.proofs.Common.{sym, ap, subst, ◌∙◌}
use Rattle.lake_base.specs.Maps.{HasAscendingKeys}
use Rattle.lake_values.specs.Cursor.{entries_from}
use Rattle.lake_values.proofs.CursorLemmas.{ascends_from}
use Rattle.branch_record.specs.Layers.{rows_ahead, rows_over}
use Rattle.branch_record.proofs.LayerCursorLemmas.{seek_over}
use Rattle.branch_record.proofs.layer.LayerCursorEntryCursor.seek.Goals as goal

pub invariant_of-self : goal.invariant_of-self
invariant_of-self g c =
    let inside = c.self.inside in
    let least = c.args.least.now in (
      subst HasAscendingKeys (sym c.seek_changes.ensures)
          (ascends_from least (rows_ahead inside.change (g.D.ChangesLeft.left inside.after)) c.self.invariant.0),
      subst HasAscendingKeys (sym c.seek.ensures.from) (ascends_from least inside.below c.self.invariant.1),
    )

pub returns-clause-from : goal.returns-clause-from
returns-clause-from g c =
    let inside = c.self.inside in
    let least = c.args.least.now in
    let changes = rows_ahead inside.change (g.D.ChangesLeft.left inside.after) in
    ap (λ changes. rows_over changes c.seek.new.self) c.seek_changes.ensures
    ∙ ap (rows_over (entries_from least changes)) c.seek.ensures.from
    ∙ seek_over least changes inside.below
    ∙ ap (entries_from least) c.self.view_is
