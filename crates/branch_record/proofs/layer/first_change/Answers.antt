use Rattle.std.proofs.Common.{ap, sym, ◌∙◌}
use Rattle.branch_record.specs.Layers.{rows_ahead}
use Rattle.branch_record.proofs.LayerCursorLemmas.{none_below}
use Rattle.branch_record.proofs.layer.first_change.Goals as goal

pub returns : goal.returns
returns g c after = (
  ap (λ change. rows_ahead change after) c.in-Some.is,
  none_below c.in-Some.path.now c.args.below.now c.begins_below.ensures.ascend (sym c.begins_below.ensures.below ∙ c.if-begins_below.false),
)
