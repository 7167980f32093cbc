use Rattle.std.proofs.Common.{ap, sym, ◌∙◌}
use Rattle.lake_base.specs.Maps.{byte_order}
use Rattle.lake_base.proofs.MapsLemmas.{greater_gap}
use Rattle.lake_values.proofs.pairs.place.Goals as goal

pub returns-in-Greater : goal.returns-in-Greater
returns-in-Greater c =
    let compared =
    ap (λ k. byte_order k c.as_slice-in-loop-at.result.now) c.as_slice.ensures ∙ ap (byte_order c.index-pairs-at.result.0) c.as_slice-in-loop-at.ensures in
    greater_gap c.args.pairs.now c.args.key.now c.loop-at.at c.index-pairs-at.result c.requires c.loop-at-test.true c.loop-at.invariant c.index-pairs-at.is
    (sym (c.in-Greater.ensures ∙ compared))
