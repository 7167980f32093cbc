use Rattle.std.proofs.Common.{◌≡◌, None, arith}
use Rattle.lake_base.specs.Names.{path_fault}
use Rattle.lake_base.proofs.ListLemmas.{all_more}
use Rattle.lake_values.proofs.sorted.are_paths.Goals as goal

pub loop-item-preserved : goal.loop-item-preserved
loop-item-preserved g c =
    all_more (λ row. path_fault row.0 ≡ None) c.args.items.now c.loop-item.item-index c.item-item.result
    (omega arith) c.item-item.is c.loop-item.invariant c.as_slice.ensures.valid
