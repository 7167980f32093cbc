use Rattle.std.proofs.Common.{subst}
use Rattle.lake_base.specs.declared.digest.Digest.{Digest}
use Rattle.meta_range.specs.RangeNames.{PutsFirst, range_name}
use Rattle.meta_range.proofs.NamesLemmas.{tells_more}
use Rattle.meta_range.proofs.named_ranges.places_of.Goals as goal

pub loop-at-preserved : goal.loop-at-preserved
loop-at-preserved c =
    let old = c.loop-at.places.entries in
    let new = c.put_first.new.places.entries in
    let puts = subst (λ (name : Digest). PutsFirst old new name c.loop-at.at) c.name.ensures c.in_ok-put_first.ensures in
    tells_more range_name old new c.args.ranges.now c.loop-at.at c.index-ranges-at.result c.loop-at-test.true c.index-ranges-at.is c.loop-at.invariant puts
