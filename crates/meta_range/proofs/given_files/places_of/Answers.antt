use Rattle.std.proofs.Common.{subst}
use Rattle.meta_range.specs.Files.{given_name}
use Rattle.meta_range.specs.RangeNames.{PutsFirst}
use Rattle.meta_range.proofs.NamesLemmas.{tells_more}
use Rattle.meta_range.proofs.given_files.places_of.Goals as goal

pub loop-at-preserved : goal.loop-at-preserved
loop-at-preserved c =
    let old = c.loop-at.places.entries in
    let new = c.put_first.new.places.entries in
    tells_more given_name old new c.args.files.now c.loop-at.at c.index-files-at.result c.loop-at-test.true c.index-files-at.is c.loop-at.invariant
    (subst (λ name. PutsFirst old new name c.loop-at.at) c.name.ensures c.in_ok-put_first.ensures)
