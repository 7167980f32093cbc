use Rattle.std.proofs.Common.{sym, subst}
use Rattle.meta_range.specs.TreeReading.{AreShelved, IsShelved}
use Rattle.meta_range.proofs.ReadingLemmas.{more_shelved}
use Rattle.meta_range.proofs.shelf.range_named.Goals as goal

pub returns-in_err-insert-clause-shelf : goal.returns-in_err-insert-clause-shelf
returns-in_err-insert-clause-shelf c = subst (AreShelved c.args.given.now) (sym c.in_err-insert.ensures.err) c.requires

pub returns-clause-shelf : goal.returns-clause-shelf
returns-clause-shelf c =
    more_shelved c.args.given.now c.args.shelf.now c.insert.new.self c.args.line.now.name c.in_ok-share-2.field-0 c.requires
    (subst (IsShelved c.args.given.now c.args.line.now.name) (sym c.in_ok-share-2.ensures) c.in_ok-range.ensures.found) c.in_ok-insert.ensures.updates.0
