use Rattle.std.proofs.Common.{sym, subst}
use Rattle.lake_base.specs.Maps.{HasAscendingKeys}
use Rattle.lake_values.proofs.CursorLemmas.{ascends_from}
use Rattle.branch_record.proofs.changes.SliceChangesChangeCursor.seek.Goals as goal

pub invariant_of-self : goal.invariant_of-self
invariant_of-self c =
    record { ascend = subst HasAscendingKeys (sym c.changes_from-self.ensures) (ascends_from c.args.least.now c.args.self.now.rest.now c.args.self.now.ascend) }
