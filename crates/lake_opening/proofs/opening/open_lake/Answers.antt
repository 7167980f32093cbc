use Rattle.std.proofs.Common.{sym, subst}
use Rattle.std.specs.Prelude.{◌≡◌, IfSome}
use Rattle.std.specs.FinMap.{empty}
use Rattle.core_puts.specs.KeeperViews.{KeeperView}
use Rattle.lake_opening.specs.Opening.{IsRead}
use Rattle.lake_opening.proofs.OpeningLemmas.{founded_since, had_none, read_follows}
use Rattle.lake_opening.proofs.opening.open_lake.Goals as goal

pub reopened-requires-clause-pairs : goal.reopened-requires-clause-pairs
reopened-requires-clause-pairs g c =
    let read = c.in-Ok-Some.ensures in
    let view : KeeperView _ = record { kept = g.K.Keeper.kept; faults = g.K.Keeper.faults; calls = g.K.Keeper.calls; successes = g.K.Keeper.successes } in
    read_follows view c.args.cut c.args.keeper c.read_over.new.keeper read.0 c.in-Ok-Some.present
    (subst (IsRead view c.args.cut c.args.keeper c.read_over.new.keeper read.0) c.in-Ok-Some.field-0-is read.1)

pub found_over-requires-clause-none : goal.found_over-requires-clause-none
found_over-requires-clause-none g c =
    let read = c.in-Ok-None.ensures in
    subst (λ kept. IfSome kept (λ pairs. pairs ≡ empty)) (sym read.1.keeper.kept)
    (had_none (g.K.Keeper.kept c.args.keeper) read.0 read.1.loaded.all (read.1.none c.in-Ok-None.field-0-is))

pub returns-in-Ok-None : goal.returns-in-Ok-None
returns-in-Ok-None g c =
    let read = c.in-Ok-None.ensures in
    founded_since (record { kept = g.K.Keeper.kept; faults = g.K.Keeper.faults; calls = g.K.Keeper.calls; successes = g.K.Keeper.successes })
    c.args.cut c.args.keeper c.read_over.new.keeper read.1.keeper c.found_over.result read.0 read.1.loaded
    (read.1.none c.in-Ok-None.field-0-is) c.found_over.ensures
