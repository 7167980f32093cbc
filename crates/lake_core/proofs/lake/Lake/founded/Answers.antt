use Rattle.std.proofs.Common.{refl, sym, subst}
use Rattle.lake_model.specs.Soundness.{IsSound}
use Rattle.lake_model.specs.Versions.{fresh_versions}
use Rattle.core_puts.specs.KeeperViews.{KeeperView}
use Rattle.core_state.specs.FirstStates.{fresh_lake}
use Rattle.lake_core.proofs.OpeningLemmas.{founded_pairs, stands_opened}
use Rattle.lake_core.proofs.lake.Lake.founded.Goals as goal

pub reopened-requires-clause-stands : goal.reopened-requires-clause-stands
reopened-requires-clause-stands g c =
    let cut = c.args.cut in
    let founding = c.laws_of_founding.ensures in
    let sound = subst IsSound (sym (founding.state cut)) (c.law_of_soundness.ensures.fresh cut) in
    let below = c.law_of_versions_below.ensures fresh_versions (fresh_lake cut) (founding.versions cut) c.law_of_next_versions.ensures.fresh in
    let stands = c.law_of_opening.ensures (fresh_lake cut) sound (record { entries = refl; references = refl; tickets = refl; stopped = refl }) below
    (founding.tokens cut) (founding.counted cut) (founding.index cut) c.requires.cut in
    stands_opened (fresh_lake cut) _ stands c.in-Ok.ensures.filled.0

pub reopened-requires-clause-pairs : goal.reopened-requires-clause-pairs
reopened-requires-clause-pairs g c =
    let view : KeeperView _ = record { kept = g.K.Keeper.kept; faults = g.K.Keeper.faults; calls = g.K.Keeper.calls; successes = g.K.Keeper.successes } in
    founded_pairs view c.args.cut _ _ _ _ c.requires.none c.in-Ok.ensures.filled.1 c.in-Ok.ensures.filled.0
    (c.laws_of_followed_lakes.ensures.fresh _ c.args.cut c.in-Ok.ensures.places)
