use Rattle.lake_laws.proofs.IdTextLemmas.{map_by_id, map_stays, target_by_id, target_stays}
use Rattle.lake_laws.proofs.kept.law_of_commit_expressions.Goals as goal

pub returns-clause-leads : goal.returns-clause-leads
returns-clause-leads c state repo r id at sound stands there = target_by_id state.cut r (sound.repositories repo r stands) id there at

pub returns-clause-stays : goal.returns-clause-stays
returns-clause-stays c state seen history more repo r id at sound is legal stands there =
    target_stays state seen history more repo r id at sound is legal stands there

pub returns-clause-reads : goal.returns-clause-reads
returns-clause-reads c state repo r id at sound stands there = map_by_id state.cut r (sound.repositories repo r stands) id there at

pub returns-clause-reads_same : goal.returns-clause-reads_same
returns-clause-reads_same c state seen history more repo r id at sound is legal stands there =
    map_stays state seen history more repo r id at sound is legal stands there
