use Rattle.core_readings.proofs.IdLemmas.{map_by_id, same_map_by_id}
use Rattle.core_readings.proofs.ids.law_of_reading_by_id.Goals as goal

pub returns-clause-now : goal.returns-clause-now
returns-clause-now c state repo r id at sound is there = map_by_id state.cut r (sound.repositories repo r is) id there at

pub returns-clause-later : goal.returns-clause-later
returns-clause-later c state entries repo r id at sound legal is = same_map_by_id state entries repo r id at sound legal is
