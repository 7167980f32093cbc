use Rattle.lake_values.proofs.KeyMapLemmas.{get_apply, get_over, apply_over, over_one, over_over}
use Rattle.lake_values.proofs.key_map.laws_of_changes.Goals as goal

pub returns : goal.returns
returns c = record { applied = get_apply; over = get_over; in_turn = apply_over; one = over_one; together = over_over }
