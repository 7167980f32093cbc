use Rattle.byte_map.proofs.ValuesLemmas.{entries_map_values, get_map_values, contains_map_values, len_map_values, map_values_insert, map_values_remove}
use Rattle.byte_map.proofs.ValuesLemmas.{map_values_empty}
use Rattle.byte_map.proofs.laws.laws_of_map_values.Goals as goal

pub returns : goal.returns
returns g c = record {
  entries = entries_map_values;
  get = get_map_values;
  contains = contains_map_values;
  len = len_map_values;
  insert = map_values_insert;
  remove = map_values_remove;
  empty = map_values_empty;
}
