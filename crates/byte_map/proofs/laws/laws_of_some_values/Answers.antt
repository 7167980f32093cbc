use Rattle.byte_map.proofs.ValuesLemmas.{entries_some_values, get_some_values, some_values_insert, some_values_insert_none, some_values_remove}
use Rattle.byte_map.proofs.ValuesLemmas.{some_values_empty}
use Rattle.byte_map.proofs.laws.laws_of_some_values.Goals as goal

pub returns : goal.returns
returns g c = record {
  entries = entries_some_values;
  get = get_some_values;
  insert = some_values_insert;
  insert_none = some_values_insert_none;
  remove = some_values_remove;
  empty = some_values_empty;
}
