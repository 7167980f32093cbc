use Rattle.byte_map.proofs.ByteMapLemmas.{get_insert, get_remove, get_inserted, get_removed, contains_insert, contains_remove, insert_same, remove_absent}
use Rattle.byte_map.proofs.ByteMapLemmas.{insert_over, remove_inserted, same_maps}
use Rattle.byte_map.proofs.laws.laws_of_maps.Goals as goal

pub returns : goal.returns
returns g c = record {
  insert = get_insert;
  remove = get_remove;
  contains_insert = contains_insert;
  contains_remove = contains_remove;
  inserted = get_inserted;
  removed = get_removed;
  insert_same = insert_same;
  remove_absent = remove_absent;
  insert_over = insert_over;
  remove_inserted = remove_inserted;
  same = same_maps;
}
