-- Where commits and files are kept, by their names.
use Rattle.std.specs.Prelude.{ℕ, List, Option, option_map}
use Rattle.std.specs.FinMap.{empty}
use Rattle.lake_base.specs.Maps.{ByteMap}
use Rattle.byte_map.specs.Values.{some_values}
use Rattle.core_state.specs.declared.file_place.FilePlace.{FilePlace}
use Rattle.core_state.specs.declared.names.NameIndex.{NameIndex}

-- the repository in which the commit of an id stands, and the bytes of the file of a name
pub record NameIndexValue : Type 0 where
  pub homes : ByteMap (List ℕ)
  pub files : ByteMap (List ℕ)

-- the bytes of the file in a place, where one is there
abbrev pub bytes_in : Option FilePlace → Option (List ℕ)
bytes_in = option_map (λ place. place.bytes)

-- what an index says, without the room that it has for what may come
abbrev pub index_value : NameIndex → NameIndexValue
index_value i = record {
  homes = some_values (λ home. home) i.homes;
  files = some_values bytes_in i.files;
}

-- no names
abbrev pub empty_index : NameIndexValue
empty_index = record { homes = empty; files = empty }
