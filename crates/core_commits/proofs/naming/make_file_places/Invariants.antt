use Rattle.std.proofs.Common.{◌≡◌, take}
use Rattle.std.specs.List.{AllByRecursion}
use Rattle.byte_map.specs.Values.{some_values}
use Rattle.core_state.specs.NameIndexes.{bytes_in}
use Rattle.core_changes.specs.NewPlaces.{HaveSamePlaces}
use Rattle.core_commits.specs.CommitNames.{HasPlace}
use Rattle.core_commits.proofs.naming.make_file_places.Given as goal

-- nothing else changed so far, and there are places for the files so far
abbrev pub invariant-loop-file : goal.invariant-loop-file
invariant-loop-file l = record {
  same : some_values bytes_in l.places ≡ some_values bytes_in l.fn.places;
  places : HaveSamePlaces l.fn.places l.places;
  room : AllByRecursion (HasPlace l.places) (take l.file-index l.files);
}
