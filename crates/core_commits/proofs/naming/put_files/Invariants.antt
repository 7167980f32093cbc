use Rattle.std.proofs.Common.{◌≡◌}
use Rattle.std.specs.List.{AllByRecursion}
use Rattle.std.specs.Vec.{vec_len}
use Rattle.meta_range.specs.Ranges.{TreeValue}
use Rattle.byte_map.specs.Values.{some_values}
use Rattle.core_state.specs.NameIndexes.{bytes_in}
use Rattle.core_changes.specs.NewPlaces.{AreNamedPlaces, HasNewPlaces}
use Rattle.core_commits.specs.CommitNames.{AreFilesOf, HasPlace, with_named}
use Rattle.core_commits.proofs.naming.put_files.Given as goal

-- there are places for the files to come; those over the ones in place are all, and
-- those in place are of the tree
abbrev pub invariant-loop-name : goal.invariant-loop-name
invariant-loop-name l = record {
  room : AllByRecursion (HasPlace l.places) l.files.items;
  same : with_named l.files.items (some_values bytes_in l.places) ≡ with_named l.fn.files.items (some_values bytes_in l.fn.places);
  places : (tree : TreeValue) → AreFilesOf tree l.fn.files.items → AreNamedPlaces l.fn.places
      → AreFilesOf tree l.files.items × HasNewPlaces l.fn.places l.places tree;
}

abbrev pub decreases-loop-name : goal.decreases-loop-name
decreases-loop-name l = vec_len l.files
