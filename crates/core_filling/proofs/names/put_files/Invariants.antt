use Rattle.std.proofs.Common.{◌≡◌, ◌<◌, ◌+◌, drop, length}
use Rattle.byte_map.specs.Values.{some_values}
use Rattle.core_state.specs.NameIndexes.{bytes_in}
use Rattle.core_state.specs.NewCommits.{with_files}
use Rattle.core_filling.specs.NewPlaces.{AddsPlaces}
use Rattle.core_filling.proofs.names.put_files.Given as goal

-- the files behind this place are put
abbrev pub invariant-loop-left : goal.invariant-loop-left
invariant-loop-left l = record {
  within : l.left < length l.tree.value.files;
  names : some_values bytes_in l.files ≡ with_files (drop (l.left + 1) l.tree.value.files) (some_values bytes_in l.fn.files);
  places : AddsPlaces l.tree.value l.fn.files l.files;
}

abbrev pub decreases-loop-left : goal.decreases-loop-left
decreases-loop-left l = l.left
