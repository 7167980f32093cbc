use Rattle.std.proofs.Common.{◌≡◌, All, map}
use Rattle.std.specs.List.{Contains}
use Rattle.std.specs.Vec.{vec_len}
use Rattle.core_state.specs.LakeStates.{lake_value}
use Rattle.core_filling.specs.Filling.{IsNamed, commit_read, with_commits}
use Rattle.core_filling.specs.NewPlaces.{AddsPlacesOf}
use Rattle.core_filling.proofs.commits.put_sorted.Given as goal

-- the commits to come have their ids, and are some of all; those over the ones that are put are all
abbrev pub invariant-loop-read : goal.invariant-loop-read
invariant-loop-read l = record {
  named : All IsNamed l.commits.items;
  among : All (λ read. Contains (map commit_read l.fn.commits.items) (commit_read read)) l.commits.items;
  same : with_commits (map commit_read l.commits.items) (lake_value l.lake)
      ≡ with_commits (map commit_read l.fn.commits.items) (lake_value l.fn.lake);
  places : AddsPlacesOf (map commit_read l.fn.commits.items) l.fn.lake.names.files l.lake.names.files;
}

abbrev pub decreases-loop-read : goal.decreases-loop-read
decreases-loop-read l = vec_len l.commits
