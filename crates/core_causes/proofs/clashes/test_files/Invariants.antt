use Rattle.std.proofs.Common.{◌≡◌, drop}
use Rattle.core_state.specs.LakeStates.{lake_value}
use Rattle.core_causes.specs.Clashing.{first_clash}
use Rattle.core_causes.proofs.clashes.test_files.Given as goal

-- the first clash is that of the files from here on
abbrev pub invariant-loop-place : goal.invariant-loop-place
invariant-loop-place l = first_clash (lake_value l.lake) l.tree.files ≡ first_clash (lake_value l.lake) (drop l.place l.tree.files)
