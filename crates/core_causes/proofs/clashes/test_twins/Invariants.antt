use Rattle.std.proofs.Common.{◌≡◌, [], drop, take}
use Rattle.lake_format.specs.Spelling.{file_name}
use Rattle.meta_range.specs.RangeNames.{TellsFirst}
use Rattle.core_causes.specs.Clashing.{first_twins}
use Rattle.core_causes.proofs.clashes.test_twins.Given as goal

-- the table tells of the files so far, and the first twins are those from here on
abbrev pub invariant-loop-place : goal.invariant-loop-place
invariant-loop-place l =
    TellsFirst file_name l.firsts.entries (take l.place l.tree.files)
    × (first_twins [] l.tree.files ≡ first_twins (take l.place l.tree.files) (drop l.place l.tree.files))
