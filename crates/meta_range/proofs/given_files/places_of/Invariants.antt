use Rattle.std.proofs.Common.{take}
use Rattle.meta_range.specs.Files.{given_name}
use Rattle.meta_range.specs.RangeNames.{TellsFirst}
use Rattle.meta_range.proofs.given_files.places_of.Given as goal

-- the table tells of the files so far
abbrev pub invariant-loop-at : goal.invariant-loop-at
invariant-loop-at l = TellsFirst given_name l.places.entries (take l.at l.files)
