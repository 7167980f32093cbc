use Rattle.std.proofs.Common.{◌≡◌, ◌∷◌, map, take}
use Rattle.lake_format.specs.Spelling.{range_spelling}
use Rattle.meta_range.specs.Files.{file_of}
use Rattle.meta_range.specs.Ranges.{metarange_of}
use Rattle.meta_range.proofs.tree.Tree.files.Given as goal

-- the metarange's file, and those of the ranges so far
abbrev pub invariant-loop-range : goal.invariant-loop-range
invariant-loop-range l = l.files.items ≡ map file_of (metarange_of l.ranges ∷ map range_spelling (take l.range-index l.ranges))
