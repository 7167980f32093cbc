use Rattle.std.proofs.Common.{◌≡◌, ◌∷◌, ◌++◌, length, take}
use Rattle.std.specs.Int.{w32, to_be_bytes}
use Rattle.std.specs.List.{flat_map}
use Rattle.lake_format.specs.Spelling.{line_spelling, line_of}
use Rattle.meta_range.proofs.metarange.metarange_bytes.Given as goal

-- what is said of the ranges so far is written
abbrev pub invariant-loop-range : goal.invariant-loop-range
invariant-loop-range l =
    l.out.items ≡ (1 ∷ to_be_bytes w32 (length l.ranges)) ++ flat_map (λ range. line_spelling (line_of range)) (take l.range-index l.ranges)
