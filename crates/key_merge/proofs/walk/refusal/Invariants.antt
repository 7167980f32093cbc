use Rattle.std.proofs.Common.{◌+◌, ◌<◌, ◌^◌, ◌∷◌, length}
use Rattle.key_merge.specs.MergeWalk.{conflicts_of}
use Rattle.key_merge.proofs.WalkLemmas.{Tells}
use Rattle.key_merge.proofs.walk.refusal.Given as goal

-- what is listed and counted, before the conflicts still to come
abbrev pub invariant-loop-front : goal.invariant-loop-front
invariant-loop-front l = record {
  few : l.total + (length l.sides.base + length l.sides.source) < 2 ^ 61;
  tells : Tells l.paths.items l.total (conflicts_of l.sides) (l.first ∷ conflicts_of l.fn.sides);
}

abbrev pub decreases-loop-front : goal.decreases-loop-front
decreases-loop-front l = length l.sides.base + length l.sides.source
