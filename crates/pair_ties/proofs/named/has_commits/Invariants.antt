use Rattle.std.proofs.Common.{take}
use Rattle.std.specs.List.{AllByRecursion}
use Rattle.pair_format.specs.declared.key.OwnedKey.TheVariants as key
use Rattle.pair_ties.specs.BrokenPairs.{HasPair}
use Rattle.pair_ties.proofs.named.has_commits.Given as goal

-- pairs have the keys of the commits so far
abbrev pub invariant-loop-id : goal.invariant-loop-id
invariant-loop-id l = AllByRecursion (λ id. HasPair l.raw (key.Commit l.repo id)) (take l.id-index l.ids)
