use Rattle.std.proofs.Common.{take}
use Rattle.pair_ties.proofs.HiddenLemmas.{IsLookedAt}
use Rattle.pair_ties.proofs.changes.is_hidden.Given as goal

-- the tokens so far aren't this one, and whether one of them has a change is told
abbrev pub invariant-loop-newer : goal.invariant-loop-newer
invariant-loop-newer l = IsLookedAt l.raw (take l.newer-index l.sealed) l.token l.path l.found
