use Rattle.std.proofs.Common.{◌≡◌, ◌∷◌, take}
use Rattle.branch_record.specs.Joined.{layers_under}
use Rattle.branch_record.proofs.joined.layers.Given as goal

-- those of the tokens so far are there
abbrev pub invariant-loop-token : goal.invariant-loop-token
invariant-loop-token l = l.layers.items ≡ layers_under l.tokens.changes (l.newest ∷ take l.token-index l.older)
