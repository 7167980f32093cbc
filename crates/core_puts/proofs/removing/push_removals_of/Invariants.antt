use Rattle.std.proofs.Common.{◌≡◌, ◌++◌, drop}
use Rattle.std.specs.List.{flat_map}
use Rattle.core_puts.specs.Puts.{removals_under}
use Rattle.core_puts.proofs.removing.push_removals_of.Given as goal

-- the removals so far, and those of the tokens to come, are all
abbrev pub invariant-loop-token : goal.invariant-loop-token
invariant-loop-token l =
    l.puts.items ++ flat_map (removals_under l.what l.tokens.changes) (drop l.token-index l.named)
    ≡ l.initial.puts.items ++ flat_map (removals_under l.what l.tokens.changes) l.named
