use Rattle.std.proofs.Common.{◌≡◌, replicate}
use Rattle.std.specs.FinMap.{empty}
use Rattle.lake_program.proofs.server.empty_stores.Given as goal

-- the stores so far hold nothing
abbrev pub invariant-loop : goal.invariant-loop
invariant-loop l = l.stores.items ≡ replicate l.counter (record { held = empty; misses = 0; missed = 0 })
