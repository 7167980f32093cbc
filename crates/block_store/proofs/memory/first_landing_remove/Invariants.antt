use Rattle.std.proofs.Common.{◌≡◌, drop}
use Rattle.block_store.specs.FailingBlocks.{first_landing_remove}
use Rattle.block_store.proofs.memory.first_landing_remove.Given as goal

-- it is the first of those to come
abbrev pub invariant-loop-fail : goal.invariant-loop-fail
invariant-loop-fail l = first_landing_remove l.number (drop l.fail-index l.fails) ≡ first_landing_remove l.number l.fails
