use Rattle.std.proofs.Common.{◌≡◌, drop}
use Rattle.keeper.specs.FailingKeepers.{first_landing}
use Rattle.keeper.proofs.memory.first_landing.Given as goal

-- it is the first of those to come
abbrev pub invariant-loop-fail : goal.invariant-loop-fail
invariant-loop-fail l = first_landing l.number (drop l.fail-index l.fails) ≡ first_landing l.number l.fails
