use Rattle.std.proofs.Common.{◌≡◌}
use Rattle.lake_base.specs.Memory.{next_count}
use Rattle.keeper.specs.FailingKeepers.{is_load_to_fail}
use Rattle.keeper.proofs.MemoryLemmas.{listed}
use Rattle.keeper.proofs.memory.MemoryKeeperKeeper.load.Goals as goal

pub returns-then-is_load_listed-clause-sure : goal.returns-then-is_load_listed-clause-sure
returns-then-is_load_listed-clause-sure c =
    let number : c.saturating_add-self-inside.result ≡ next_count c.self.inside.loads = c.saturating_add-self-inside.ensures in
    let is : is_load_to_fail c.args.self.now.fails c.args.self.now.loads ≡ c.is_load_listed.result =
    rw (← c.self.view_is) (listed c.self.inside.fails.items c.as_slice.result.now c.self.inside.loads c.saturating_add-self-inside.result
    c.is_load_listed.result c.is_load_listed.ensures c.as_slice.ensures.value number) in
    λ no. cc

pub returns-clause-fails : goal.returns-clause-fails
returns-clause-fails c =
    let number : c.saturating_add-self-inside.result ≡ next_count c.self.inside.loads = c.saturating_add-self-inside.ensures in
    let is : is_load_to_fail c.args.self.now.fails c.args.self.now.loads ≡ c.is_load_listed.result =
    rw (← c.self.view_is) (listed c.self.inside.fails.items c.as_slice.result.now c.self.inside.loads c.saturating_add-self-inside.result
    c.is_load_listed.result c.is_load_listed.ensures c.as_slice.ensures.value number) in
    λ yes. absurd cc
