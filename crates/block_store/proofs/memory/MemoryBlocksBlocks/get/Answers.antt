use Rattle.std.proofs.Common.{◌≡◌}
use Rattle.lake_base.specs.Memory.{next_count}
use Rattle.block_store.specs.FailingBlocks.{is_get, is_get_to_fail}
use Rattle.block_store.proofs.MemoryLemmas.{listed}
use Rattle.block_store.proofs.memory.MemoryBlocksBlocks.get.Goals as goal

pub returns-then-is_get_listed-clause-sure : goal.returns-then-is_get_listed-clause-sure
returns-then-is_get_listed-clause-sure c =
    let number : c.saturating_add-self-inside.result ≡ next_count c.self.inside.gets = c.saturating_add-self-inside.ensures in
    let is : is_get_to_fail c.args.self.now.fails c.args.self.now.gets ≡ c.is_get_listed.result =
    rw (← c.self.view_is) (listed is_get c.self.inside.fails.items c.as_slice.result.now c.self.inside.gets c.saturating_add-self-inside.result
    c.is_get_listed.result c.is_get_listed.ensures c.as_slice.ensures.value number) in
    λ no. cc

pub returns-clause-fails : goal.returns-clause-fails
returns-clause-fails c =
    let number : c.saturating_add-self-inside.result ≡ next_count c.self.inside.gets = c.saturating_add-self-inside.ensures in
    let is : is_get_to_fail c.args.self.now.fails c.args.self.now.gets ≡ c.is_get_listed.result =
    rw (← c.self.view_is) (listed is_get c.self.inside.fails.items c.as_slice.result.now c.self.inside.gets c.saturating_add-self-inside.result
    c.is_get_listed.result c.is_get_listed.ensures c.as_slice.ensures.value number) in
    λ yes. absurd cc
