use Rattle.std.proofs.Common.{◌≡◌}
use Rattle.lake_base.specs.Memory.{next_count}
use Rattle.block_store.specs.FailingBlocks.{is_list, is_list_to_fail}
use Rattle.block_store.proofs.MemoryLemmas.{listed}
use Rattle.block_store.proofs.memory.MemoryBlocksBlocks.list.Goals as goal

pub returns-then-is_list_listed-clause-sure : goal.returns-then-is_list_listed-clause-sure
returns-then-is_list_listed-clause-sure c =
    let number : c.saturating_add-self-inside.result ≡ next_count c.self.inside.lists = c.saturating_add-self-inside.ensures in
    let is : is_list_to_fail c.args.self.now.fails c.args.self.now.lists ≡ c.is_list_listed.result =
    rw (← c.self.view_is) (listed is_list c.self.inside.fails.items c.as_slice.result.now c.self.inside.lists c.saturating_add-self-inside.result
    c.is_list_listed.result c.is_list_listed.ensures c.as_slice.ensures.value number) in
    λ no. cc

pub returns-clause-fails : goal.returns-clause-fails
returns-clause-fails c =
    let number : c.saturating_add-self-inside.result ≡ next_count c.self.inside.lists = c.saturating_add-self-inside.ensures in
    let is : is_list_to_fail c.args.self.now.fails c.args.self.now.lists ≡ c.is_list_listed.result =
    rw (← c.self.view_is) (listed is_list c.self.inside.fails.items c.as_slice.result.now c.self.inside.lists c.saturating_add-self-inside.result
    c.is_list_listed.result c.is_list_listed.ensures c.as_slice.ensures.value number) in
    λ yes. absurd cc
