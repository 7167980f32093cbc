use Rattle.std.proofs.Common.{arith}
use Rattle.std.proofs.lemmas.Grind.{common_steps}
use Rattle.block_store.proofs.SureLemmas.{get-from}
use Rattle.block_store.proofs.sure.SureBlocksBlocks.get.Goals as goal

pub returns-in_default-clause-got : goal.returns-in_default-clause-got
returns-in_default-clause-got c =
    rw (← c.self.view_is) (grind (arith, common_steps, get-from c.self.inside.objects.entries c.args.number))

pub returns-clause-got : goal.returns-clause-got
returns-clause-got c =
    rw (← c.self.view_is) (grind (arith, common_steps, get-from c.self.inside.objects.entries c.args.number))
