use Rattle.std.proofs.Common.{◌∙◌, sym}
use Rattle.std.proofs.lemmas.Map.Keys.{IsStrictlyIncreasing-from_sorted}
use Rattle.block_store.proofs.SureLemmas.{keys-from}
use Rattle.block_store.proofs.sure.SureBlocksBlocks.list.Goals as goal

pub returns-clause-numbers : goal.returns-clause-numbers
returns-clause-numbers c =
    rw (← c.self.view_is)
    (c.in_ok-numbers.ensures.numbers ∙ sym (keys-from c.self.inside.objects.entries c.in_ok-numbers.ensures.ordered))

pub returns-clause-ascending : goal.returns-clause-ascending
returns-clause-ascending c =
    rw c.in_ok-numbers.ensures.numbers (IsStrictlyIncreasing-from_sorted _ c.in_ok-numbers.ensures.ordered)
