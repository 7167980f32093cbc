use Rattle.std.proofs.Common.{refl}
use Rattle.law_examples.proofs.HooksLemmas.{hook_allows, hook_refuses}
use Rattle.law_examples.proofs.merging.hook_that_denies_merge.Goals as goal

pub returns-clause-allowed : goal.returns-clause-allowed
returns-clause-allowed c fork about distinct = hook_allows 1 fork about distinct refl

pub returns-clause-refused : goal.returns-clause-refused
returns-clause-refused c fork about distinct = hook_refuses 0 fork about distinct refl
