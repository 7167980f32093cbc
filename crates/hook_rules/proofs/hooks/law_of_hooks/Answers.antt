use Rattle.hook_rules.proofs.WritingLemmas.{hooks_again, hooks_text_again}
use Rattle.hook_rules.proofs.hooks.law_of_hooks.Goals as goal

pub returns-clause-data : goal.returns-clause-data
returns-clause-data c = hooks_again

pub returns-clause-text : goal.returns-clause-text
returns-clause-text c = hooks_text_again
