use Rattle.hook_rules.proofs.WritingLemmas.{protection_again, protection_text_again}
use Rattle.hook_rules.proofs.protection.law_of_protection.Goals as goal

pub returns-clause-data : goal.returns-clause-data
returns-clause-data c = protection_again

pub returns-clause-text : goal.returns-clause-text
returns-clause-text c = protection_text_again
