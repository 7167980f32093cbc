use Rattle.law_examples.proofs.WritingLemmas.{deletion_allowed, deletion_refused, setting_allowed, setting_refused}
use Rattle.law_examples.proofs.writing.no_setting.Goals as goal

pub returns-clause-allowed_deletion : goal.returns-clause-allowed_deletion
returns-clause-allowed_deletion c = deletion_allowed

pub returns-clause-refused_deletion : goal.returns-clause-refused_deletion
returns-clause-refused_deletion c = deletion_refused

pub returns-clause-allowed_setting : goal.returns-clause-allowed_setting
returns-clause-allowed_setting c = setting_allowed

pub returns-clause-refused_setting : goal.returns-clause-refused_setting
returns-clause-refused_setting c = setting_refused
