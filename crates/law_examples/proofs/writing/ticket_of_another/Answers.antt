use Rattle.law_examples.proofs.WritingLemmas.{put_allowed, put_by_other, put_without, drop_allowed, drop_by_other, drop_without}
use Rattle.law_examples.proofs.writing.ticket_of_another.Goals as goal

pub returns-clause-allowed : goal.returns-clause-allowed
returns-clause-allowed c = put_allowed

pub returns-clause-refused : goal.returns-clause-refused
returns-clause-refused c = put_by_other

pub returns-clause-without : goal.returns-clause-without
returns-clause-without c = put_without

pub returns-clause-allowed_drop : goal.returns-clause-allowed_drop
returns-clause-allowed_drop c = drop_allowed

pub returns-clause-refused_drop : goal.returns-clause-refused_drop
returns-clause-refused_drop c = drop_by_other

pub returns-clause-drop_without : goal.returns-clause-drop_without
returns-clause-drop_without c = drop_without
