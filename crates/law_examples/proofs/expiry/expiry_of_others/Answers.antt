use Rattle.law_examples.proofs.ExpiryLemmas as lemmas
use Rattle.law_examples.proofs.expiry.expiry_of_others.Goals as goal

pub returns-clause-allowed : goal.returns-clause-allowed
returns-clause-allowed c = lemmas.allowed

pub returns-clause-one_left : goal.returns-clause-one_left
returns-clause-one_left c = lemmas.one_left

pub returns-clause-twice : goal.returns-clause-twice
returns-clause-twice c = lemmas.twice

pub returns-clause-head : goal.returns-clause-head
returns-clause-head c = lemmas.not_head

pub returns-clause-no_commit : goal.returns-clause-no_commit
returns-clause-no_commit c = lemmas.not_other
