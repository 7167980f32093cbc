use Rattle.law_examples.proofs.RemovingLemmas.{condemn_allowed, condemn_twice, condemn_named, condemn_unknown}
use Rattle.law_examples.proofs.removing.condemned.Goals as goal

pub returns-clause-allowed : goal.returns-clause-allowed
returns-clause-allowed c = condemn_allowed

pub returns-clause-twice : goal.returns-clause-twice
returns-clause-twice c = condemn_twice

pub returns-clause-named : goal.returns-clause-named
returns-clause-named c = condemn_named

pub returns-clause-unknown : goal.returns-clause-unknown
returns-clause-unknown c = condemn_unknown
