use Rattle.lake_laws.proofs.ExpirableLemmas.{expirable_same, may_expire_same}
use Rattle.lake_laws.proofs.expiry.law_of_same_references.Goals as goal

pub returns-clause-expirable : goal.returns-clause-expirable
returns-clause-expirable c = expirable_same

pub returns-clause-expire : goal.returns-clause-expire
returns-clause-expire c = may_expire_same
