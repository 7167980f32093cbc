use Rattle.lake_calls.proofs.OneSeatLemmas.{one_alone, one_but_for_clash, one_served}
use Rattle.lake_calls.proofs.laws.law_of_one_value_with_commits.Goals as goal

pub returns-clause-one : goal.returns-clause-one
returns-clause-one c = one_alone

pub returns-clause-but_for_clash : goal.returns-clause-but_for_clash
returns-clause-but_for_clash c = one_but_for_clash

pub returns-clause-served : goal.returns-clause-served
returns-clause-served c = one_served
