use Rattle.law_examples.proofs.CommittingLemmas.{repository_refused, commit_refused, pick_refused}
use Rattle.law_examples.proofs.PicksLemmas.{expired_commit, expired_pick}
use Rattle.law_examples.proofs.committing.inadmissible_entry.Goals as goal

pub returns-clause-repository : goal.returns-clause-repository
returns-clause-repository c = repository_refused

pub returns-clause-commit : goal.returns-clause-commit
returns-clause-commit c = commit_refused

pub returns-clause-expired_commit : goal.returns-clause-expired_commit
returns-clause-expired_commit c = expired_commit

pub returns-clause-pick : goal.returns-clause-pick
returns-clause-pick c = pick_refused

pub returns-clause-expired_pick : goal.returns-clause-expired_pick
returns-clause-expired_pick c = expired_pick
