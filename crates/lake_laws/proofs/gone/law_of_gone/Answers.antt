use Rattle.lake_laws.proofs.GoneLemmas.{gone-replay, seen_on_branch, seen_at_commit}
use Rattle.lake_laws.proofs.gone.law_of_gone.Goals as goal

pub returns-clause-stays : goal.returns-clause-stays
returns-clause-stays c state entries number = gone-replay number state entries

pub returns-clause-branch : goal.returns-clause-branch
returns-clause-branch c state repo r e path seen sound is plain reply = seen_on_branch state repo r sound is e path seen reply plain

pub returns-clause-commit : goal.returns-clause-commit
returns-clause-commit c state repo r e id path seen sound is target live reply = seen_at_commit state repo r sound is e path seen reply id target live
