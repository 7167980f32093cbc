use Rattle.lake_laws.proofs.KeptCommitLemmas.{commit_stays, expression_commit, expression_stays, parent_commit, parent_stays}
use Rattle.lake_laws.proofs.kept.law_of_kept_commits.Goals as goal

pub returns-clause-expression : goal.returns-clause-expression
returns-clause-expression c state repo r e id sound stands = expression_commit state repo r sound stands e id

pub returns-clause-parent : goal.returns-clause-parent
returns-clause-parent c state repo r id parent place sound stands = parent_commit state repo r sound stands id parent place

pub returns-clause-stays : goal.returns-clause-stays
returns-clause-stays c state seen history more repo r id is legal stands = commit_stays state seen history more is legal repo r stands id

pub returns-clause-expression_stays : goal.returns-clause-expression_stays
returns-clause-expression_stays c state seen history more repo r e id sound is legal stands =
    expression_stays state seen history more is legal repo r stands sound e id

pub returns-clause-parent_stays : goal.returns-clause-parent_stays
returns-clause-parent_stays c state seen history more repo r id parent place sound is legal stands =
    parent_stays state seen history more is legal repo r stands sound id parent place
