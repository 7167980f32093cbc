use Rattle.commit_laws.proofs.ServedHeadLemmas.{done_head, makes_commit}
use Rattle.commit_laws.proofs.OwnSealLemmas.{goes_in_newest, goes_in_one_seal, goes_in_unwritten, own_two, seals_newest_own, seals_own}
use Rattle.commit_laws.proofs.commits.law_of_served_commits.Goals as goal

pub returns-clause-points : goal.returns-clause-points
returns-clause-points c opened by before after call moment met told position next_edge served =
    done_head opened by before after _ moment met position next_edge told served _ (makes_commit call moment served.fixed)

pub returns-clause-own : goal.returns-clause-own
returns-clause-own c by before after made position next_edge = own_two by before after made position next_edge

pub returns-clause-sealed : goal.returns-clause-sealed
returns-clause-sealed c opened by before after last made position next_edge path change points legal has =
    seals_own by before after last made position next_edge points opened legal path change has

pub returns-clause-sealed_written : goal.returns-clause-sealed_written
returns-clause-sealed_written c opened by before after last made position next_edge path change points legal has =
    seals_newest_own by before after last made position next_edge points opened legal path change has

pub returns-clause-goes_in : goal.returns-clause-goes_in
returns-clause-goes_in c opened by before after made position next_edge path change points legal has =
    goes_in_unwritten opened by before after made position next_edge points legal path change has

pub returns-clause-goes_in_sealed : goal.returns-clause-goes_in_sealed
returns-clause-goes_in_sealed c opened by before after made position next_edge path change points legal has =
    goes_in_one_seal opened by before after made position next_edge points legal path change has

pub returns-clause-goes_in_written : goal.returns-clause-goes_in_written
returns-clause-goes_in_written c opened by before after made position next_edge path change points legal has =
    goes_in_newest opened by before after made position next_edge points legal path change has
