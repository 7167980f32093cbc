use Rattle.std.proofs.Common.{refl}
use Rattle.commit_laws.proofs.ServedHeadLemmas.{behind_head, failed_head, makes_commit, refused_head}
use Rattle.commit_laws.proofs.OwnSealLemmas.{own_none, own_sealed}
use Rattle.commit_laws.proofs.UncommittedLemmas.{stays_or_others}
use Rattle.commit_laws.proofs.refusals.law_of_refused_commits.Goals as goal

pub returns-clause-refused : goal.returns-clause-refused
returns-clause-refused c opened by before after call moment met cause position next_edge served =
    refused_head opened by before after _ moment met position next_edge cause served _ (makes_commit call moment served.fixed)

pub returns-clause-behind : goal.returns-clause-behind
returns-clause-behind c opened by before after call moment met cause position next_edge served =
    behind_head opened by before after _ moment met position next_edge cause served _ (makes_commit call moment served.fixed)

pub returns-clause-failed : goal.returns-clause-failed
returns-clause-failed c opened by before after call moment met position next_edge served =
    failed_head opened by before after _ moment met position next_edge served _ (makes_commit call moment served.fixed)

pub returns-clause-own : goal.returns-clause-own
returns-clause-own c by before after made position next_edge points =
    own_sealed by before after _ made position next_edge points refl

pub returns-clause-nothing : goal.returns-clause-nothing
returns-clause-nothing c by before after position next_edge = own_none by before after position next_edge

pub returns-clause-uncommitted : goal.returns-clause-uncommitted
returns-clause-uncommitted c opened by before after entries made position next_edge repo branch path change left whole legal =
    stays_or_others opened by before after entries made position next_edge left whole legal repo branch path change
