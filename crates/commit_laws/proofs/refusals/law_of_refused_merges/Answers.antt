use Rattle.commit_laws.proofs.ServedHeadLemmas.{behind_head, failed_head, makes_merge, makes_pick, makes_revert, refused_head}
use Rattle.commit_laws.proofs.refusals.law_of_refused_merges.Goals as goal

pub returns-clause-merge : goal.returns-clause-merge
returns-clause-merge c opened by before after call moment met cause position next_edge served =
    refused_head opened by before after _ moment met position next_edge cause served _ (makes_merge call moment served.fixed)

pub returns-clause-merge_behind : goal.returns-clause-merge_behind
returns-clause-merge_behind c opened by before after call moment met cause position next_edge served =
    behind_head opened by before after _ moment met position next_edge cause served _ (makes_merge call moment served.fixed)

pub returns-clause-merge_failed : goal.returns-clause-merge_failed
returns-clause-merge_failed c opened by before after call moment met position next_edge served =
    failed_head opened by before after _ moment met position next_edge served _ (makes_merge call moment served.fixed)

pub returns-clause-revert : goal.returns-clause-revert
returns-clause-revert c opened by before after call moment met cause position next_edge served =
    refused_head opened by before after _ moment met position next_edge cause served _ (makes_revert call moment served.fixed)

pub returns-clause-revert_behind : goal.returns-clause-revert_behind
returns-clause-revert_behind c opened by before after call moment met cause position next_edge served =
    behind_head opened by before after _ moment met position next_edge cause served _ (makes_revert call moment served.fixed)

pub returns-clause-revert_failed : goal.returns-clause-revert_failed
returns-clause-revert_failed c opened by before after call moment met position next_edge served =
    failed_head opened by before after _ moment met position next_edge served _ (makes_revert call moment served.fixed)

pub returns-clause-cherry_pick : goal.returns-clause-cherry_pick
returns-clause-cherry_pick c opened by before after call moment met cause position next_edge served =
    refused_head opened by before after _ moment met position next_edge cause served _ (makes_pick call moment served.fixed)

pub returns-clause-cherry_pick_behind : goal.returns-clause-cherry_pick_behind
returns-clause-cherry_pick_behind c opened by before after call moment met cause position next_edge served =
    behind_head opened by before after _ moment met position next_edge cause served _ (makes_pick call moment served.fixed)

pub returns-clause-cherry_pick_failed : goal.returns-clause-cherry_pick_failed
returns-clause-cherry_pick_failed c opened by before after call moment met position next_edge served =
    failed_head opened by before after _ moment met position next_edge served _ (makes_pick call moment served.fixed)
