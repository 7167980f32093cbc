use Rattle.commit_laws.proofs.ServedHeadLemmas.{done_head, makes_merge, makes_pick, makes_revert}
use Rattle.commit_laws.proofs.OwnSealLemmas.{clean_before, finds_sealed}
use Rattle.commit_laws.proofs.merges.law_of_served_merges.Goals as goal

pub returns-clause-merge : goal.returns-clause-merge
returns-clause-merge c opened by before after call moment met told position next_edge served =
    done_head opened by before after _ moment met position next_edge told served _ (makes_merge call moment served.fixed)

pub returns-clause-revert : goal.returns-clause-revert
returns-clause-revert c opened by before after call moment met told position next_edge served =
    done_head opened by before after _ moment met position next_edge told served _ (makes_revert call moment served.fixed)

pub returns-clause-cherry_pick : goal.returns-clause-cherry_pick
returns-clause-cherry_pick c opened by before after call moment met told position next_edge served =
    done_head opened by before after _ moment met position next_edge told served _ (makes_pick call moment served.fixed)

pub returns-clause-clean : goal.returns-clause-clean
returns-clause-clean c opened by before after made position next_edge points legal =
    clean_before opened by before after made position next_edge points legal

pub returns-clause-found : goal.returns-clause-found
returns-clause-found c opened by before after made position next_edge path change points legal =
    finds_sealed opened by before after made position next_edge points legal path change
