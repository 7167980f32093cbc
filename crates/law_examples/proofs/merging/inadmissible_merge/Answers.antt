use Rattle.law_examples.specs.HistoryWords.{outside, b}
use Rattle.law_examples.specs.Merges.{diverged_lake, merge_commit}
use Rattle.law_examples.proofs.DivergedLemmas.{diverged}
use Rattle.law_examples.proofs.RefusedLemmas.{expired_merge, inadmissible, merge_commit_is}
use Rattle.law_examples.proofs.merging.inadmissible_merge.Goals as goal

pub returns-clause-refused : goal.returns-clause-refused
returns-clause-refused c = inadmissible

pub returns-clause-expired : goal.returns-clause-expired
returns-clause-expired c fork about distinct =
    expired_merge (diverged_lake fork) fork b outside (diverged fork) about distinct (merge_commit about fork) (merge_commit_is fork about distinct)
