use Rattle.law_examples.specs.HistoryWords.{outside, b}
use Rattle.law_examples.specs.Merges.{dev_head, diverged_lake}
use Rattle.law_examples.proofs.DivergedLemmas.{diverged}
use Rattle.law_examples.proofs.RefusedLemmas as refused
use Rattle.law_examples.proofs.merging.source_of_merge.Goals as goal

pub returns-clause-no_commit : goal.returns-clause-no_commit
returns-clause-no_commit c fork about = refused.without_source (diverged_lake fork) fork b outside (diverged fork) about

pub returns-clause-expired : goal.returns-clause-expired
returns-clause-expired c fork about = refused.expired_source (diverged_lake fork) fork b outside (diverged fork) about (dev_head (diverged_lake fork))

pub returns-clause-same_map : goal.returns-clause-same_map
returns-clause-same_map c fork about distinct = refused.same_map (diverged_lake fork) fork b outside (diverged fork) about distinct
