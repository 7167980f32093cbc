use Rattle.law_examples.proofs.StaysStagedLemmas.{legal, second, third, in_commit, not_in_commit, reads_a, reads_b}
use Rattle.law_examples.proofs.histories.staged_after_seal.Goals as goal

pub returns-clause-legal : goal.returns-clause-legal
returns-clause-legal c = legal

pub returns-clause-second : goal.returns-clause-second
returns-clause-second c = second

pub returns-clause-third : goal.returns-clause-third
returns-clause-third c = third

pub returns-clause-in_commit : goal.returns-clause-in_commit
returns-clause-in_commit c = in_commit

pub returns-clause-not_in_commit : goal.returns-clause-not_in_commit
returns-clause-not_in_commit c = not_in_commit

pub returns-clause-reads_a : goal.returns-clause-reads_a
returns-clause-reads_a c = reads_a

pub returns-clause-reads_b : goal.returns-clause-reads_b
returns-clause-reads_b c = reads_b
