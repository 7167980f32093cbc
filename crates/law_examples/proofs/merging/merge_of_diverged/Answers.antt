use Rattle.std.proofs.Common.{Some, refl}
use Rattle.lake_values.specs.declared.commit.Strategy.TheVariants.{Refuse}
use Rattle.law_examples.specs.HistoryWords.{outside, a, b}
use Rattle.law_examples.specs.Merges.{diverged_lake}
use Rattle.law_examples.proofs.AllowedLemmas.{fork_allowed, fork_merged, fork_parents}
use Rattle.law_examples.proofs.DivergedLemmas.{diverged}
use Rattle.law_examples.proofs.LegalLemmas.{legal_diverged}
use Rattle.law_examples.proofs.SidesLemmas.{settled_apart}
use Rattle.law_examples.proofs.merging.merge_of_diverged.Goals as goal

pub returns-clause-legal : goal.returns-clause-legal
returns-clause-legal c = legal_diverged

pub returns-clause-allowed : goal.returns-clause-allowed
returns-clause-allowed c fork about distinct = fork_allowed (diverged_lake fork) fork b outside (diverged fork) Refuse about distinct settled_apart

pub returns-clause-at_a : goal.returns-clause-at_a
returns-clause-at_a c fork about distinct = fork_merged (diverged_lake fork) fork b outside (diverged fork) Refuse about distinct a (Some outside) refl

pub returns-clause-at_b : goal.returns-clause-at_b
returns-clause-at_b c fork about distinct = fork_merged (diverged_lake fork) fork b outside (diverged fork) Refuse about distinct b (Some outside) refl

pub returns-clause-parents : goal.returns-clause-parents
returns-clause-parents c fork about distinct = fork_parents (diverged_lake fork) fork b outside (diverged fork) Refuse about distinct
