use Rattle.std.proofs.Common.{Some, refl}
use Rattle.lake_values.specs.Sameness.{same_entry}
use Rattle.lake_values.specs.declared.commit.Strategy.TheVariants.{SourceWins, DestWins}
use Rattle.law_examples.specs.HistoryWords.{outside, a}
use Rattle.law_examples.specs.Picks.{larger_object}
use Rattle.law_examples.specs.Merges.{rival_lake}
use Rattle.law_examples.proofs.AllowedLemmas.{fork_allowed, fork_merged}
use Rattle.law_examples.proofs.DivergedLemmas.{rival}
use Rattle.law_examples.proofs.LegalLemmas.{legal_rival}
use Rattle.law_examples.proofs.RefusedLemmas.{conflict}
use Rattle.law_examples.proofs.SidesLemmas.{refused_at_a}
use Rattle.law_examples.proofs.merging.merge_in_conflict.Goals as goal

pub returns-clause-legal : goal.returns-clause-legal
returns-clause-legal c = legal_rival

pub returns-clause-source_wins : goal.returns-clause-source_wins
returns-clause-source_wins c fork about distinct = fork_allowed (rival_lake fork) fork a larger_object (rival fork) SourceWins about distinct refl

pub returns-clause-of_source : goal.returns-clause-of_source
unfolding same_entry
returns-clause-of_source c fork about distinct =
    fork_merged (rival_lake fork) fork a larger_object (rival fork) SourceWins about distinct a (Some larger_object) refl

pub returns-clause-dest_wins : goal.returns-clause-dest_wins
returns-clause-dest_wins c fork about distinct = fork_allowed (rival_lake fork) fork a larger_object (rival fork) DestWins about distinct refl

pub returns-clause-of_dest : goal.returns-clause-of_dest
unfolding same_entry
returns-clause-of_dest c fork about distinct = fork_merged (rival_lake fork) fork a larger_object (rival fork) DestWins about distinct a (Some outside) refl

pub returns-clause-refused : goal.returns-clause-refused
returns-clause-refused c fork about distinct = conflict (rival_lake fork) fork a larger_object (rival fork) about distinct refused_at_a
