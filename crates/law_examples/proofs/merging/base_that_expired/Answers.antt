use Rattle.lake_values.specs.declared.commit.Strategy.TheVariants.{Refuse}
use Rattle.law_examples.specs.HistoryWords.{outside, b}
use Rattle.law_examples.specs.Merges.{diverged_lake}
use Rattle.law_examples.proofs.AllowedLemmas.{expired_base}
use Rattle.law_examples.proofs.DivergedLemmas.{diverged}
use Rattle.law_examples.proofs.SidesLemmas.{settled_apart}
use Rattle.law_examples.proofs.merging.base_that_expired.Goals as goal

pub returns : goal.returns
returns c fork about distinct = expired_base (diverged_lake fork) fork b outside (diverged fork) Refuse about distinct settled_apart
