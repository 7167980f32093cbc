use Rattle.lake_values.proofs.MergingLemmas.{are_conflicts, refused_from, refused_to}
use Rattle.plain_reference.proofs.merge.law_of_conflicts.Goals as goal

pub returns : goal.returns
returns c = record {
  paths = are_conflicts;
  refused = λ strategy base source dest. (refused_from base source dest strategy, refused_to base source dest strategy);
}
