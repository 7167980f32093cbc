use Rattle.lake_values.proofs.AncestryLemmas.{parent_lesser, steps_above, reached_lesser}
use Rattle.plain_reference.proofs.ancestry.law_of_generations.Goals as goal

pub returns : goal.returns
returns c = record {
  parents = λ graph id parent is has. parent_lesser graph is id parent has;
  steps = λ graph steps id old is reached. steps_above graph is steps id old reached;
  lesser = λ graph steps id old is some reached. reached_lesser graph is steps id old some reached;
}
