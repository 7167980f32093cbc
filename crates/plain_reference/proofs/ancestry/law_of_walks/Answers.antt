use Rattle.lake_values.proofs.AncestryWalkLemmas.{walk_from, walk_to, walk_places}
use Rattle.plain_reference.proofs.ancestry.law_of_walks.Goals as goal

pub returns : goal.returns
returns c = record {
  all = λ graph head id is. (walk_from graph head id, walk_to graph is head id);
  places = λ graph head steps is. walk_places graph is head steps;
}
