use Rattle.lake_values.proofs.AncestryLemmas.{ancestor_from, ancestor_to}
use Rattle.lake_values.proofs.AncestryOrderLemmas.{ancestors_from, ancestors_to, ancestors_ascend}
use Rattle.plain_reference.proofs.ancestry.law_of_ancestors.Goals as goal

pub returns : goal.returns
returns c = record {
  test = λ graph old id is. (ancestor_from graph is old id, ancestor_to graph is old id);
  all = λ graph id old is. (ancestors_from graph is id old, ancestors_to graph is id old);
  order = λ graph id. ancestors_ascend graph id;
}
