use Rattle.lake_values.proofs.AncestryOrderLemmas.{ids_from, ids_to, ids_ascend}
use Rattle.plain_reference.proofs.ancestry.law_of_ids.Goals as goal

pub returns : goal.returns
returns c = record {
  all = λ graph id. (ids_from graph id, ids_to graph id);
  order = ids_ascend;
}
