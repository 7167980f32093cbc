use Rattle.lake_values.proofs.AncestryOrderLemmas.{base_is, base_some, base_none, no_base}
use Rattle.plain_reference.proofs.ancestry.law_of_bases.Goals as goal

pub returns : goal.returns
returns c = record {
  some = λ graph a b c is. (base_is graph is a b c, base_some graph is a b c);
  none = λ graph a b is. (base_none graph is a b, no_base graph is a b);
}
