use Rattle.call_placement.proofs.ExampleLemmas.{toy_lawful}
use Rattle.call_placement.proofs.toy.example_of_a_law.Goals as goal

pub returns : goal.returns
returns c = c.law_of_placement.ensures.placed toy_lawful
