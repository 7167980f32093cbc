use Rattle.call_placement.proofs.ExampleLemmas.{shared}
use Rattle.call_placement.proofs.examples.example_of_two_seats.Goals as goal

pub returns : goal.returns
returns c = shared
