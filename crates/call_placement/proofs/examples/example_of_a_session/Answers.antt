use Rattle.call_placement.proofs.ExampleLemmas.{session}
use Rattle.call_placement.proofs.examples.example_of_a_session.Goals as goal

pub returns : goal.returns
returns c = session
