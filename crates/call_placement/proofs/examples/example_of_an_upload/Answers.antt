use Rattle.call_placement.proofs.ExampleLemmas.{stored, gave_up}
use Rattle.call_placement.proofs.examples.example_of_an_upload.Goals as goal

pub returns-clause-stored : goal.returns-clause-stored
returns-clause-stored c = stored

pub returns-clause-gave_up : goal.returns-clause-gave_up
returns-clause-gave_up c = gave_up
