use Rattle.opening_laws.proofs.NumberLemmas.{sound}
use Rattle.opening_laws.proofs.TieLemmas.{lake_tied, tokens_apart}
use Rattle.opening_laws.proofs.reading.laws_of_reading.Goals as goal

pub returns-clause-ties : goal.returns-clause-ties
returns-clause-ties c cut pairs l tied ascend read = lake_tied cut pairs l ascend tied read

pub returns-clause-apart : goal.returns-clause-apart
returns-clause-apart c cut pairs l tied ascend read = tokens_apart cut pairs l ascend tied read

pub returns-clause-sound : goal.returns-clause-sound
returns-clause-sound c cut pairs l tied ascend read = sound cut pairs l ascend tied read
