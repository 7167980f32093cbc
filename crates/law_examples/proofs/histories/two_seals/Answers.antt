use Rattle.law_examples.specs.TwoSeals.{lake_of_their_commit}
use Rattle.law_examples.proofs.MapsLemmas.{nothing_to_commit}
use Rattle.law_examples.proofs.TwoSealsLemmas.{legal, second, third, fourth, late, unsealed, same}
use Rattle.law_examples.proofs.histories.two_seals.Goals as goal

pub returns-clause-legal : goal.returns-clause-legal
returns-clause-legal c = legal

pub returns-clause-second : goal.returns-clause-second
returns-clause-second c = second

pub returns-clause-third : goal.returns-clause-third
returns-clause-third c = third

pub returns-clause-fourth : goal.returns-clause-fourth
returns-clause-fourth c = fourth

pub returns-clause-late : goal.returns-clause-late
returns-clause-late c = late

pub returns-clause-unsealed : goal.returns-clause-unsealed
returns-clause-unsealed c = unsealed

pub returns-clause-refused : goal.returns-clause-refused
returns-clause-refused c cut about other = nothing_to_commit (lake_of_their_commit cut about) other (same cut about)
