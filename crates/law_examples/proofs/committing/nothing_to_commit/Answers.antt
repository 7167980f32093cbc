use Rattle.law_examples.specs.Nothing.{lake_of_nothing}
use Rattle.law_examples.proofs.MapsLemmas as maps
use Rattle.law_examples.proofs.NothingLemmas.{same}
use Rattle.law_examples.proofs.CommittingLemmas.{nothing_others}
use Rattle.law_examples.proofs.committing.nothing_to_commit.Goals as goal

pub returns-clause-others : goal.returns-clause-others
returns-clause-others c = nothing_others

pub returns-clause-refused : goal.returns-clause-refused
returns-clause-refused c cut about may = maps.nothing_to_commit (lake_of_nothing cut) about (same cut) may.possible
