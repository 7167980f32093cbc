use Rattle.law_examples.specs.Nothing.{lake_of_nothing}
use Rattle.law_examples.proofs.MapsLemmas.{nothing_to_commit}
use Rattle.law_examples.proofs.NothingLemmas.{course, same}
use Rattle.law_examples.proofs.histories.commit_of_nothing.Goals as goal

pub returns-clause-legal : goal.returns-clause-legal
returns-clause-legal c cut = (course cut).legal

pub returns-clause-same : goal.returns-clause-same
returns-clause-same c = same

pub returns-clause-refused : goal.returns-clause-refused
returns-clause-refused c cut about = nothing_to_commit (lake_of_nothing cut) about (same cut)
