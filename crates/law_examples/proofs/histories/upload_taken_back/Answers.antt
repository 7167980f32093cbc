use Rattle.law_examples.specs.TakenBack.{lake_of_sealed_deletion}
use Rattle.law_examples.proofs.MapsLemmas.{nothing_to_commit}
use Rattle.law_examples.proofs.TakenBackLemmas.{course, same, reads, named, garbage}
use Rattle.law_examples.proofs.histories.upload_taken_back.Goals as goal

pub returns-clause-legal : goal.returns-clause-legal
returns-clause-legal c cut digest = (course cut digest).legal

pub returns-clause-reads : goal.returns-clause-reads
returns-clause-reads c = reads

pub returns-clause-same : goal.returns-clause-same
returns-clause-same c = same

pub returns-clause-refused : goal.returns-clause-refused
returns-clause-refused c cut digest about = nothing_to_commit (lake_of_sealed_deletion cut digest) about (same cut digest)

pub returns-clause-named : goal.returns-clause-named
returns-clause-named c = named

pub returns-clause-garbage : goal.returns-clause-garbage
returns-clause-garbage c = garbage
