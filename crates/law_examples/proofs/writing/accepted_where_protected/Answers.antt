use Rattle.law_examples.proofs.AcceptedLemmas.{merge_still, pick_still}
use Rattle.law_examples.proofs.WritingLemmas.{other_seal}
use Rattle.law_examples.proofs.writing.accepted_where_protected.Goals as goal

pub returns-clause-seal : goal.returns-clause-seal
returns-clause-seal c = other_seal

pub returns-clause-merge : goal.returns-clause-merge
returns-clause-merge c = merge_still

pub returns-clause-pick : goal.returns-clause-pick
returns-clause-pick c = pick_still
