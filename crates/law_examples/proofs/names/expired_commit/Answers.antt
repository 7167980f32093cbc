use Rattle.law_examples.proofs.NamesLemmas.{branch_at_expired, tag_at_expired}
use Rattle.law_examples.proofs.names.expired_commit.Goals as goal

pub returns-clause-refused_branch : goal.returns-clause-refused_branch
returns-clause-refused_branch c = branch_at_expired

pub returns-clause-refused_tag : goal.returns-clause-refused_tag
returns-clause-refused_tag c = tag_at_expired
