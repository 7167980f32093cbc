use Rattle.law_examples.proofs.NamesLemmas.{branch_allowed, branch_without_commit, tag_allowed, tag_without_commit}
use Rattle.law_examples.proofs.names.no_commit.Goals as goal

pub returns-clause-allowed_branch : goal.returns-clause-allowed_branch
returns-clause-allowed_branch c = branch_allowed

pub returns-clause-refused_branch : goal.returns-clause-refused_branch
returns-clause-refused_branch c = branch_without_commit

pub returns-clause-allowed_tag : goal.returns-clause-allowed_tag
returns-clause-allowed_tag c = tag_allowed

pub returns-clause-refused_tag : goal.returns-clause-refused_tag
returns-clause-refused_tag c = tag_without_commit
