use Rattle.law_examples.proofs.NamesLemmas.{repository_allowed, same_repository, branch_allowed, same_branch, second_tag, same_tag}
use Rattle.law_examples.proofs.names.name_that_stands.Goals as goal

pub returns-clause-allowed_repository : goal.returns-clause-allowed_repository
returns-clause-allowed_repository c = repository_allowed

pub returns-clause-refused_repository : goal.returns-clause-refused_repository
returns-clause-refused_repository c = same_repository

pub returns-clause-allowed_branch : goal.returns-clause-allowed_branch
returns-clause-allowed_branch c = branch_allowed

pub returns-clause-refused_branch : goal.returns-clause-refused_branch
returns-clause-refused_branch c = same_branch

pub returns-clause-allowed_tag : goal.returns-clause-allowed_tag
returns-clause-allowed_tag c = second_tag

pub returns-clause-refused_tag : goal.returns-clause-refused_tag
returns-clause-refused_tag c = same_tag
