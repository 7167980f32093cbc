use Rattle.law_examples.proofs.NamesLemmas.{repository_like_id, branch_like_id, tag_like_id}
use Rattle.law_examples.proofs.names.name_like_an_id.Goals as goal

pub returns-clause-refused_repository : goal.returns-clause-refused_repository
returns-clause-refused_repository c = repository_like_id

pub returns-clause-refused_branch : goal.returns-clause-refused_branch
returns-clause-refused_branch c = branch_like_id

pub returns-clause-refused_tag : goal.returns-clause-refused_tag
returns-clause-refused_tag c = tag_like_id
