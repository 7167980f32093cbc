use Rattle.law_examples.proofs.NamesLemmas.{tag_goes, no_tag}
use Rattle.law_examples.proofs.names.no_tag.Goals as goal

pub returns-clause-allowed : goal.returns-clause-allowed
returns-clause-allowed c = tag_goes

pub returns-clause-refused : goal.returns-clause-refused
returns-clause-refused c = no_tag
