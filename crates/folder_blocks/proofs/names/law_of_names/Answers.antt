use Rattle.folder_blocks.proofs.NamesLemmas.{apart, digits, long}
use Rattle.folder_blocks.proofs.names.law_of_names.Goals as goal

pub returns-clause-long : goal.returns-clause-long
returns-clause-long c = long

pub returns-clause-digits : goal.returns-clause-digits
returns-clause-digits c = digits

pub returns-clause-apart : goal.returns-clause-apart
returns-clause-apart c = apart
