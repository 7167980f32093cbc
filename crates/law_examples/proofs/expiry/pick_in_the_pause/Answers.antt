use Rattle.law_examples.proofs.PauseLemmas.{expires, handed, refused}
use Rattle.law_examples.proofs.expiry.pick_in_the_pause.Goals as goal

pub returns-clause-handed : goal.returns-clause-handed
returns-clause-handed c = handed

pub returns-clause-expires : goal.returns-clause-expires
returns-clause-expires c = expires

pub returns-clause-refused : goal.returns-clause-refused
returns-clause-refused c = refused
