use Rattle.lake_laws.proofs.LiveLemmas.{live_after, live_between}
use Rattle.lake_laws.proofs.numbers.law_of_live_numbers.Goals as goal

pub returns-clause-after : goal.returns-clause-after
returns-clause-after c = live_after

pub returns-clause-replay : goal.returns-clause-replay
returns-clause-replay c = live_between
