use Rattle.lake_laws.proofs.NamingLemmas.{garbage_after}
use Rattle.lake_laws.proofs.SoundnessLemmas.{garbage_replay}
use Rattle.lake_laws.proofs.garbage.law_of_garbage.Goals as goal

pub returns-clause-after : goal.returns-clause-after
returns-clause-after c = garbage_after

pub returns-clause-replay : goal.returns-clause-replay
returns-clause-replay c = garbage_replay
