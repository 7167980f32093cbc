use Rattle.lake_laws.proofs.SoundnessLemmas.{IsSound-after, IsSound-fresh, IsSound-replay}
use Rattle.lake_laws.proofs.soundness.law_of_soundness.Goals as goal

pub returns-clause-fresh : goal.returns-clause-fresh
returns-clause-fresh c = IsSound-fresh

pub returns-clause-after : goal.returns-clause-after
returns-clause-after c = IsSound-after

pub returns-clause-replay : goal.returns-clause-replay
returns-clause-replay c = IsSound-replay
