use Rattle.lake_laws.proofs.HistoryLemmas.{legal_before, legal_behind, replay_behind}
use Rattle.lake_laws.proofs.SoundnessLemmas.{IsSound-replay}
use Rattle.lake_laws.proofs.positions.law_of_positions.Goals as goal

pub returns-clause-earlier : goal.returns-clause-earlier
returns-clause-earlier c = legal_before

pub returns-clause-later : goal.returns-clause-later
returns-clause-later c = legal_behind

pub returns-clause-replay : goal.returns-clause-replay
returns-clause-replay c = replay_behind

pub returns-clause-sound : goal.returns-clause-sound
returns-clause-sound c state seen history more sound is legal = IsSound-replay state history sound (legal_before state seen history more is legal)
