use Rattle.seat_laws.proofs.ExpiryFreeLemmas.{none_expires, replay_kept}
use Rattle.seat_laws.proofs.troubles.law_of_no_expiry.Goals as goal

pub returns-clause-added : goal.returns-clause-added
returns-clause-added c = none_expires

pub returns-clause-replay : goal.returns-clause-replay
returns-clause-replay c = replay_kept
