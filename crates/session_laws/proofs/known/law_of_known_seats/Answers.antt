use Rattle.session_laws.proofs.KnownSeats.{known_further}
use Rattle.session_laws.proofs.known.law_of_known_seats.Goals as goal

pub returns : goal.returns
returns c = known_further
