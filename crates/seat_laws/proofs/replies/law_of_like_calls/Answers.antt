use Rattle.seat_laws.proofs.LikeLemmas.{like_calls}
use Rattle.seat_laws.proofs.replies.law_of_like_calls.Goals as goal

pub returns : goal.returns
returns c = like_calls
