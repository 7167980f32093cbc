use Rattle.http_wire.proofs.UniqueLemmas.{one_request, one_reply}
use Rattle.http_wire.proofs.laws.law_of_one_answer.Goals as goal

pub returns-clause-request : goal.returns-clause-request
returns-clause-request c = one_request

pub returns-clause-reply : goal.returns-clause-reply
returns-clause-reply c = one_reply
