use Rattle.http_wire.proofs.LongerBytes.{longer_request, longer_request_fault, longer_reply, longer_reply_fault}
use Rattle.http_wire.proofs.laws.law_of_longer_bytes.Goals as goal

pub returns-clause-request : goal.returns-clause-request
returns-clause-request c = longer_request

pub returns-clause-request_fault : goal.returns-clause-request_fault
returns-clause-request_fault c = longer_request_fault

pub returns-clause-reply : goal.returns-clause-reply
returns-clause-reply c = longer_reply

pub returns-clause-reply_fault : goal.returns-clause-reply_fault
returns-clause-reply_fault c = longer_reply_fault
