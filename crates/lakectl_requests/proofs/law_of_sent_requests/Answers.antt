use Rattle.std.proofs.Common.{◌++◌, codes, refl}
use Rattle.lakectl_words.specs.WireRequests.{request_text}
use Rattle.lakectl_requests.proofs.CallLemmas.{call_answer}
use Rattle.lakectl_requests.proofs.HostLemmas.{host_read}
use Rattle.lakectl_requests.proofs.TextLemmas.{reads_back}
use Rattle.lakectl_requests.proofs.ValueLemmas.{visible_plain}
use Rattle.lakectl_requests.proofs.WordsLemmas.{made_call, made_plain, made_sent}
use Rattle.lakectl_requests.proofs.law_of_sent_requests.Goals as goal

pub returns-clause-words : goal.returns-clause-words
returns-clause-words c words call rest called short =
    let is = made_call words call called in
    reads_back call.request
    (made_plain (codes "localhost") is.user is.kind call.request is.made (visible_plain (codes "localhost") refl) short) rest

pub returns-clause-sent : goal.returns-clause-sent
returns-clause-sent c host words files request rest sends may short =
    let is = made_sent host words files request sends in
    reads_back request (made_plain host is.user is.kind request is.made may short) rest

pub returns-clause-call : goal.returns-clause-call
returns-clause-call c host words files request rest before had result held left sends may short all answer =
    call_answer request rest (request_text request ++ rest) (returns-clause-sent c host words files request rest sends may short) before had all result
    held left answer

pub returns-clause-host : goal.returns-clause-host
returns-clause-host c host words files request rest left sends reads =
    let is = made_sent host words files request sends in
    host_read host is.user is.kind request (request_text request ++ rest) left is.made.fields reads
