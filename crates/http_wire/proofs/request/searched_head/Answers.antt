use Rattle.std.proofs.Common.{Some}
use Rattle.httparse.specs.Grammar.{RequestHead}
use Rattle.http_wire.specs.Messages.{IsRequestHeadOf, fields_of, request_of}
use Rattle.http_wire.proofs.ParsingLemmas.{parse_bad}
use Rattle.http_wire.proofs.request.searched_head.Goals as goal

pub returns-in-None : goal.returns-in-None
returns-in-None c = parse_bad IsRequestHeadOf (λ (head : RequestHead). fields_of head.fields) request_of (Some 67108864) c.args.head.now c.in-None.ensures
