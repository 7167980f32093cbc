use Rattle.std.proofs.Common.{◌∙◌, List, ℕ, Ok, Err, ap, arith, subst, sym}
use Rattle.http_wire.specs.HeadSearch.{IsHeadEnd}
use Rattle.http_wire.specs.MessageHeads.{begins_pair}
use Rattle.http_wire.proofs.ReadingLemmas.{told, front_answer, some_then}
use Rattle.http_wire.proofs.request.read_front.Goals as goal

pub returns-in-Some-clause-read : goal.returns-in-Some-clause-read
returns-in-Some-clause-read g c =
    told _ _ _ (λ left came. front_answer c.args.buffer.now left c.read_some.new.buffer _ c.in-Some.found.len
    (omega (arith, c.in-Some.ensures.end.within, c.held.ensures.within))
    (subst (λ (l : List ℕ). IsHeadEnd l c.in-Some.found.len) c.held.ensures.same c.in-Some.ensures.end)
    (ap begins_pair (sym c.held.ensures.same) ∙ c.in-Some.ensures.pair) came) c.in-Ok.ensures.read

pub returns-in-Ok-read_head-clause-read : goal.returns-in-Ok-read_head-clause-read
returns-in-Ok-read_head-clause-read g c =
    told _ _ _ (λ left came. some_then c.args.buffer.now left c.read_some.new.buffer c.read_head.new.buffer _ _ (Ok c.in-Ok-read_head.head) came
    c.in-Ok-read_head.ensures.read) c.in-Ok.ensures.read

pub returns-in-Err-read_head-clause-read : goal.returns-in-Err-read_head-clause-read
returns-in-Err-read_head-clause-read g c =
    told _ _ _ (λ left came. some_then c.args.buffer.now left c.read_some.new.buffer c.read_head.new.buffer _ _ (Err c.in-Err-read_head.fault) came
    c.in-Err-read_head.ensures.read) c.in-Ok.ensures.read
