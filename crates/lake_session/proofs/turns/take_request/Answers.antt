use Rattle.lake_session.proofs.TakenLemmas.{taken_in_vain}
use Rattle.lake_session.proofs.turns.take_request.Goals as goal

pub returns-in-Err-reserve-clause-takes : goal.returns-in-Err-reserve-clause-takes
returns-in-Err-reserve-clause-takes g c =
    taken_in_vain c.args.buffer.now c.read_request.new.buffer (g.S.Source.left c.args.source.now) (g.S.Source.left c.read_request.new.source) c.in-Ok.request
    c.in-Ok.ensures.read
