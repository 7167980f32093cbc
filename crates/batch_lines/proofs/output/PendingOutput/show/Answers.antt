use Rattle.std.proofs.lemmas.Result.{on_ok_weaker, on_err_weaker}
use Rattle.http_wire.proofs.FrontLemmas.{shows_written, front_then}
use Rattle.batch_lines.proofs.output.PendingOutput.show.Goals as goal

pub returns-clause-shown : goal.returns-clause-shown
returns-clause-shown g c =
    on_ok_weaker c.write_all.result (λ wrote.
    shows_written _ _ _ c.args.self.now c.args.text.now c.flush.new.self c.in_ok-flush.ensures.none c.in_ok-flush.ensures.all wrote) c.write_all.ensures.all

pub returns-clause-front : goal.returns-clause-front
returns-clause-front g c =
    on_err_weaker c.write_all.result (λ part. front_then _ _ _ c.args.self.now c.args.text.now c.in_ok-flush.ensures.all part) c.write_all.ensures.front
