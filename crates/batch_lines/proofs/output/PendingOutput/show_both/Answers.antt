use Rattle.std.proofs.lemmas.Result.{on_ok_weaker, on_err_weaker}
use Rattle.http_wire.proofs.FrontLemmas.{shows_then, shows_cut}
use Rattle.batch_lines.proofs.output.PendingOutput.show_both.Goals as goal

pub returns-clause-shown : goal.returns-clause-shown
returns-clause-shown g c =
    on_ok_weaker c.show-2.result (λ shows.
    shows_then _ _ _ c.args.self.now c.args.text.now c.show.new.self c.args.more.now c.in_ok-show.ensures.shown
    c.show-2.new.self shows) c.show-2.ensures.shown

pub returns-clause-front : goal.returns-clause-front
returns-clause-front g c =
    on_err_weaker c.show-2.result (λ part.
    shows_cut _ _ _ c.args.self.now c.args.text.now c.show.new.self c.args.more.now c.in_ok-show.ensures.shown part)
    c.show-2.ensures.front
