use Rattle.std.proofs.Common.{◌≡◌, ◌<◌, [], Ok, Err, refl, ◌∙◌, arith, length}
use Rattle.std.proofs.lemmas.Grind.{common_steps}
use Rattle.batch_lines.specs.declared.stop.Stop.TheVariants.{SinkFailed}
use Rattle.batch_lines.specs.Lines.{too_long_text}
use Rattle.batch_lines.proofs.ClosingLemmas.{shows_too_long, shows_nothing, shows_line}
use Rattle.batch_lines.proofs.OutputLemmas.{text_shown, text_cut}
use Rattle.batch_lines.proofs.batch.Batch.show_last.Goals as goal

pub returns-in-Ok-clause-shows : goal.returns-in-Ok-clause-shows
returns-in-Ok-clause-shows g c before first limit input test served =
    shows_too_long g.L.LineServer.serves limit input before first _ (Ok tt) (test ∙ c.if-not-within.true)
    (text_shown served.ended too_long_text _ refl refl c.in-Ok.ensures.shown)

pub returns-in-Err-clause-shows : goal.returns-in-Err-clause-shows
returns-in-Err-clause-shows g c before first limit input test served =
    shows_too_long g.L.LineServer.serves limit input before first _ (Err SinkFailed) (test ∙ c.if-not-within.true)
    (text_cut served.ended too_long_text _ c.in-Err.ensures.front)

pub returns-then-is_empty-clause-shows : goal.returns-then-is_empty-clause-shows
returns-then-is_empty-clause-shows g c before first limit input test served =
    let none : c.args.self.now.line ≡ [] = grind (arith, common_steps) in
    shows_nothing g.L.LineServer.serves limit input before first served (test ∙ c.if-not-within.false) none

pub returns-clause-shows : goal.returns-clause-shows
returns-clause-shows g c before first limit input test served =
    let some : 0 < length c.args.self.now.line = grind (arith, common_steps) in
    shows_line g.L.LineServer.serves limit input before first served (test ∙ c.if-not-within.false)
    g.met.L.LineServer.long_lines c.as_slice-line.ensures some c.serve.ensures.serves
