use Rattle.std.proofs.Common.{Bool, refl, sym, ap, ◌∙◌}
use Rattle.std.proofs.lemmas.Result.{on_ok_weaker, on_err_weaker}
use Rattle.http_wire.specs.ReplyText.{reply_text, no_memory_reply}
use Rattle.http_wire.proofs.FrontLemmas.{wrote_as, front_as}
use Rattle.http_wire.proofs.ReplyLemmas.{decimal_507, decimal_27}
use Rattle.http_wire.proofs.reply.write_no_memory.Goals as goal

pub returns-then-close-clause-all : goal.returns-then-close-clause-all
returns-then-close-clause-all g c =
    on_ok_weaker c.write_all.result (wrote_as _ _ _ _ (sym (ap (λ (b : Bool). reply_text (no_memory_reply b)) c.if-close.true ∙ rw
    (decimal_507, decimal_27) refl))) c.write_all.ensures.all

pub returns-then-close-clause-front : goal.returns-then-close-clause-front
returns-then-close-clause-front g c =
    on_err_weaker c.write_all.result (front_as _ _ _ _ (sym (ap (λ (b : Bool). reply_text (no_memory_reply b)) c.if-close.true ∙ rw
    (decimal_507, decimal_27) refl))) c.write_all.ensures.front

pub returns-else-close-clause-all : goal.returns-else-close-clause-all
returns-else-close-clause-all g c =
    on_ok_weaker c.write_all-else-close.result (wrote_as _ _ _ _ (sym (ap (λ (b : Bool). reply_text (no_memory_reply b)) c.if-close.false ∙ rw
    (decimal_507, decimal_27) refl))) c.write_all-else-close.ensures.all

pub returns-else-close-clause-front : goal.returns-else-close-clause-front
returns-else-close-clause-front g c =
    on_err_weaker c.write_all-else-close.result (front_as _ _ _ _ (sym (ap (λ (b : Bool). reply_text (no_memory_reply b)) c.if-close.false ∙ rw
    (decimal_507, decimal_27) refl))) c.write_all-else-close.ensures.front
