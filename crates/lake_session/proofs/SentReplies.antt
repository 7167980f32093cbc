-- A reply was sent, by what was written.
use Rattle.std.proofs.Common.{◌≡◌, ℕ, Bool, List, Option, Result, Ok, Err, sym, subst}
use Rattle.std.specs.Prelude.{OnOk, OnErr}
use Rattle.lake_base.specs.declared.outside.Failed.{Failed}
use Rattle.http_wire.specs.ReplyText.{reply_text}
use Rattle.http_wire.specs.SinkFronts.{Wrote, WroteFront}
use Rattle.http_wire.specs.declared.message.Reply.{Reply}
use Rattle.lake_session.specs.PrintedAnswers.{sent_by}
use Rattle.lake_session.specs.SessionTexts.{Writes}

-- what a piece leaves that was written, or failed
writes : (before now : Option (List ℕ)) (text : List ℕ) {T : Type 0} (result : Result T Failed) → OnOk result (Wrote before now text)
    → OnErr result (WroteFront before now text) → Writes before now text result
writes before now text (Ok done) all front = all
writes before now text (Err failed) all front = front

-- the reply was written that is sent of what was printed
pub sends : (before now : Option (List ℕ)) (close : Bool) (printed known : Option Reply) {T : Type 0} (result : Result T Failed) → printed ≡ known
    → OnOk result (Wrote before now (reply_text (sent_by close known))) → OnErr result (WroteFront before now (reply_text (sent_by close known)))
    → Writes before now (reply_text (sent_by close printed)) result
sends before now close printed known result is all front =
    subst (λ (p : Option Reply). Writes before now (reply_text (sent_by close p)) result) (sym is) (writes before now _ result all front)
