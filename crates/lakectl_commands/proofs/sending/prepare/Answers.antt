use Rattle.std.proofs.Common.{◌≡◌, ap, subst, Ok}
use Rattle.http_wire.specs.declared.message.Request.{Request}
use Rattle.lakectl_words.specs.WireRequests.{addressed, call_of}
use Rattle.lakectl_words.specs.declared.call.WireCall.{WireCall}
use Rattle.lakectl_commands.specs.Sendings.{IsCommand, IsFilled}
use Rattle.lakectl_commands.proofs.SendingLemmas.{is_sent}
use Rattle.lakectl_commands.proofs.sending.prepare.Goals as goal

pub returns-clause-sends : goal.returns-clause-sends
returns-clause-sends g c =
    let call : WireCall = c.in-Ok.call in
    let called : call_of c.args.words.now ≡ Ok call = subst (IsCommand c.args.words.now) c.in-Ok.is c.in_ok-call.ensures in
    let filled : IsFilled (g.F.Files.files c.args.files.now) call.body_file call.request (Ok c.in-Ok-2.request) =
    subst (IsFilled (g.F.Files.files c.args.files.now) call.body_file call.request) c.in-Ok-2.is c.in_ok-request.ensures.filled in
    let sent : Request = addressed c.args.host.now c.in-Ok-2.request in (
      call,
      called,
      sent,
      is_sent c.args.host.now c.args.words.now (g.F.Files.files c.args.files.now) call c.in-Ok-2.request called c.in_ok-text.ensures.body filled,
      ap (λ text. record { text = text; layout = call.layout; save = call.save }) c.in_ok-text.ensures.text,
    )
