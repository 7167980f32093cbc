use Rattle.std.proofs.Common.{Result, refl, subst}
use Rattle.lakectl_shown.specs.declared.showing.Shown.{Shown}
use Rattle.lakectl_commands.specs.Sendings.{IsSending}
use Rattle.lakectl_commands.specs.declared.sending.Sending.{Sending}
use Rattle.lakectl_client.specs.ClientCommands.{ClientView}
use Rattle.lakectl_client.specs.Dialing.{DialView}
use Rattle.lakectl_client.proofs.CommandLemmas.{ended, unanswered_so, unasked}
use Rattle.lakectl_client.proofs.command.send_command.Goals as goal

pub returns-in-Err-clause-ends : goal.returns-in-Err-clause-ends
returns-in-Err-clause-ends g c =
    let dial : DialView = record {
      dialed = g.N.Connect.dialed c.args.network.now;
      hung_up = g.N.Connect.hung_up c.args.network.now;
      faults = g.N.Connect.faults c.args.network.now;
    } in
    let old : ClientView = record { files = g.F.Files.files c.args.files.now; file_faults = g.F.Files.faults c.args.files.now; dial = dial } in
    let now : ClientView = record { files = g.F.Files.files c.prepare.new.files; file_faults = g.F.Files.faults c.prepare.new.files; dial = dial } in
    unasked c.args.at.now c.args.words.now old now c.in-Err.shown
    (subst (λ (r : Result Sending Shown). IsSending c.args.at.now c.args.words.now old.files r) c.in-Err.is c.in_ok-sending.ensures.sends)
    (record { dialed = refl; hung_up = refl }) c.prepare.ensures.files

pub returns-in_err-reply-clause-ends : goal.returns-in_err-reply-clause-ends
returns-in_err-reply-clause-ends g c =
    let dial : _ → DialView = λ n. record { dialed = g.N.Connect.dialed n; hung_up = g.N.Connect.hung_up n; faults = g.N.Connect.faults n } in
    let old : ClientView = record {
      files = g.F.Files.files c.args.files.now;
      file_faults = g.F.Files.faults c.args.files.now;
      dial = dial c.args.network.now;
    } in
    let now : ClientView = record {
      files = g.F.Files.files c.prepare.new.files;
      file_faults = g.F.Files.faults c.prepare.new.files;
      dial = dial c.ask.new.network;
    } in
    unanswered_so c.args.at.now c.args.words.now old now c.in-Ok.sending
    (subst (λ (r : Result Sending Shown). IsSending c.args.at.now c.args.words.now old.files r) c.in-Ok.is c.in_ok-sending.ensures.sends)
    c.as_slice.result.now c.as_slice.ensures c.in_err-reply.field-0.0 c.in_err-reply.ensures.asks c.prepare.ensures.files
    c.from_residual-in_err-reply.result c.from_residual-in_err-reply.ensures

pub returns-clause-ends : goal.returns-clause-ends
returns-clause-ends g c =
    let dial : _ → DialView = λ n. record { dialed = g.N.Connect.dialed n; hung_up = g.N.Connect.hung_up n; faults = g.N.Connect.faults n } in
    let old : ClientView = record {
      files = g.F.Files.files c.args.files.now;
      file_faults = g.F.Files.faults c.args.files.now;
      dial = dial c.args.network.now;
    } in
    let now : ClientView = record {
      files = g.F.Files.files c.show_reply.new.files;
      file_faults = g.F.Files.faults c.show_reply.new.files;
      dial = dial c.ask.new.network;
    } in
    ended c.args.at.now c.args.words.now old now c.in-Ok.sending
    (subst (λ (r : Result Sending Shown). IsSending c.args.at.now c.args.words.now old.files r) c.in-Ok.is c.in_ok-sending.ensures.sends)
    c.in_ok-reply.reply (g.F.Files.files c.prepare.new.files) (g.F.Files.faults c.prepare.new.files)
    c.as_slice.result.now c.as_slice.ensures c.in_ok-reply.ensures.asks c.prepare.ensures.files c.prepare.ensures.cause.later
    c.show_reply.result c.show_reply.ensures.named c.show_reply.ensures.shown c.show_reply.ensures.saved c.show_reply.ensures.stopped c.show_reply.ensures.cause
