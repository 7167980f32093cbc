use Rattle.std.proofs.Common.{List, ℕ, codes, Result, Ok, Err, sym, subst}
use Rattle.lakectl_shown.specs.declared.showing.Shown.{Shown}
use Rattle.lakectl_commands.specs.Sendings.{IsSending}
use Rattle.lakectl_commands.specs.declared.sending.Sending.{Sending}
use Rattle.lakectl_session.specs.Exchanges.{LakeView}
use Rattle.lakectl_session.specs.ServedCommands.{CommandView}
use Rattle.lakectl_session.specs.SessionsInMemory.{IsClosingText}
use Rattle.lakectl_session.proofs.CommandLemmas.{ended, same_view, stopped_there, unsent_shown}
use Rattle.lakectl_session.proofs.command.serve_command.Goals as goal

pub returns-in-Err-clause-ends : goal.returns-in-Err-clause-ends
returns-in-Err-clause-ends g c =
    let lake : LakeView = record {
      readings = g.C.Clock.readings c.args.clock.now;
      store = record {
        held = g.B.Blocks.held c.args.blocks.now;
        faults = g.B.Blocks.faults c.args.blocks.now;
        misses = g.B.Blocks.misses c.args.blocks.now;
        missed = g.B.Blocks.missed c.args.blocks.now;
      };
      seat = c.args.seat.now;
    } in
    let old : CommandView = record { lake = lake; files = g.F.Files.files c.args.files.now } in
    let now : CommandView = record { lake = lake; files = g.F.Files.files c.prepare.new.files } in
    unsent_shown c.args.words.now old now c.in-Err.shown
    (subst (λ (host : List ℕ). IsSending host c.args.words.now old.files (Err c.in-Err.shown)) c.in_ok-host.ensures
    (subst (λ (r : Result Sending Shown). IsSending c.in_ok-host.host c.args.words.now old.files r) c.in-Err.is c.in_ok-sending.ensures.sends))
    (same_view lake old.files now.files c.prepare.ensures.files)

pub returns-in-Err-exchange-clause-ends : goal.returns-in-Err-exchange-clause-ends
returns-in-Err-exchange-clause-ends g c =
    let before : LakeView = record {
      readings = g.C.Clock.readings c.args.clock.now;
      store = record {
        held = g.B.Blocks.held c.args.blocks.now;
        faults = g.B.Blocks.faults c.args.blocks.now;
        misses = g.B.Blocks.misses c.args.blocks.now;
        missed = g.B.Blocks.missed c.args.blocks.now;
      };
      seat = c.args.seat.now;
    } in
    let after : LakeView = record {
      readings = g.C.Clock.readings c.exchange.new.clock;
      store = record {
        held = g.B.Blocks.held c.exchange.new.blocks;
        faults = g.B.Blocks.faults c.exchange.new.blocks;
        misses = g.B.Blocks.misses c.exchange.new.blocks;
        missed = g.B.Blocks.missed c.exchange.new.blocks;
      };
      seat = c.exchange.new.seat;
    } in
    let old : CommandView = record { lake = before; files = g.F.Files.files c.args.files.now } in
    let now : CommandView = record { lake = after; files = g.F.Files.files c.prepare.new.files } in
    let sends : IsSending (codes "localhost") c.args.words.now old.files (Ok c.in-Ok.sending) =
    subst (λ (host : List ℕ). IsSending host c.args.words.now old.files (Ok c.in-Ok.sending)) c.in_ok-host.ensures
    (subst (λ (r : Result Sending Shown). IsSending c.in_ok-host.host c.args.words.now old.files r) c.in-Ok.is c.in_ok-sending.ensures.sends) in
    stopped_there c.args.words.now old now c.in-Ok.sending sends c.in-Err-exchange.field-0
    (λ request closing. c.in-Err-exchange.ensures.exchanged request (subst (IsClosingText request) (sym c.as_slice.ensures) closing))
    c.prepare.ensures.files

pub returns-clause-ends : goal.returns-clause-ends
returns-clause-ends g c =
    let before : LakeView = record {
      readings = g.C.Clock.readings c.args.clock.now;
      store = record {
        held = g.B.Blocks.held c.args.blocks.now;
        faults = g.B.Blocks.faults c.args.blocks.now;
        misses = g.B.Blocks.misses c.args.blocks.now;
        missed = g.B.Blocks.missed c.args.blocks.now;
      };
      seat = c.args.seat.now;
    } in
    let after : LakeView = record {
      readings = g.C.Clock.readings c.exchange.new.clock;
      store = record {
        held = g.B.Blocks.held c.exchange.new.blocks;
        faults = g.B.Blocks.faults c.exchange.new.blocks;
        misses = g.B.Blocks.misses c.exchange.new.blocks;
        missed = g.B.Blocks.missed c.exchange.new.blocks;
      };
      seat = c.exchange.new.seat;
    } in
    let old : CommandView = record { lake = before; files = g.F.Files.files c.args.files.now } in
    let now : CommandView = record { lake = after; files = g.F.Files.files c.show_reply.new.files } in
    let sends : IsSending (codes "localhost") c.args.words.now old.files (Ok c.in-Ok.sending) =
    subst (λ (host : List ℕ). IsSending host c.args.words.now old.files (Ok c.in-Ok.sending)) c.in_ok-host.ensures
    (subst (λ (r : Result Sending Shown). IsSending c.in_ok-host.host c.args.words.now old.files r) c.in-Ok.is c.in_ok-sending.ensures.sends) in
    ended c.args.words.now old now c.in-Ok.sending sends c.in-Ok-exchange.reply c.show_reply.result (g.F.Files.files c.prepare.new.files)
    (λ request closing. c.in-Ok-exchange.ensures.exchanged request (subst (IsClosingText request) (sym c.as_slice.ensures) closing))
    c.prepare.ensures.files c.show_reply.ensures.named c.show_reply.ensures.shown c.show_reply.ensures.saved c.show_reply.ensures.stopped
