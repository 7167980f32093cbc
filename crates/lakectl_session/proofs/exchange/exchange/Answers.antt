use Rattle.std.proofs.Common.{Result, subst}
use Rattle.lake_base.specs.Memory.{MemorySinkValue}
use Rattle.lake_base.specs.declared.outside.NoMemory.{NoMemory}
use Rattle.lakectl_session.specs.Exchanges.{LakeView}
use Rattle.lakectl_session.specs.SessionsInMemory.{IsSessionOf, written_by}
use Rattle.lakectl_session.proofs.SessionLemmas.{exchange_read, exchange_starved, reply_of}
use Rattle.lakectl_session.proofs.exchange.exchange.Goals as goal

pub returns-in-Err-clause-exchanged : goal.returns-in-Err-clause-exchanged
returns-in-Err-clause-exchanged g c = λ request closing.
    let old : LakeView = record {
      readings = g.C.Clock.readings c.args.clock.now;
      store = record {
        held = g.B.Blocks.held c.args.blocks.now;
        faults = g.B.Blocks.faults c.args.blocks.now;
        misses = g.B.Blocks.misses c.args.blocks.now;
        missed = g.B.Blocks.missed c.args.blocks.now;
      };
      seat = c.args.seat.now;
    } in
    let now : LakeView = record {
      readings = g.C.Clock.readings c.served.new.clock;
      store = record {
        held = g.B.Blocks.held c.served.new.blocks;
        faults = g.B.Blocks.faults c.served.new.blocks;
        misses = g.B.Blocks.misses c.served.new.blocks;
        missed = g.B.Blocks.missed c.served.new.blocks;
      };
      seat = c.served.new.seat;
    } in
    exchange_starved request c.args.text.now old now c.in-Err.starved closing
    (subst (λ (r : Result MemorySinkValue NoMemory). IsSessionOf c.args.text.now old now (written_by r)) c.in-Err.is c.served.ensures)

pub returns-clause-exchanged : goal.returns-clause-exchanged
returns-clause-exchanged g c = λ request closing.
    let old : LakeView = record {
      readings = g.C.Clock.readings c.args.clock.now;
      store = record {
        held = g.B.Blocks.held c.args.blocks.now;
        faults = g.B.Blocks.faults c.args.blocks.now;
        misses = g.B.Blocks.misses c.args.blocks.now;
        missed = g.B.Blocks.missed c.args.blocks.now;
      };
      seat = c.args.seat.now;
    } in
    let now : LakeView = record {
      readings = g.C.Clock.readings c.served.new.clock;
      store = record {
        held = g.B.Blocks.held c.served.new.blocks;
        faults = g.B.Blocks.faults c.served.new.blocks;
        misses = g.B.Blocks.misses c.served.new.blocks;
        missed = g.B.Blocks.missed c.served.new.blocks;
      };
      seat = c.served.new.seat;
    } in
    exchange_read request c.args.text.now old now c.in-Ok.sink.written c.reply_in.result closing
    (subst (λ (r : Result MemorySinkValue NoMemory). IsSessionOf c.args.text.now old now (written_by r)) c.in-Ok.is c.served.ensures)
    (reply_of c.reply_in.result c.written.result.now c.in-Ok.sink.written c.written.ensures c.reply_in.ensures)
