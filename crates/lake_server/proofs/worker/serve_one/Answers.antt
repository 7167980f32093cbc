use Rattle.std.proofs.Common.{refl}
use Rattle.lake_session.specs.SessionViews.{SessionView}
use Rattle.lake_server.proofs.worker.serve_one.Goals as goal

pub returns-clause-serves : goal.returns-clause-serves
returns-clause-serves g c =
    let before : SessionView = record {
      unread = g.L.In.Source.left c.in_ok-input.input;
      read_faults = g.L.In.Source.faults c.in_ok-input.input;
      written = g.L.Out.Sink.written c.in_ok-input.output;
      write_faults = g.L.Out.Sink.faults c.in_ok-input.output;
      readings = g.C.Clock.readings c.args.worker.now.clock;
      store = record {
        held = g.B.Blocks.held c.args.worker.now.blocks;
        faults = g.B.Blocks.faults c.args.worker.now.blocks;
        misses = g.B.Blocks.misses c.args.worker.now.blocks;
        missed = g.B.Blocks.missed c.args.worker.now.blocks;
      };
      seat = c.args.worker.now.seat;
    } in
    let after : SessionView = record {
      unread = g.L.In.Source.left c.serve_session-report.new.source;
      read_faults = g.L.In.Source.faults c.serve_session-report.new.source;
      written = g.L.Out.Sink.written c.serve_session-report.new.sink;
      write_faults = g.L.Out.Sink.faults c.serve_session-report.new.sink;
      readings = g.C.Clock.readings c.serve_session-report.new.clock;
      store = record {
        held = g.B.Blocks.held c.serve_session-report.new.blocks;
        faults = g.B.Blocks.faults c.serve_session-report.new.blocks;
        misses = g.B.Blocks.misses c.serve_session-report.new.blocks;
        missed = g.B.Blocks.missed c.serve_session-report.new.blocks;
      };
      seat = c.serve_session-report.new.seat;
    } in
    let out = c.in_ok-input.ensures in
    let back = c.done.ensures in (
      record { before = before; after = after; report = c.serve_session-report.result },
      record {
        begins = refl;
        session = c.serve_session-report.ensures;
        leaves = refl;
        accepted = rw back.accepted out.accepted;
        returned = rw out.returned at back.returned;
      },
    )
