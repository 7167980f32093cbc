use Rattle.std.proofs.Common.{◌-◌, ◌≤◌}
use Rattle.lake_session.proofs.SoFarLemmas.{AreUnderWay}
use Rattle.lake_session.proofs.session.serve_session.Given as goal

-- so many requests were answered, none of whose clients asked for the connection to close
abbrev pub invariant-serving : goal.invariant-serving
invariant-serving g l = record {
  way : AreUnderWay l.number
      (record {
        unread = g.S.Source.left l.fn.source;
        read_faults = g.S.Source.faults l.fn.source;
        written = g.O.Sink.written l.fn.sink;
        write_faults = g.O.Sink.faults l.fn.sink;
        readings = g.C.Clock.readings l.fn.clock;
        store = record { held = g.B.Blocks.held l.fn.blocks; faults = g.B.Blocks.faults l.fn.blocks; misses = g.B.Blocks.misses l.fn.blocks; missed = g.B.Blocks.missed l.fn.blocks };
        seat = l.fn.seat;
      })
      (record {
        unread = g.S.Source.left l.source;
        read_faults = g.S.Source.faults l.source;
        written = g.O.Sink.written l.sink;
        write_faults = g.O.Sink.faults l.sink;
        readings = g.C.Clock.readings l.clock;
        store = record { held = g.B.Blocks.held l.blocks; faults = g.B.Blocks.faults l.blocks; misses = g.B.Blocks.misses l.blocks; missed = g.B.Blocks.missed l.blocks };
        seat = l.seat;
      })
      (record { placed = l.placed.items; edge = l.edge; held = l.buffer });
  few : l.number ≤ 10000;
}

abbrev pub decreases-serving : goal.decreases-serving
decreases-serving g l = 10000 - l.number
