use Rattle.std.proofs.Common.{◌+◌, subst, arith}
use Rattle.lake_session.specs.SessionTurns.{IsTurn, Tally}
use Rattle.lake_session.specs.SessionViews.{SessionView}
use Rattle.lake_session.proofs.LoopLemmas.{way_begins, way_ends, way_goes_on, way_is_full}
use Rattle.lake_session.proofs.session.serve_session.Goals as goal

pub serving-init : goal.serving-init
serving-init g c =
    let old : SessionView = record {
      unread = g.S.Source.left c.args.source.now;
      read_faults = g.S.Source.faults c.args.source.now;
      written = g.O.Sink.written c.args.sink.now;
      write_faults = g.O.Sink.faults c.args.sink.now;
      readings = g.C.Clock.readings c.args.clock.now;
      store = record {
        held = g.B.Blocks.held c.args.blocks.now;
        faults = g.B.Blocks.faults c.args.blocks.now;
        misses = g.B.Blocks.misses c.args.blocks.now;
        missed = g.B.Blocks.missed c.args.blocks.now;
      };
      seat = c.args.seat.now;
    } in
    record {
      way = way_begins old c.new-buffer.result c.new-placed.result.items c.seen-from.result c.new-buffer.ensures c.new-placed.ensures.items
          c.seen-from.ensures;
      few = omega arith;
    }

pub returns-in-Some : goal.returns-in-Some
returns-in-Some g c =
    let old : SessionView = record {
      unread = g.S.Source.left c.args.source.now;
      read_faults = g.S.Source.faults c.args.source.now;
      written = g.O.Sink.written c.args.sink.now;
      write_faults = g.O.Sink.faults c.args.sink.now;
      readings = g.C.Clock.readings c.args.clock.now;
      store = record {
        held = g.B.Blocks.held c.args.blocks.now;
        faults = g.B.Blocks.faults c.args.blocks.now;
        misses = g.B.Blocks.misses c.args.blocks.now;
        missed = g.B.Blocks.missed c.args.blocks.now;
      };
      seat = c.args.seat.now;
    } in
    let now : SessionView = record {
      unread = g.S.Source.left c.serving.source;
      read_faults = g.S.Source.faults c.serving.source;
      written = g.O.Sink.written c.serving.sink;
      write_faults = g.O.Sink.faults c.serving.sink;
      readings = g.C.Clock.readings c.serving.clock;
      store = record {
        held = g.B.Blocks.held c.serving.blocks;
        faults = g.B.Blocks.faults c.serving.blocks;
        misses = g.B.Blocks.misses c.serving.blocks;
        missed = g.B.Blocks.missed c.serving.blocks;
      };
      seat = c.serving.seat;
    } in
    let next : SessionView = record {
      unread = g.S.Source.left c.serve_next-ended.new.source;
      read_faults = g.S.Source.faults c.serve_next-ended.new.source;
      written = g.O.Sink.written c.serve_next-ended.new.sink;
      write_faults = g.O.Sink.faults c.serve_next-ended.new.sink;
      readings = g.C.Clock.readings c.serve_next-ended.new.clock;
      store = record {
        held = g.B.Blocks.held c.serve_next-ended.new.blocks;
        faults = g.B.Blocks.faults c.serve_next-ended.new.blocks;
        misses = g.B.Blocks.misses c.serve_next-ended.new.blocks;
        missed = g.B.Blocks.missed c.serve_next-ended.new.blocks;
      };
      seat = c.serve_next-ended.new.seat;
    } in
    let tally : Tally = record { placed = c.serving.placed.items; edge = c.serving.edge; held = c.serving.buffer } in
    let tally_next : Tally = record {
      placed = c.serve_next-ended.new.placed.items;
      edge = c.serve_next-ended.new.edge;
      held = c.serve_next-ended.new.buffer;
    } in
    way_ends c.serving.number old now next tally tally_next c.in-Some.end c.seen-from.result c.reported.result
    c.serving.invariant.way (omega (arith, c.serving-test.true))
    (subst (IsTurn (c.serving.number + 1) now next tally tally_next) c.in-Some.is c.serve_next-ended.ensures) c.seen-from.ensures c.reported.ensures

pub serving-preserved : goal.serving-preserved
serving-preserved g c =
    let old : SessionView = record {
      unread = g.S.Source.left c.args.source.now;
      read_faults = g.S.Source.faults c.args.source.now;
      written = g.O.Sink.written c.args.sink.now;
      write_faults = g.O.Sink.faults c.args.sink.now;
      readings = g.C.Clock.readings c.args.clock.now;
      store = record {
        held = g.B.Blocks.held c.args.blocks.now;
        faults = g.B.Blocks.faults c.args.blocks.now;
        misses = g.B.Blocks.misses c.args.blocks.now;
        missed = g.B.Blocks.missed c.args.blocks.now;
      };
      seat = c.args.seat.now;
    } in
    let now : SessionView = record {
      unread = g.S.Source.left c.serving.source;
      read_faults = g.S.Source.faults c.serving.source;
      written = g.O.Sink.written c.serving.sink;
      write_faults = g.O.Sink.faults c.serving.sink;
      readings = g.C.Clock.readings c.serving.clock;
      store = record {
        held = g.B.Blocks.held c.serving.blocks;
        faults = g.B.Blocks.faults c.serving.blocks;
        misses = g.B.Blocks.misses c.serving.blocks;
        missed = g.B.Blocks.missed c.serving.blocks;
      };
      seat = c.serving.seat;
    } in
    let next : SessionView = record {
      unread = g.S.Source.left c.serve_next-ended.new.source;
      read_faults = g.S.Source.faults c.serve_next-ended.new.source;
      written = g.O.Sink.written c.serve_next-ended.new.sink;
      write_faults = g.O.Sink.faults c.serve_next-ended.new.sink;
      readings = g.C.Clock.readings c.serve_next-ended.new.clock;
      store = record {
        held = g.B.Blocks.held c.serve_next-ended.new.blocks;
        faults = g.B.Blocks.faults c.serve_next-ended.new.blocks;
        misses = g.B.Blocks.misses c.serve_next-ended.new.blocks;
        missed = g.B.Blocks.missed c.serve_next-ended.new.blocks;
      };
      seat = c.serve_next-ended.new.seat;
    } in
    let tally : Tally = record { placed = c.serving.placed.items; edge = c.serving.edge; held = c.serving.buffer } in
    let tally_next : Tally = record {
      placed = c.serve_next-ended.new.placed.items;
      edge = c.serve_next-ended.new.edge;
      held = c.serve_next-ended.new.buffer;
    } in
    record {
      way = way_goes_on c.serving.number old now next tally tally_next c.serving.invariant.way
          (subst (IsTurn (c.serving.number + 1) now next tally tally_next) c.in_default.is c.serve_next-ended.ensures);
      few = omega (arith, c.serving-test.true);
    }

pub returns : goal.returns
returns g c =
    let old : SessionView = record {
      unread = g.S.Source.left c.args.source.now;
      read_faults = g.S.Source.faults c.args.source.now;
      written = g.O.Sink.written c.args.sink.now;
      write_faults = g.O.Sink.faults c.args.sink.now;
      readings = g.C.Clock.readings c.args.clock.now;
      store = record {
        held = g.B.Blocks.held c.args.blocks.now;
        faults = g.B.Blocks.faults c.args.blocks.now;
        misses = g.B.Blocks.misses c.args.blocks.now;
        missed = g.B.Blocks.missed c.args.blocks.now;
      };
      seat = c.args.seat.now;
    } in
    let now : SessionView = record {
      unread = g.S.Source.left c.serving.source;
      read_faults = g.S.Source.faults c.serving.source;
      written = g.O.Sink.written c.serving.sink;
      write_faults = g.O.Sink.faults c.serving.sink;
      readings = g.C.Clock.readings c.serving.clock;
      store = record {
        held = g.B.Blocks.held c.serving.blocks;
        faults = g.B.Blocks.faults c.serving.blocks;
        misses = g.B.Blocks.misses c.serving.blocks;
        missed = g.B.Blocks.missed c.serving.blocks;
      };
      seat = c.serving.seat;
    } in
    let tally : Tally = record { placed = c.serving.placed.items; edge = c.serving.edge; held = c.serving.buffer } in
    way_is_full c.serving.number old now tally c.seen-from.result c.reported-2.result c.serving.invariant.way
    (omega (arith, c.serving.invariant.few, c.serving-test.false)) c.seen-from.ensures c.reported-2.ensures
