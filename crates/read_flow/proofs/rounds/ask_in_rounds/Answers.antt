use Rattle.std.proofs.Common.{arith}
use Rattle.read_flow.proofs.RoundLemmas.{begun, got_so, missed_on, not_begun, refused_so, ten_missed, way_own}
use Rattle.read_flow.proofs.rounds.ask_in_rounds.Goals as goal

pub returns-in-Err : goal.returns-in-Err
returns-in-Err g c =
    not_begun c.args.wanted.now.repo.now c.args.wanted.now.path.now c.args.wanted.now.e.now c.args.seat.now c.look_for.new.seat
    (g.B.Blocks.faults c.args.blocks.now) (g.B.Blocks.misses c.args.blocks.now) (g.B.Blocks.missed c.args.blocks.now) (g.B.Blocks.held c.args.blocks.now)
    (g.P.Pause.calls c.args.pause.now) c.in-Err.fault c.in-Err.ensures

pub reading-init : goal.reading-init
reading-init g c = record {
  way = begun c.args.wanted.now.repo.now c.args.wanted.now.path.now c.args.wanted.now.e.now c.args.seat.now c.look_for.new.seat
      (g.B.Blocks.faults c.args.blocks.now) (g.B.Blocks.misses c.args.blocks.now) (g.B.Blocks.missed c.args.blocks.now)
      (g.B.Blocks.held c.args.blocks.now) (g.P.Pause.calls c.args.pause.now) c.in-Ok.entry c.seen-first.result c.seen-first.ensures c.in-Ok.ensures;
  few = omega arith;
}

pub ask_once-requires-clause-object : goal.ask_once-requires-clause-object
ask_once-requires-clause-object g c = way_own _ _ _ _ _ _ _ _ _ _ _ _ _ c.reading.invariant.way

pub returns-in-Got : goal.returns-in-Got
returns-in-Got g c =
    got_so _ _ _ _ _ _ _ _ _ _ _ _ _ _ _ _ _ _ _ _ _ _ _ c.reading.invariant.way (omega (arith, c.reading-test.true)) c.in-Got.body c.seen.result
    c.fitted.result c.in-Got.ensures c.seen.ensures c.fitted.ensures

pub reading-preserved : goal.reading-preserved
reading-preserved g c = record {
  way = missed_on _ _ _ _ _ _ _ _ _ _ _ _ _ _ _ _ _ _ _ _ _ _ _ c.reading.invariant.way (omega (arith, c.reading-test.true)) c.in-Missed.next
      c.in-Missed.ensures;
  few = omega (arith, c.reading-test.true);
}

pub returns-in-Refused : goal.returns-in-Refused
returns-in-Refused g c =
    refused_so _ _ _ _ _ _ _ _ _ _ _ _ _ _ _ _ _ _ _ _ _ _ _ c.reading.invariant.way (omega (arith, c.reading-test.true)) c.in-Refused.fault
    c.in-Refused.ensures

pub returns : goal.returns
returns g c =
    ten_missed _ _ _ _ _ _ _ _ _ _ _ _ _ _ (omega (arith, c.reading.invariant.few, c.reading-test.false)) c.seen-last.ensures c.reading.invariant.way
