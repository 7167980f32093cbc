use Rattle.std.proofs.Common.{arith}
use Rattle.std.proofs.lemmas.List.{append-nil, take_all}
use Rattle.batch_lines.proofs.FeedingLemmas.{fed_at, cut_at}
use Rattle.batch_lines.proofs.batch.Batch.feed.Goals as goal

pub loop-byte-init : goal.loop-byte-init
loop-byte-init g c = record {
  fed = λ _ _ _ served. rw append-nil served;
  ready = c.requires;
  sink = omega arith;
  host = omega arith;
}

pub loop-byte-preserved : goal.loop-byte-preserved
loop-byte-preserved g c = record {
  fed = λ before first given served. fed_at g.L.LineServer.serves before first given c.args.chunk.now c.loop-byte.byte-index
      _ _ c.loop-byte-test.true (c.in-Ok.ensures.feeds before first _ (c.loop-byte.invariant.fed before first given served));
  ready = c.in-Ok.ensures.ready;
  sink = omega (arith, c.in-Ok.ensures.sink.0, c.loop-byte.invariant.sink);
  host = omega (arith, c.in-Ok.ensures.host.0, c.loop-byte.invariant.host);
}

pub returns-in-Err-clause-feeds : goal.returns-in-Err-clause-feeds
returns-in-Err-clause-feeds g c before first given served =
    cut_at g.L.LineServer.serves before first given c.args.chunk.now c.loop-byte.byte-index _ c.feed_byte.new.self.line
    c.in-Err.stop c.loop-byte-test.true
    (c.in-Err.ensures.feeds before first _ (c.loop-byte.invariant.fed before first given served))

pub returns-clause-feeds : goal.returns-clause-feeds
returns-clause-feeds g c before first given served =
    rw (take_all _ _ c.loop-byte-test.false) at (c.loop-byte.invariant.fed before first given served)
