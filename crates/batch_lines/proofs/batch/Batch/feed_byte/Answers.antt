use Rattle.std.proofs.Common.{arith}
use Rattle.batch_lines.proofs.FeedingLemmas.{served_byte, feeds_line}
use Rattle.batch_lines.proofs.batch.Batch.feed_byte.Goals as goal

pub returns-then-byte-ne10-clause-feeds : goal.returns-then-byte-ne10-clause-feeds
returns-then-byte-ne10-clause-feeds g c before first given served =
    served_byte g.L.LineServer.serves before first given _ _ c.push.new.self c.args.byte c.if-byte-ne10.true
    c.push.ensures served

pub returns-clause-feeds : goal.returns-clause-feeds
returns-clause-feeds g c before first given served =
    feeds_line g.L.LineServer.serves g.met.L.LineServer.long_lines before first given _ _ _ c.ended.result.now
    c.clear.new.self c.args.byte c.serve-served.result (omega arith) c.ended.ensures c.clear.ensures served
    c.serve-served.ensures.serves
