use Rattle.std.proofs.Common.{refl, arith}
use Rattle.batch_lines.proofs.ReadingLemmas.{reached_more, too_long, sink_failed, server_failed}
use Rattle.batch_lines.proofs.batch.Batch.feed_piece.Goals as goal

pub returns-in-Err-SinkFailed-clause-feeds : goal.returns-in-Err-SinkFailed-clause-feeds
returns-in-Err-SinkFailed-clause-feeds g c before most input left reached =
    sink_failed reached _ c.split_at.ensures.front (omega (arith, c.split_at.ensures.front_len))
    (rw c.in-Err-SinkFailed.field-0-is at (c.in-Err-SinkFailed.ensures.feeds before _ _ reached.served))

pub returns-in-Err-HostFailed-clause-feeds : goal.returns-in-Err-HostFailed-clause-feeds
returns-in-Err-HostFailed-clause-feeds g c before most input left reached =
    server_failed reached _ c.split_at.ensures.front (omega (arith, c.split_at.ensures.front_len))
    (rw c.in-Err-HostFailed.field-0-is at (c.in-Err-HostFailed.ensures.feeds before _ _ reached.served))

pub returns-then-fed-piece-clause-feeds : goal.returns-then-fed-piece-clause-feeds
returns-then-fed-piece-clause-feeds g c before most input left reached =
    too_long reached _ c.split_at.ensures.front (omega (arith, c.split_at.ensures.front_len)) c.if-fed-piece.true
    (c.in-Ok.ensures.feeds before _ _ reached.served)

pub returns-clause-feeds : goal.returns-clause-feeds
returns-clause-feeds g c before most input left reached =
    reached_more reached _ c.split_at.ensures.front refl c.if-fed-piece.false
    (c.in-Ok.ensures.feeds before _ _ reached.served)
