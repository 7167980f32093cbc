use Rattle.std.proofs.Common.{arith}
use Rattle.batch_lines.specs.ResultsView.{progress_of}
use Rattle.batch_lines.proofs.ReadingLemmas.{told_then, reached_start, piece_read, told_ends}
use Rattle.batch_lines.proofs.batch.Batch.read.Goals as goal

pub reading-init : goal.reading-init
reading-init g c = record {
  reached = reached_start g.L.LineServer.serves _ _ _
      (progress_of c.args.self.now.results (g.W.Sink.written c.args.sink.now)) _ c.args.self.now.line c.requires.start
      c.requires.line;
  within = omega arith;
  ready = c.requires.ready;
  source = omega arith;
  sink = omega arith;
  host = omega arith;
}

pub reading-preserved : goal.reading-preserved
reading-preserved g c = record {
  reached = told_then _ _ _ (λ input reached. c.in-Ok-feed_piece.ensures.feeds _ _ input _ (rw c.split_at.ensures.front
      (piece_read reached (progress_of c.next_piece.new.results (g.W.Sink.written c.next_piece.new.sink))
      c.in-Ok.ensures.reads.0 _ _ c.next_piece.new.room c.in-Ok.count c.in-Ok.ensures.reads.1
      (omega (arith, c.in-Ok.ensures.within))))) c.reading.invariant.reached;
  within = c.in-Ok-feed_piece.ensures.all.1;
  ready = c.in-Ok-feed_piece.ensures.ready;
  source = omega (arith, c.in-Ok.ensures.source.0, c.reading.invariant.source);
  sink = omega (arith, c.in-Ok.ensures.sink.0, c.in-Ok-feed_piece.ensures.sink.0, c.reading.invariant.sink);
  host = omega (arith, c.in-Ok-feed_piece.ensures.host.0, c.reading.invariant.host);
}

pub returns-in-Err-clause-ends : goal.returns-in-Err-clause-ends
returns-in-Err-clause-ends g c =
    told_ends g.L.LineServer.serves (g.S.Source.left c.args.source.now) _ _ (g.S.Source.left c.reading.source)
    (g.S.Source.left c.next_piece.new.source) c.reading.total c.reading.lines
    (progress_of c.reading.self.results (g.W.Sink.written c.reading.sink))
    (progress_of c.next_piece.new.results (g.W.Sink.written c.next_piece.new.sink)) c.reading.self.line c.in-Err.end
    c.reading.room c.next_piece.new.room c.args.limit c.reading.invariant.within (omega (arith, c.requires.room))
    c.in-Err.ensures.reads c.reading.invariant.reached

pub returns-in-Err-feed_piece-clause-ends : goal.returns-in-Err-feed_piece-clause-ends
returns-in-Err-feed_piece-clause-ends g c =
    told_then _ _ _ (λ input reached. c.in-Err-feed_piece.ensures.feeds _ _ input _ (rw c.split_at.ensures.front
    (piece_read reached (progress_of c.next_piece.new.results (g.W.Sink.written c.next_piece.new.sink))
    c.in-Ok.ensures.reads.0 _ _ c.next_piece.new.room c.in-Ok.count c.in-Ok.ensures.reads.1
    (omega (arith, c.in-Ok.ensures.within))))) c.reading.invariant.reached
