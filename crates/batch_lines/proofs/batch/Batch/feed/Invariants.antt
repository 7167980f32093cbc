use Rattle.std.proofs.Common.{◌≤◌, ◌++◌, ℕ, List, take}
use Rattle.batch_lines.specs.ServedLines.{LineEffect}
use Rattle.batch_lines.specs.Outcome.{Trace}
use Rattle.batch_lines.specs.Feeding.{HasServed}
use Rattle.batch_lines.specs.ResultsView.{state_of}
use Rattle.batch_lines.proofs.batch.Batch.feed.Given as goal

-- the bytes so far were fed
abbrev pub invariant-loop-byte : goal.invariant-loop-byte
invariant-loop-byte g l = record {
  fed : (before : Trace g.row.L.Denot) (first : List LineEffect) (given : List ℕ)
      → HasServed g.L.LineServer.serves before first given
      (state_of l.fn.self.results l.fn.lines (g.W.Sink.written l.fn.sink)) l.fn.self.line
      → HasServed g.L.LineServer.serves before first (given ++ take l.byte-index l.chunk)
      (state_of l.self.results l.lines (g.W.Sink.written l.sink)) l.self.line;
  ready : g.L.LineServer.ready l.lines;
  sink : g.W.Sink.faults l.fn.sink ≤ g.W.Sink.faults l.sink;
  host : g.L.LineServer.faults l.fn.lines ≤ g.L.LineServer.faults l.lines;
}
