use Rattle.std.proofs.Common.{◌≤◌, ◌-◌, ◌+◌, [], length, IfSome}
use Rattle.batch_lines.specs.ResultsView.{state_of}
use Rattle.batch_lines.specs.SourceReading.{Reaches}
use Rattle.batch_lines.proofs.batch.Batch.read.Given as goal

-- so many bytes were read and fed, within the limit
abbrev pub invariant-reading : goal.invariant-reading
invariant-reading g l = record {
  reached : IfSome (g.S.Source.left l.fn.source) (λ input. Reaches g.L.LineServer.serves
      (record { server = l.fn.lines; written = g.W.Sink.written l.fn.sink; faults = g.W.Sink.faults l.fn.sink })
      (length l.fn.room) input (g.S.Source.left l.source) l.total []
      (state_of l.self.results l.lines (g.W.Sink.written l.sink)) l.self.line);
  within : l.total ≤ l.limit;
  ready : g.L.LineServer.ready l.lines;
  source : g.S.Source.faults l.fn.source ≤ g.S.Source.faults l.source;
  sink : g.W.Sink.faults l.fn.sink ≤ g.W.Sink.faults l.sink;
  host : g.L.LineServer.faults l.fn.lines ≤ g.L.LineServer.faults l.lines;
}

abbrev pub decreases-reading : goal.decreases-reading
decreases-reading g l = l.limit - l.total + 1
