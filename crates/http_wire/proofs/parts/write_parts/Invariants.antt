use Rattle.std.proofs.Common.{◌≤◌, [], take}
use Rattle.http_wire.specs.SinkFronts.{Shows, joined}
use Rattle.http_wire.proofs.parts.write_parts.Given as goal

-- the parts so far were shown
abbrev pub invariant-loop-part : goal.invariant-loop-part
invariant-loop-part g l = record {
  shown : Shows (g.W.Sink.written l.fn.sink) (g.W.Sink.written l.sink) [] (joined (take l.part-index l.parts)) l.pending.items;
  later : g.W.Sink.faults l.fn.sink ≤ g.W.Sink.faults l.sink;
}
