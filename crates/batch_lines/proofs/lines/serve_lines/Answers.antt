use Rattle.std.proofs.Common.{inl, inr, ◌≡◌, refl, ◌∙◌, ap, subst, length}
use Rattle.batch_lines.specs.Outcome.{Trace, Outcome}
use Rattle.batch_lines.proofs.ReadingLemmas.{told_then}
use Rattle.batch_lines.proofs.CauseLemmas.{sink_cause, host_cause}
use Rattle.batch_lines.proofs.lines.serve_lines.Goals as goal

pub read-end-requires-clause-start : goal.read-end-requires-clause-start
read-end-requires-clause-start g c = c.in-Ok.ensures.start (g.W.Sink.written c.args.sink.now)

pub returns-in_default-clause-outcome : goal.returns-in_default-clause-outcome
returns-in_default-clause-outcome g c = inl (refl, refl, refl, refl)

pub returns-in_default-room_of-clause-outcome : goal.returns-in_default-room_of-clause-outcome
returns-in_default-room_of-clause-outcome g c = inl (refl, refl, refl, refl)

pub returns-clause-outcome : goal.returns-clause-outcome
returns-clause-outcome g c =
    let before : Trace g.row.L.Denot = record {
      server = c.args.lines.now;
      written = g.W.Sink.written c.args.sink.now;
      faults = g.W.Sink.faults c.args.sink.now;
    } in
    let after : Trace g.row.L.Denot = record {
      server = c.finish.new.lines;
      written = g.W.Sink.written c.finish.new.sink;
      faults = g.W.Sink.faults c.finish.new.sink;
    } in
    let left = g.S.Source.left c.read-end.new.source in
    let room : length c.as_mut_slice.result.now ≡ 65536 = ap length c.as_mut_slice.ensures.value ∙ c.in-Ok-room_of.ensures in
    inr (told_then (g.S.Source.left c.args.source.now) _ _ (λ input ends.
    subst (λ n. Outcome g.L.LineServer.serves c.args.limit n before after input left c.finish.result) room
    (c.finish.ensures.outcome before c.args.limit _ input left (c.read-end.ensures.sink.0) ends))
    c.read-end.ensures.ends)

pub returns-clause-sink : goal.returns-clause-sink
returns-clause-sink g c =
    sink_cause c.read-end.result _ _ _ c.finish.result c.read-end.ensures.sink c.finish.ensures.sink

pub returns-clause-host : goal.returns-clause-host
returns-clause-host g c =
    host_cause c.read-end.result _ _ _ c.finish.result c.read-end.ensures.host c.finish.ensures.host
