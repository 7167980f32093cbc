use Rattle.std.proofs.Common.{Some, ⊎_elim, inl, inr, refl}
use Rattle.lake_batch.specs.BatchViews.{BatchView}
use Rattle.lake_batch.proofs.BatchLemmas.{by_clock}
use Rattle.lake_batch.proofs.BatchLemmas.{told_then}
use Rattle.lake_batch.proofs.batch.serve_by_clock.Goals as goal

pub returns-clause-outcome : goal.returns-clause-outcome
returns-clause-outcome g c =
    let before : BatchView = record {
      left = g.S.Source.left c.args.source.now;
      written = g.O.Sink.written c.args.sink.now;
      sink_faults = g.O.Sink.faults c.args.sink.now;
      readings = g.C.Clock.readings c.args.clock;
      files = g.F.Files.files c.args.files;
    } in
    let after : BatchView = record {
      left = g.S.Source.left c.serve_lines-status.new.source;
      written = g.O.Sink.written c.serve_lines-status.new.sink;
      sink_faults = g.O.Sink.faults c.serve_lines-status.new.sink;
      readings = g.C.Clock.readings c.serve_lines-status.new.lines.clock;
      files = g.F.Files.files c.serve_lines-status.new.lines.files;
    } in
    ⊎_elim
    (λ none. inl (none.0, none.2, none.3, (λ i. (none.1 i).clock), (λ i. (none.1 i).files)))
    (λ some. inr (told_then (g.S.Source.left c.args.source.now) _ _ (λ input told outcome.
    by_clock c.serve_lines-status.new.lines _ _
    (λ lines. record {
      lake = record {
        readings = g.C.Clock.readings lines.clock;
        store = record { held = Some lines.blocks.held; faults = 0; misses = lines.blocks.misses; missed = lines.blocks.missed };
        seat = lines.seat;
      };
      files = g.F.Files.files lines.files;
    })
    (λ line old now reply ends. ends) c.args.limit 65536 before after input c.serve_lines-status.result outcome
    (record {
      seat = c.in-Ok.ensures.fresh;
      store = λ i. record { held = Some (c.new-blocks.ensures i).held; faults = 0; misses = (c.new-blocks.ensures i).misses; missed = (c.new-blocks.ensures i).missed };
      files = refl;
    })
    refl (refl, refl) refl c.close_lone_lake.ensures.none) some))
    c.serve_lines-status.ensures.outcome
