use Rattle.std.proofs.Common.{⊎_elim, inl, inr, refl}
use Rattle.lake_batch.specs.BatchViews.{BatchView}
use Rattle.lake_batch.proofs.BatchLemmas.{told_then}
use Rattle.folder_batch.proofs.DeskLemmas.{by_clock}
use Rattle.folder_batch.proofs.desk.serve_by_clock.Goals as goal

pub returns-clause-outcome : goal.returns-clause-outcome
returns-clause-outcome g c =
    let status = c.serve_lines-status in
    let before : BatchView = record {
      left = g.S.Source.left c.args.source.now;
      written = g.O.Sink.written c.args.sink.now;
      sink_faults = g.O.Sink.faults c.args.sink.now;
      readings = g.C.Clock.readings c.args.clock;
      files = g.F.Files.files c.args.files;
    } in
    let after : BatchView = record {
      left = g.S.Source.left status.new.source;
      written = g.O.Sink.written status.new.sink;
      sink_faults = g.O.Sink.faults status.new.sink;
      readings = g.C.Clock.readings status.new.lines.clock;
      files = g.F.Files.files status.new.lines.files;
    } in
    ⊎_elim
    (λ none. inl (none.0, none.2, none.3, (λ i. (none.1 i).desk), (λ i. (none.1 i).clock), (λ i. (none.1 i).files)))
    (λ some. inr (told_then (g.S.Source.left c.args.source.now) _ _ (λ input told outcome.
    by_clock status.new.lines _ _
    (λ lines. record {
      lake = record {
        readings = g.C.Clock.readings lines.clock;
        store = record {
          held = g.B.Blocks.held lines.desk.blocks;
          faults = g.B.Blocks.faults lines.desk.blocks;
          misses = g.B.Blocks.misses lines.desk.blocks;
          missed = g.B.Blocks.missed lines.desk.blocks;
        };
        seat = lines.desk.seat;
      };
      files = g.F.Files.files lines.files;
    })
    (λ line old now reply ends. ends) c.args.limit 65536 before after input status.result outcome refl refl refl refl) some))
    status.ensures.outcome
