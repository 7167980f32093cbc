use Rattle.std.proofs.Common.{◌∙◌, ap, ⊎_elim, inl, inr, refl, subst, sym}
use Rattle.lake_base.specs.Clocks.{FixedClockValue}
use Rattle.lake_base.specs.Memory.{next_count}
use Rattle.program_words.specs.declared.batch.Timing.{Timing}
use Rattle.lake_batch.specs.BatchViews.{BatchView}
use Rattle.lake_batch.proofs.BatchLemmas.{told_then}
use Rattle.folder_batch.specs.Desks.{Desk, IsServedAt}
use Rattle.folder_batch.proofs.DeskLemmas.{at_moment}
use Rattle.folder_batch.proofs.desk.serve_at.Goals as goal

pub returns-in-At-clause-outcome : goal.returns-in-At-clause-outcome
returns-in-At-clause-outcome g c =
    let status = c.serve_by_clock-status in
    let before : BatchView = record {
      left = g.S.Source.left c.args.source.now;
      written = g.O.Sink.written c.args.sink.now;
      sink_faults = g.O.Sink.faults c.args.sink.now;
      readings = g.C.Clock.readings c.args.clock;
      files = g.F.Files.files c.args.files;
    } in
    let after : BatchView = record {
      left = g.S.Source.left status.new.source;
      written = g.O.Sink.written status.new.sink;
      sink_faults = g.O.Sink.faults status.new.sink;
      readings = g.C.Clock.readings c.args.clock;
      files = g.F.Files.files status.result.3;
    } in
    let old : Desk = record {
      store = record {
        held = g.B.Blocks.held c.args.desk.blocks;
        faults = g.B.Blocks.faults c.args.desk.blocks;
        misses = g.B.Blocks.misses c.args.desk.blocks;
        missed = g.B.Blocks.missed c.args.desk.blocks;
      };
      seat = c.args.desk.seat;
    } in
    let new : Desk = record {
      store = record {
        held = g.B.Blocks.held status.result.1.blocks;
        faults = g.B.Blocks.faults status.result.1.blocks;
        misses = g.B.Blocks.misses status.result.1.blocks;
        missed = g.B.Blocks.missed status.result.1.blocks;
      };
      seat = status.result.1.seat;
    } in
    let begins = c.now.ensures.counted ∙ ap (λ (clock : FixedClockValue). record clock { given = next_count clock.given }) c.new-still.ensures in
    ⊎_elim (λ none. inl (none.0, none.1, none.2, none.3, refl, none.5))
    (λ some. inr (told_then (g.S.Source.left c.args.source.now) _ _ (λ input told served.
    subst (λ (timing : Timing). IsServedAt timing c.args.limit 65536 before after old new input status.result.0) (sym c.in-At.is)
    (at_moment c.in-At.moment c.now.new.self status.result.2 begins c.args.limit 65536 before after old new input status.result.0
    c.requires.limit served refl)) some))
    status.ensures.outcome
