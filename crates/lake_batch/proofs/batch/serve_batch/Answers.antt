use Rattle.std.proofs.Common.{◌∙◌, ap, ⊎_elim, inl, inr, refl, subst, sym}
use Rattle.lake_base.specs.Clocks.{FixedClockValue}
use Rattle.lake_base.specs.Memory.{next_count}
use Rattle.program_words.specs.declared.batch.Timing.{Timing}
use Rattle.lake_batch.specs.Batches.{IsServedBatch}
use Rattle.lake_batch.specs.BatchViews.{BatchView}
use Rattle.lake_batch.proofs.BatchLemmas.{at_moment}
use Rattle.lake_batch.proofs.BatchLemmas.{told_then}
use Rattle.lake_batch.proofs.batch.serve_batch.Goals as goal

pub returns-in-At-clause-outcome : goal.returns-in-At-clause-outcome
returns-in-At-clause-outcome g c =
    let before : BatchView = record {
      left = g.S.Source.left c.args.source.now;
      written = g.O.Sink.written c.args.sink.now;
      sink_faults = g.O.Sink.faults c.args.sink.now;
      readings = g.C.Clock.readings c.args.clock;
      files = g.F.Files.files c.args.files;
    } in
    let after : BatchView = record {
      left = g.S.Source.left c.serve_by_clock-status.new.source;
      written = g.O.Sink.written c.serve_by_clock-status.new.sink;
      sink_faults = g.O.Sink.faults c.serve_by_clock-status.new.sink;
      readings = g.C.Clock.readings c.args.clock;
      files = g.F.Files.files c.serve_by_clock-status.result.2;
    } in
    let begins = c.now.ensures.counted ∙ ap (λ (clock : FixedClockValue). record clock { given = next_count clock.given }) c.new-still.ensures in
    ⊎_elim (λ none. inl (none.0, none.1, none.2, refl, none.4))
    (λ some. inr (told_then (g.S.Source.left c.args.source.now) _ _ (λ input told served.
    subst (λ (timing : Timing). IsServedBatch timing c.args.limit 65536 before after input c.serve_by_clock-status.result.0) (sym c.in-At.is)
    (at_moment c.in-At.moment c.args.limit 65536 before after input c.serve_by_clock-status.result.0 c.now.new.self
    c.serve_by_clock-status.result.1 begins c.requires served refl)) some)) c.serve_by_clock-status.ensures.outcome
