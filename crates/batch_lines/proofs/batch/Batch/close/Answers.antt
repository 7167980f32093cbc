use Rattle.std.proofs.Common.{refl, arith}
use Rattle.batch_lines.specs.Progress.{Progress}
use Rattle.batch_lines.specs.ResultsView.{progress_of}
use Rattle.batch_lines.proofs.OutputLemmas.{shown_flushed, cut_flush}
use Rattle.batch_lines.proofs.OutcomeLemmas.{outcome_whole, outcome_end_cut, outcome_end_lost}
use Rattle.batch_lines.proofs.batch.Batch.close.Goals as goal

pub returns-in-Ok-flush-clause-outcome : goal.returns-in-Ok-flush-clause-outcome
returns-in-Ok-flush-clause-outcome g c before limit most input left test counted fed =
    let new : Progress = progress_of (record c.show_last.new.self.results { output = c.flush.new.self })
    (g.W.Sink.written c.flush.new.sink) in
    outcome_whole (g.W.Sink.faults c.flush.new.sink) test fed.out c.status.ensures c.in-Ok-flush.ensures.none
    (shown_flushed (c.in-Ok.ensures.shows before fed.first limit input test fed.served) new
    (record { wrote = c.in-Ok-flush.ensures.all; none = c.in-Ok-flush.ensures.none; done = refl; starved = refl }))

pub returns-in-Err-clause-outcome : goal.returns-in-Err-clause-outcome
returns-in-Err-clause-outcome g c before limit most input left test counted fed =
    let new : Progress = progress_of (record c.show_last.new.self.results { output = c.flush.new.self })
    (g.W.Sink.written c.flush.new.sink) in
    outcome_end_cut (g.W.Sink.faults c.flush.new.sink) fed.read
    (cut_flush (c.in-Ok.ensures.shows before fed.first limit input test fed.served) new c.in-Err.ensures.front)

pub returns-in-Err-SinkFailed-clause-outcome : goal.returns-in-Err-SinkFailed-clause-outcome
returns-in-Err-SinkFailed-clause-outcome g c before limit most input left test counted fed =
    outcome_end_cut (g.W.Sink.faults c.show_last.new.sink) fed.read
    (rw c.in-Err-SinkFailed.field-0-is at
    (c.in-Err-SinkFailed.ensures.shows before fed.first limit input test fed.served))

pub returns-in-Err-HostFailed-clause-outcome : goal.returns-in-Err-HostFailed-clause-outcome
returns-in-Err-HostFailed-clause-outcome g c before limit most input left test counted fed =
    outcome_end_lost (g.W.Sink.written c.give_up.new.sink) (g.W.Sink.faults c.show_last.new.sink)
    (g.W.Sink.faults c.give_up.new.sink) (omega (arith, counted, c.in-Err-HostFailed.ensures.sink.0))
    c.give_up.ensures.wrote fed.read
    (rw c.in-Err-HostFailed.field-0-is at
    (c.in-Err-HostFailed.ensures.shows before fed.first limit input test fed.served))
