use Rattle.batch_lines.proofs.ClosingLemmas.{within_test, beyond_test, fed_whole}
use Rattle.batch_lines.proofs.OutcomeLemmas.{outcome_cut, outcome_broken, outcome_lost}
use Rattle.batch_lines.proofs.batch.Batch.finish.Goals as goal

pub returns-in-Source-clause-outcome : goal.returns-in-Source-clause-outcome
returns-in-Source-clause-outcome g c before limit most input left counted ends =
    let all = rw c.in-Source.is at ends in
    c.close.ensures.outcome before limit most input left (within_test all.0) counted (fed_whole all.0 all.1)

pub returns-in-TooLong-clause-outcome : goal.returns-in-TooLong-clause-outcome
returns-in-TooLong-clause-outcome g c before limit most input left counted ends =
    let front = rw c.in-TooLong.is at ends in
    c.close-in-TooLong.ensures.outcome before limit most input left (beyond_test front.0) counted front.1

pub returns-in-SourceFailed-clause-outcome : goal.returns-in-SourceFailed-clause-outcome
returns-in-SourceFailed-clause-outcome g c before limit most input left counted ends =
    outcome_broken (g.W.Sink.faults c.args.sink.now) (rw c.in-SourceFailed.is at ends)

pub returns-in-SinkFailed-clause-outcome : goal.returns-in-SinkFailed-clause-outcome
returns-in-SinkFailed-clause-outcome g c before limit most input left counted ends =
    outcome_cut (g.W.Sink.faults c.args.sink.now) (rw c.in-SinkFailed.is at ends)

pub returns-in-HostFailed-clause-outcome : goal.returns-in-HostFailed-clause-outcome
returns-in-HostFailed-clause-outcome g c before limit most input left counted ends =
    outcome_lost (g.W.Sink.written c.give_up.new.sink) (g.W.Sink.faults c.args.sink.now)
    (g.W.Sink.faults c.give_up.new.sink) counted c.give_up.ensures.wrote (rw c.in-HostFailed.is at ends)
