use Rattle.std.proofs.Common.{◌≡◌, ◌-◌, []}
use Rattle.commit_graph.specs.CommitReading.{read_ids}
use Rattle.commit_graph.proofs.decoding.read_ids.Given as goal

-- the ids so far, and those still read behind them, are all
abbrev pub invariant-loop : goal.invariant-loop
invariant-loop l = read_ids (l.count - l.counter) l.ids.items l.rest ≡ read_ids l.count [] l.bytes
