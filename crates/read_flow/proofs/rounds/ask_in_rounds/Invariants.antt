use Rattle.std.proofs.Common.{◌-◌, ◌≤◌}
use Rattle.read_flow.specs.ObjectReads.{counted_between}
use Rattle.read_flow.proofs.RoundLemmas.{UnderWay}
use Rattle.read_flow.proofs.rounds.ask_in_rounds.Given as goal

-- an entry was found, and each get so far missed
abbrev pub invariant-reading : goal.invariant-reading
invariant-reading g l = record {
  way : UnderWay l.fn.wanted.repo.now l.fn.wanted.path.now l.fn.wanted.e.now l.missed l.first l.entry l.fn.seat l.seat
      (counted_between (g.B.Blocks.faults l.fn.blocks) (g.B.Blocks.misses l.fn.blocks) (g.B.Blocks.faults l.blocks) (g.B.Blocks.misses l.blocks)
      (g.B.Blocks.missed l.blocks))
      (g.B.Blocks.held l.fn.blocks) (g.B.Blocks.held l.blocks) (g.P.Pause.calls l.fn.pause) (g.P.Pause.calls l.pause);
  few : l.missed ≤ 10;
}

abbrev pub decreases-reading : goal.decreases-reading
decreases-reading g l = 10 - l.missed
