use Rattle.std.proofs.Common.{List}
use Rattle.lake_server.specs.ServedConnections.{Connection, part_views, worker_view}
use Rattle.lake_server.proofs.ServedConnectionsLemmas.{SoFar}
use Rattle.lake_server.proofs.worker.serve_connections.Given as goal

-- some connections were served so far
abbrev pub invariant-loop : goal.invariant-loop
invariant-loop g l =
    let views = part_views g.B.Blocks.held g.B.Blocks.faults g.B.Blocks.misses g.B.Blocks.missed g.C.Clock.readings g.L.Listen.accepted g.L.Listen.returned g.L.Listen.faults in
    (sessions : List Connection) × SoFar (worker_view views l.initial.worker) (worker_view views l.worker) sessions
