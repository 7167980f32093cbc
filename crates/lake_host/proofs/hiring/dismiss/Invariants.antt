use Rattle.std.proofs.Common.{◌≡◌, ◌++◌, map, length, vec_capacity}
use Rattle.lake_server.specs.ServedConnections.{PartViews, part_views, worker_view}
use Rattle.lake_host.specs.Workers.{store_of, store_view}
use Rattle.lake_host.proofs.HiringLemmas.{TakenSoFar}
use Rattle.lake_host.proofs.hiring.dismiss.Given as goal

-- the first workers were taken apart, in the room that was made
abbrev pub invariant-loop-worker : goal.invariant-loop-worker
invariant-loop-worker g l =
    let show : PartViews g.row.B.Denot g.row.H-Time.Denot g.row.H-Door.Denot = part_views g.B.Blocks.held g.B.Blocks.faults g.B.Blocks.misses
    g.B.Blocks.missed g.H.Time.Clock.readings g.H.Door.Listen.accepted g.H.Door.Listen.returned g.H.Door.Listen.faults in
    TakenSoFar (map (worker_view show) l.fn.workers.items) (map (worker_view show) l.worker-iterator.rest.items) l.seats.items
    (g.H.Host.returned l.fn.host) (g.H.Host.returned l.host) l.any_failed
    × (vec_capacity l.seats ≡ vec_capacity l.fn.seats) × (g.H.Host.opened l.host ≡ g.H.Host.opened l.fn.host)
    × (g.H.Host.faults l.host ≡ g.H.Host.faults l.fn.host)
    × (map (store_view g.B.Blocks.held g.B.Blocks.faults g.B.Blocks.misses g.B.Blocks.missed) l.stores.items
    ++ map store_of (map (worker_view show) l.worker-iterator.rest.items) ≡ map store_of (map (worker_view show) l.fn.workers.items))
    × (vec_capacity l.stores ≡ vec_capacity l.fn.stores) × (length l.stores.items ≡ length l.seats.items)
