use Rattle.std.proofs.Common.{◌≡◌, ◌++◌, map, length, vec_capacity}
use Rattle.lake_server.specs.ServedConnections.{PartViews, part_views, worker_view}
use Rattle.lake_host.specs.Doors.{door_of, door_view}
use Rattle.lake_host.specs.Workers.{store_of, store_view}
use Rattle.lake_host.proofs.HiringLemmas.{HiredSoFar}
use Rattle.lake_host.proofs.hiring.hire.Given as goal

-- the first seats have workers, in the room that was made, each the store and the listener at its place, and the host is as it was
abbrev pub invariant-loop-seat : goal.invariant-loop-seat
invariant-loop-seat g l =
    let show : PartViews g.row.B.Denot g.row.H-Time.Denot g.row.H-Door.Denot = part_views g.B.Blocks.held g.B.Blocks.faults g.B.Blocks.misses
    g.B.Blocks.missed g.H.Time.Clock.readings g.H.Door.Listen.accepted g.H.Door.Listen.returned g.H.Door.Listen.faults in
    HiredSoFar l.fn.connections l.fn.seats.items l.seat-iterator.rest.items (map (worker_view show) l.workers.items) (length l.doors.items) l.number
    × (vec_capacity l.workers ≡ vec_capacity l.fn.workers)
    × (g.H.Host.opened l.host ≡ g.H.Host.opened l.fn.host)
    × (g.H.Host.returned l.host ≡ g.H.Host.returned l.fn.host) × (g.H.Host.faults l.host ≡ g.H.Host.faults l.fn.host)
    × (map door_of (map (worker_view show) l.workers.items)
    ++ map (door_view g.H.Door.Listen.accepted g.H.Door.Listen.returned g.H.Door.Listen.faults) l.doors.items
    ≡ map (door_view g.H.Door.Listen.accepted g.H.Door.Listen.returned g.H.Door.Listen.faults) l.fn.doors.items)
    × (map store_of (map (worker_view show) l.workers.items)
    ++ map (store_view g.B.Blocks.held g.B.Blocks.faults g.B.Blocks.misses g.B.Blocks.missed) l.stores.items
    ≡ map (store_view g.B.Blocks.held g.B.Blocks.faults g.B.Blocks.misses g.B.Blocks.missed) l.fn.stores.items)
    × (length l.stores.items ≡ length l.doors.items)
