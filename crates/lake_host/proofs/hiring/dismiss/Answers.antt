use native.Mathlib.Omega.{arith}
use Rattle.std.proofs.Common.{◌≡◌, ◌++◌, map, length, refl, sym, ◌∙◌, ap, subst}
use Rattle.std.proofs.lemmas.List.{length-map, nil_from_length}
use Rattle.lake_server.specs.ServedConnections.{PartViews, part_views, worker_view}
use Rattle.lake_host.specs.Doors.{AreOut}
use Rattle.lake_host.specs.Workers.{StoreView, store_of, store_view}
use Rattle.lake_host.proofs.HiringLemmas.{back_all, moved_back, none_left, one_out, one_pushed, seats_all, taken_none, taken_one, taken_place, tells_all}
use Rattle.lake_host.proofs.hiring.dismiss.Goals as goal

pub loop-worker-init : goal.loop-worker-init
loop-worker-init g c =
    let show : PartViews g.row.B.Denot g.row.H-Time.Denot g.row.H-Door.Denot = part_views g.B.Blocks.held g.B.Blocks.faults g.B.Blocks.misses
    g.B.Blocks.missed g.H.Time.Clock.readings g.H.Door.Listen.accepted g.H.Door.Listen.returned g.H.Door.Listen.faults in
    let store : g.row.B.Denot → StoreView = store_view g.B.Blocks.held g.B.Blocks.faults g.B.Blocks.misses g.B.Blocks.missed in (
      taken_none (map (worker_view show) c.args.workers.items) (map (worker_view show) c.into_iter-worker-iterator.result.rest.items)
          c.args.seats.items (g.H.Host.returned c.args.host.now) (ap (map (worker_view show)) c.into_iter-worker-iterator.ensures.into_iter_gives.0)
          c.requires.no_seats,
      refl,
      refl,
      refl,
      ap (λ stores. map store stores ++ map store_of (map (worker_view show) c.into_iter-worker-iterator.result.rest.items)) c.requires.no_stores
          ∙ ap (λ workers. map store_of (map (worker_view show) workers)) c.into_iter-worker-iterator.ensures.into_iter_gives.0,
      refl,
      ap length c.requires.no_stores ∙ sym (ap length c.requires.no_seats),
    )

pub push_reserved-requires : goal.push_reserved-requires
push_reserved-requires g c =
    let show : PartViews g.row.B.Denot g.row.H-Time.Denot g.row.H-Door.Denot = part_views g.B.Blocks.held g.B.Blocks.faults g.B.Blocks.misses
    g.B.Blocks.missed g.H.Time.Clock.readings g.H.Door.Listen.accepted g.H.Door.Listen.returned g.H.Door.Listen.faults in
    let place = taken_place (map (worker_view show) c.args.workers.items) (map (worker_view show) c.loop-worker.worker-iterator.rest.items)
    (map (worker_view show) c.next.new.self.rest.items) (worker_view show c.in-Some.worker) c.loop-worker.seats.items
    (g.H.Host.returned c.args.host.now) (g.H.Host.returned c.loop-worker.host) c.loop-worker.any_failed c.loop-worker.invariant.0
    (ap (map (worker_view show)) c.in-Some.ensures.steps.0) in
    let many : length (map (worker_view show) c.args.workers.items) ≡ length c.args.workers.items = length-map c.args.workers.items (worker_view show) in
    omega (arith, place, many, c.requires.room, c.loop-worker.invariant.1, c.args.workers.ok.0, c.loop-worker.seats.ok.0)

pub push_reserved-requires-in-loop-worker : goal.push_reserved-requires-in-loop-worker
push_reserved-requires-in-loop-worker g c =
    let show : PartViews g.row.B.Denot g.row.H-Time.Denot g.row.H-Door.Denot = part_views g.B.Blocks.held g.B.Blocks.faults g.B.Blocks.misses
    g.B.Blocks.missed g.H.Time.Clock.readings g.H.Door.Listen.accepted g.H.Door.Listen.returned g.H.Door.Listen.faults in
    let place = taken_place (map (worker_view show) c.args.workers.items) (map (worker_view show) c.loop-worker.worker-iterator.rest.items)
    (map (worker_view show) c.next.new.self.rest.items) (worker_view show c.in-Some.worker) c.loop-worker.seats.items
    (g.H.Host.returned c.args.host.now) (g.H.Host.returned c.loop-worker.host) c.loop-worker.any_failed c.loop-worker.invariant.0
    (ap (map (worker_view show)) c.in-Some.ensures.steps.0) in
    let many : length (map (worker_view show) c.args.workers.items) ≡ length c.args.workers.items = length-map c.args.workers.items (worker_view show) in
    let same : length c.loop-worker.stores.items ≡ length c.loop-worker.seats.items = c.loop-worker.invariant.6 in
    omega (arith, place, many, same, c.requires.place, c.loop-worker.invariant.5, c.args.workers.ok.0, c.loop-worker.stores.ok.0)

pub shut-requires : goal.shut-requires
shut-requires g c =
    let show : PartViews g.row.B.Denot g.row.H-Time.Denot g.row.H-Door.Denot = part_views g.B.Blocks.held g.B.Blocks.faults g.B.Blocks.misses
    g.B.Blocks.missed g.H.Time.Clock.readings g.H.Door.Listen.accepted g.H.Door.Listen.returned g.H.Door.Listen.faults in
    record {
      out = subst (λ given. AreOut 1 given (g.H.Host.returned c.loop-worker.host)) (sym c.loop-worker.invariant.2)
          (one_out (map (worker_view show) c.args.workers.items) (map (worker_view show) c.loop-worker.worker-iterator.rest.items)
          (map (worker_view show) c.next.new.self.rest.items) (worker_view show c.in-Some.worker) c.loop-worker.seats.items
          (g.H.Host.opened c.args.host.now) (g.H.Host.returned c.args.host.now) (g.H.Host.returned c.loop-worker.host) c.loop-worker.any_failed
          c.loop-worker.invariant.0 (ap (map (worker_view show)) c.in-Some.ensures.steps.0)
          (subst (λ n. AreOut n (g.H.Host.opened c.args.host.now) (g.H.Host.returned c.args.host.now))
          (c.args.workers.ok.0 ∙ sym (length-map c.args.workers.items (worker_view show))) c.requires.out));
    }

pub loop-worker-preserved : goal.loop-worker-preserved
loop-worker-preserved g c =
    let show : PartViews g.row.B.Denot g.row.H-Time.Denot g.row.H-Door.Denot = part_views g.B.Blocks.held g.B.Blocks.faults g.B.Blocks.misses
    g.B.Blocks.missed g.H.Time.Clock.readings g.H.Door.Listen.accepted g.H.Door.Listen.returned g.H.Door.Listen.faults in
    let store : g.row.B.Denot → StoreView = store_view g.B.Blocks.held g.B.Blocks.faults g.B.Blocks.misses g.B.Blocks.missed in (
      taken_one (map (worker_view show) c.args.workers.items) (map (worker_view show) c.loop-worker.worker-iterator.rest.items)
          (map (worker_view show) c.next.new.self.rest.items) (worker_view show c.in-Some.worker) c.loop-worker.seats.items c.push_reserved.new.self.items
          (g.H.Host.returned c.args.host.now) (g.H.Host.returned c.loop-worker.host) (g.H.Host.returned c.shut.new.self) c.loop-worker.any_failed _
          c.loop-worker.invariant.0 (ap (map (worker_view show)) c.in-Some.ensures.steps.0) c.push_reserved.ensures.items c.shut.ensures.returned
          c.shut.ensures.told refl,
      c.push_reserved.ensures.capacity ∙ c.loop-worker.invariant.1,
      c.shut.ensures.opened ∙ c.loop-worker.invariant.2,
      c.shut.ensures.faults ∙ c.loop-worker.invariant.3,
      moved_back store store_of c.loop-worker.stores.items c.push_reserved-in-loop-worker.new.self.items c.in-Some.worker.blocks
          (map (worker_view show) c.loop-worker.worker-iterator.rest.items) (map (worker_view show) c.next.new.self.rest.items)
          (worker_view show c.in-Some.worker) (map store_of (map (worker_view show) c.args.workers.items)) c.push_reserved-in-loop-worker.ensures.items
          (ap (map (worker_view show)) c.in-Some.ensures.steps.0) refl c.loop-worker.invariant.4,
      c.push_reserved-in-loop-worker.ensures.capacity ∙ c.loop-worker.invariant.5,
      one_pushed c.loop-worker.stores.items c.push_reserved-in-loop-worker.new.self.items c.in-Some.worker.blocks c.loop-worker.seats.items
          c.push_reserved.new.self.items c.in-Some.worker.seat c.push_reserved-in-loop-worker.ensures.items c.push_reserved.ensures.items
          c.loop-worker.invariant.6,
    )

pub returns-clause-returned : goal.returns-clause-returned
returns-clause-returned g c =
    let show : PartViews g.row.B.Denot g.row.H-Time.Denot g.row.H-Door.Denot = part_views g.B.Blocks.held g.B.Blocks.faults g.B.Blocks.misses
    g.B.Blocks.missed g.H.Time.Clock.readings g.H.Door.Listen.accepted g.H.Door.Listen.returned g.H.Door.Listen.faults in
    back_all (map (worker_view show) c.args.workers.items) (map (worker_view show) c.loop-worker.worker-iterator.rest.items)
    c.loop-worker.seats.items (g.H.Host.returned c.args.host.now) (g.H.Host.returned c.loop-worker.host) c.loop-worker.any_failed
    c.loop-worker.invariant.0
    (ap (map (worker_view show))
    (nil_from_length c.loop-worker.worker-iterator.rest.items (sym c.loop-worker.worker-iterator.rest.ok.0 ∙ c.in-None.ensures.steps.0)))

pub returns-clause-seats : goal.returns-clause-seats
returns-clause-seats g c =
    let show : PartViews g.row.B.Denot g.row.H-Time.Denot g.row.H-Door.Denot = part_views g.B.Blocks.held g.B.Blocks.faults g.B.Blocks.misses
    g.B.Blocks.missed g.H.Time.Clock.readings g.H.Door.Listen.accepted g.H.Door.Listen.returned g.H.Door.Listen.faults in
    seats_all (map (worker_view show) c.args.workers.items) (map (worker_view show) c.loop-worker.worker-iterator.rest.items)
    c.loop-worker.seats.items (g.H.Host.returned c.args.host.now) (g.H.Host.returned c.loop-worker.host) c.loop-worker.any_failed
    c.loop-worker.invariant.0
    (ap (map (worker_view show))
    (nil_from_length c.loop-worker.worker-iterator.rest.items (sym c.loop-worker.worker-iterator.rest.ok.0 ∙ c.in-None.ensures.steps.0)))

pub returns-clause-stores : goal.returns-clause-stores
returns-clause-stores g c =
    let show : PartViews g.row.B.Denot g.row.H-Time.Denot g.row.H-Door.Denot = part_views g.B.Blocks.held g.B.Blocks.faults g.B.Blocks.misses
    g.B.Blocks.missed g.H.Time.Clock.readings g.H.Door.Listen.accepted g.H.Door.Listen.returned g.H.Door.Listen.faults in
    let store : g.row.B.Denot → StoreView = store_view g.B.Blocks.held g.B.Blocks.faults g.B.Blocks.misses g.B.Blocks.missed in
    none_left store store_of c.loop-worker.stores.items (map (worker_view show) c.loop-worker.worker-iterator.rest.items)
    (map store_of (map (worker_view show) c.args.workers.items))
    (length-map c.loop-worker.worker-iterator.rest.items (worker_view show) ∙ sym c.loop-worker.worker-iterator.rest.ok.0 ∙ c.in-None.ensures.steps.0)
    c.loop-worker.invariant.4

pub returns-clause-tells : goal.returns-clause-tells
returns-clause-tells g c =
    let show : PartViews g.row.B.Denot g.row.H-Time.Denot g.row.H-Door.Denot = part_views g.B.Blocks.held g.B.Blocks.faults g.B.Blocks.misses
    g.B.Blocks.missed g.H.Time.Clock.readings g.H.Door.Listen.accepted g.H.Door.Listen.returned g.H.Door.Listen.faults in
    tells_all (map (worker_view show) c.args.workers.items) (map (worker_view show) c.loop-worker.worker-iterator.rest.items)
    c.loop-worker.seats.items (g.H.Host.returned c.args.host.now) (g.H.Host.returned c.loop-worker.host) c.loop-worker.any_failed
    c.loop-worker.invariant.0
    (ap (map (worker_view show))
    (nil_from_length c.loop-worker.worker-iterator.rest.items (sym c.loop-worker.worker-iterator.rest.ok.0 ∙ c.in-None.ensures.steps.0)))

pub returns-clause-opened : goal.returns-clause-opened
returns-clause-opened g c = c.loop-worker.invariant.2
