use native.Mathlib.Omega.{arith}
use Rattle.std.proofs.Common.{◌≡◌, ◌<◌, [], ◌∷◌, ◌+◌, ◌-◌, drop, false, map, length, refl, sym, ◌∙◌, ap, subst, ◌++◌}
use Rattle.std.proofs.lemmas.List.{length-drop, length-map, map-append, nil_from_length}
use Rattle.lake_server.specs.ServedConnections.{PartViews, part_views, worker_view}
use Rattle.lake_server.specs.declared.worker.Worker.{Worker}
use Rattle.lake_host.specs.Doors.{DoorView, door_of, door_view}
use Rattle.lake_host.specs.Workers.{IsBegun, StoreView, store_of, store_view}
use Rattle.lake_host.specs.Shares.{share_of}
use Rattle.lake_host.proofs.HiringLemmas.{HiredSoFar, has_place, hired_all, hired_none, hired_one, moved_on, none_left, one_taken}
use Rattle.lake_host.proofs.hiring.hire.Goals as goal

pub loop-seat-init : goal.loop-seat-init
loop-seat-init g c =
    let show : PartViews g.row.B.Denot g.row.H-Time.Denot g.row.H-Door.Denot = part_views g.B.Blocks.held g.B.Blocks.faults g.B.Blocks.misses
    g.B.Blocks.missed g.H.Time.Clock.readings g.H.Door.Listen.accepted g.H.Door.Listen.returned g.H.Door.Listen.faults in
    let door : g.row.H-Door.Denot → DoorView = door_view g.H.Door.Listen.accepted g.H.Door.Listen.returned g.H.Door.Listen.faults in
    let store : g.row.B.Denot → StoreView = store_view g.B.Blocks.held g.B.Blocks.faults g.B.Blocks.misses g.B.Blocks.missed in (
      hired_none c.args.connections c.args.seats.items c.into_iter-seat-iterator.result.rest.items (map (worker_view show) c.args.workers.items)
          (length c.from-doors.result.items) c.into_iter-seat-iterator.ensures.into_iter_gives.0 (ap (map (worker_view show)) c.requires.empty)
          (ap length c.from-doors.ensures.0 ∙ c.requires.doors),
      refl,
      refl,
      refl,
      refl,
      ap (λ workers. map door_of (map (worker_view show) workers) ++ map door c.from-doors.result.items) c.requires.empty
          ∙ ap (map door) c.from-doors.ensures.0,
      ap (λ workers. map store_of (map (worker_view show) workers) ++ map store c.from-stores.result.items) c.requires.empty
          ∙ ap (map store) c.from-stores.ensures.0,
      ap length c.from-stores.ensures.0 ∙ c.requires.stores ∙ sym (ap length c.from-doors.ensures.0 ∙ c.requires.doors),
    )

pub unreachable-requires : goal.unreachable-requires
unreachable-requires g c =
    let far = c.loop-seat.invariant.0 in
    let left : length c.loop-seat.doors.items ≡ length c.loop-seat.seat-iterator.rest.items = far.doors_left in
    let stores : length c.loop-seat.stores.items ≡ length c.loop-seat.doors.items = c.loop-seat.invariant.7 in
    let more : length c.loop-seat.seat-iterator.rest.items ≡ length (c.in-Some.seat ∷ c.next.new.self.rest.items) = ap length c.in-Some.ensures.steps.0 in
    let same : length c.loop-seat.stores.items ≡ length c.pop_front.new.self.items = ap length c.in_default.ensures.items in
    let one : length c.pop_front.new.self.items ≡ length (drop 1 c.loop-seat.stores.items) = ap length c.in_default.ensures.rest in
    let fewer : length (drop 1 c.loop-seat.stores.items) ≡ length c.loop-seat.stores.items - 1 = length-drop 1 c.loop-seat.stores.items in
    omega (arith, left, stores, more, same, one, fewer)

pub unreachable-requires-in_default-pop_front : goal.unreachable-requires-in_default-pop_front
unreachable-requires-in_default-pop_front g c =
    let far = c.loop-seat.invariant.0 in
    let left : length c.loop-seat.doors.items ≡ length c.loop-seat.seat-iterator.rest.items = far.doors_left in
    let more : length c.loop-seat.seat-iterator.rest.items ≡ length (c.in-Some.seat ∷ c.next.new.self.rest.items) = ap length c.in-Some.ensures.steps.0 in
    let same : length c.loop-seat.doors.items ≡ length c.pop_front-in-loop-seat.new.self.items = ap length c.in_default-pop_front.ensures.items in
    let one : length c.pop_front-in-loop-seat.new.self.items ≡ length (drop 1 c.loop-seat.doors.items) = ap length c.in_default-pop_front.ensures.rest in
    let fewer : length (drop 1 c.loop-seat.doors.items) ≡ length c.loop-seat.doors.items - 1 = length-drop 1 c.loop-seat.doors.items in
    omega (arith, left, more, same, one, fewer)

pub push_reserved-requires : goal.push_reserved-requires
push_reserved-requires g c =
    let show : PartViews g.row.B.Denot g.row.H-Time.Denot g.row.H-Door.Denot = part_views g.B.Blocks.held g.B.Blocks.faults g.B.Blocks.misses
    g.B.Blocks.missed g.H.Time.Clock.readings g.H.Door.Listen.accepted g.H.Door.Listen.returned g.H.Door.Listen.faults in
    let far = c.loop-seat.invariant.0 in
    let begun = map (worker_view show) c.loop-seat.workers.items in
    let place : length begun < length c.args.seats.items =
    has_place c.args.connections c.args.seats.items c.loop-seat.seat-iterator.rest.items c.next.new.self.rest.items c.in-Some.seat begun
    (length c.loop-seat.doors.items) c.loop-seat.number far c.in-Some.ensures.steps.0 in
    let same : length begun ≡ length c.loop-seat.workers.items = length-map c.loop-seat.workers.items (worker_view show) in
    omega (arith, place, same, c.requires.room, c.loop-seat.invariant.1)

pub overflow_add-number : goal.overflow_add-number
overflow_add-number g c =
    let show : PartViews g.row.B.Denot g.row.H-Time.Denot g.row.H-Door.Denot = part_views g.B.Blocks.held g.B.Blocks.faults g.B.Blocks.misses
    g.B.Blocks.missed g.H.Time.Clock.readings g.H.Door.Listen.accepted g.H.Door.Listen.returned g.H.Door.Listen.faults in
    let far = c.loop-seat.invariant.0 in
    let begun = map (worker_view show) c.loop-seat.workers.items in
    let place : length begun < length c.args.seats.items =
    has_place c.args.connections c.args.seats.items c.loop-seat.seat-iterator.rest.items c.next.new.self.rest.items c.in-Some.seat begun
    (length c.loop-seat.doors.items) c.loop-seat.number far c.in-Some.ensures.steps.0 in
    omega (arith, place, far.counted, far.as_many, c.len-count.ensures, c.len-count.type_inv)

pub loop-seat-preserved : goal.loop-seat-preserved
loop-seat-preserved g c =
    let far = c.loop-seat.invariant.0 in
    let show : PartViews g.row.B.Denot g.row.H-Time.Denot g.row.H-Door.Denot = part_views g.B.Blocks.held g.B.Blocks.faults g.B.Blocks.misses
    g.B.Blocks.missed g.H.Time.Clock.readings g.H.Door.Listen.accepted g.H.Door.Listen.returned g.H.Door.Listen.faults in
    let door : g.row.H-Door.Denot → DoorView = door_view g.H.Door.Listen.accepted g.H.Door.Listen.returned g.H.Door.Listen.faults in
    let store : g.row.B.Denot → StoreView = store_view g.B.Blocks.held g.B.Blocks.faults g.B.Blocks.misses g.B.Blocks.missed in
    let worker : Worker g.row.B.Denot g.row.H-Time.Denot g.row.H-Door.Denot = record {
      seat = c.in-Some.seat;
      blocks = c.in-Some-pop_front.blocks;
      clock = c.clock.result;
      listener = c.in-Some-pop_front-2.listener;
      connections = c.share_of.result;
      served = 0;
      failed = false;
    } in
    let is : IsBegun c.in-Some.seat c.share_of.result (worker_view show worker) = record {
      seat = refl;
      connections = refl;
      served = refl;
      failed = refl;
    } in
    let one = hired_one c.args.connections c.args.seats.items c.loop-seat.seat-iterator.rest.items c.next.new.self.rest.items c.in-Some.seat
    (map (worker_view show) c.loop-seat.workers.items) (worker_view show worker) (length c.loop-seat.doors.items)
    (length c.pop_front-in-loop-seat.new.self.items) c.loop-seat.number far c.in-Some.ensures.steps.0
    (ap length c.in-Some-pop_front-2.ensures.items)
    (subst (λ share. IsBegun c.in-Some.seat share (worker_view show worker))
    (c.share_of.ensures ∙ ap (λ n. share_of c.args.connections n c.loop-seat.number) (c.len-count.ensures ∙ c.args.seats.ok.0)) is) in (
      subst (λ begun. HiredSoFar c.args.connections c.args.seats.items c.next.new.self.rest.items begun (length c.pop_front-in-loop-seat.new.self.items)
          (c.loop-seat.number + 1))
          (sym (map-append (worker_view show) c.loop-seat.workers.items (worker ∷ [])) ∙ ap (map (worker_view show)) (sym c.push_reserved.ensures.items)) one,
      c.push_reserved.ensures.capacity ∙ c.loop-seat.invariant.1,
      c.clock.ensures.opened ∙ c.loop-seat.invariant.2,
      c.clock.ensures.returned ∙ c.loop-seat.invariant.3,
      c.clock.ensures.faults ∙ c.loop-seat.invariant.4,
      moved_on (worker_view show) door_of door c.loop-seat.workers.items c.push_reserved.new.self.items worker c.loop-seat.doors.items
          c.pop_front-in-loop-seat.new.self.items c.in-Some-pop_front-2.listener (map door c.args.doors.items) c.push_reserved.ensures.items
          c.in-Some-pop_front-2.ensures.items refl c.loop-seat.invariant.5,
      moved_on (worker_view show) store_of store c.loop-seat.workers.items c.push_reserved.new.self.items worker c.loop-seat.stores.items
          c.pop_front.new.self.items c.in-Some-pop_front.blocks (map store c.args.stores.items) c.push_reserved.ensures.items
          c.in-Some-pop_front.ensures.items refl c.loop-seat.invariant.6,
      one_taken c.loop-seat.stores.items c.pop_front.new.self.items c.in-Some-pop_front.blocks c.loop-seat.doors.items
          c.pop_front-in-loop-seat.new.self.items c.in-Some-pop_front-2.listener c.in-Some-pop_front.ensures.items c.in-Some-pop_front-2.ensures.items
          c.loop-seat.invariant.7,
    )

pub returns-clause-begun : goal.returns-clause-begun
returns-clause-begun g c =
    let show : PartViews g.row.B.Denot g.row.H-Time.Denot g.row.H-Door.Denot = part_views g.B.Blocks.held g.B.Blocks.faults g.B.Blocks.misses
    g.B.Blocks.missed g.H.Time.Clock.readings g.H.Door.Listen.accepted g.H.Door.Listen.returned g.H.Door.Listen.faults in
    hired_all c.args.connections c.args.seats.items c.loop-seat.seat-iterator.rest.items (map (worker_view show) c.loop-seat.workers.items)
    (length c.loop-seat.doors.items) c.loop-seat.number
    c.loop-seat.invariant.0 (nil_from_length c.loop-seat.seat-iterator.rest.items (sym c.loop-seat.seat-iterator.rest.ok.0 ∙ c.in-None.ensures.steps.0))

pub returns-clause-listeners : goal.returns-clause-listeners
returns-clause-listeners g c =
    let show : PartViews g.row.B.Denot g.row.H-Time.Denot g.row.H-Door.Denot = part_views g.B.Blocks.held g.B.Blocks.faults g.B.Blocks.misses
    g.B.Blocks.missed g.H.Time.Clock.readings g.H.Door.Listen.accepted g.H.Door.Listen.returned g.H.Door.Listen.faults in
    let door : g.row.H-Door.Denot → DoorView = door_view g.H.Door.Listen.accepted g.H.Door.Listen.returned g.H.Door.Listen.faults in
    let left : length c.loop-seat.doors.items ≡ length c.loop-seat.seat-iterator.rest.items = c.loop-seat.invariant.0.doors_left in
    let none : length c.loop-seat.seat-iterator.rest.items ≡ 0 = sym c.loop-seat.seat-iterator.rest.ok.0 ∙ c.in-None.ensures.steps.0 in
    none_left door_of door (map (worker_view show) c.loop-seat.workers.items) c.loop-seat.doors.items (map door c.args.doors.items) (left ∙ none)
    c.loop-seat.invariant.5

pub returns-clause-stores : goal.returns-clause-stores
returns-clause-stores g c =
    let show : PartViews g.row.B.Denot g.row.H-Time.Denot g.row.H-Door.Denot = part_views g.B.Blocks.held g.B.Blocks.faults g.B.Blocks.misses
    g.B.Blocks.missed g.H.Time.Clock.readings g.H.Door.Listen.accepted g.H.Door.Listen.returned g.H.Door.Listen.faults in
    let store : g.row.B.Denot → StoreView = store_view g.B.Blocks.held g.B.Blocks.faults g.B.Blocks.misses g.B.Blocks.missed in
    let left : length c.loop-seat.doors.items ≡ length c.loop-seat.seat-iterator.rest.items = c.loop-seat.invariant.0.doors_left in
    let none : length c.loop-seat.seat-iterator.rest.items ≡ 0 = sym c.loop-seat.seat-iterator.rest.ok.0 ∙ c.in-None.ensures.steps.0 in
    none_left store_of store (map (worker_view show) c.loop-seat.workers.items) c.loop-seat.stores.items (map store c.args.stores.items)
    (c.loop-seat.invariant.7 ∙ left ∙ none) c.loop-seat.invariant.6

pub returns-clause-opened : goal.returns-clause-opened
returns-clause-opened g c = c.loop-seat.invariant.2

pub returns-clause-returned : goal.returns-clause-returned
returns-clause-returned g c = c.loop-seat.invariant.3

pub returns-clause-faults : goal.returns-clause-faults
returns-clause-faults g c = c.loop-seat.invariant.4
