use native.Mathlib.Omega.{arith}
use Rattle.std.proofs.Common.{◌≡◌, All, length, map, inl, inr, Err, if◌then◌else◌, sym, ◌∙◌, ap, subst, refl}
use Rattle.std.proofs.lemmas.List.{length-map}
use Rattle.core_puts.specs.KeeperViews.{KeeperView}
use Rattle.shared_lake.specs.SeatSteps.{Finds, LakeSeat}
use Rattle.lake_server.specs.ServedConnections.{PartViews, WorkerView, part_views, worker_view}
use Rattle.lake_host.specs.Doors.{door_of, door_view}
use Rattle.lake_host.specs.declared.server.ServerEnd.TheVariants.{Done, Failed}
use Rattle.lake_host.proofs.ServerLemmas.{all_mapped, all_ready, as_many, back_since, opened_so, origins_found, origins_stay, out_still, turns_stay, unlistened}
use Rattle.lake_host.proofs.server.serve_listeners.Goals as goal

pub serve_all-workers-requires-after_bounds : goal.serve_all-workers-requires-after_bounds
serve_all-workers-requires-after_bounds g c κs within =
    let show : PartViews g.row.B.Denot g.row.H-Time.Denot g.row.H-Door.Denot = part_views g.B.Blocks.held g.B.Blocks.faults g.B.Blocks.misses
    g.B.Blocks.missed g.H.Time.Clock.readings g.H.Door.Listen.accepted g.H.Door.Listen.returned g.H.Door.Listen.faults in
    all_ready show c.args.lake c.args.connections (length c.args.seats.items) 0 c.args.seats.items c.hire-workers.result.items
    c.hire-workers.ensures.begun c.requires.own

pub dismiss-failed-requires-clause-room : goal.dismiss-failed-requires-clause-room
dismiss-failed-requires-clause-room g c κs within =
    let show : PartViews g.row.B.Denot g.row.H-Time.Denot g.row.H-Door.Denot = part_views g.B.Blocks.held g.B.Blocks.faults g.B.Blocks.misses
    g.B.Blocks.missed g.H.Time.Clock.readings g.H.Door.Listen.accepted g.H.Door.Listen.returned g.H.Door.Listen.faults in
    let count : length (map (worker_view show) c.serve_all-workers.result.items) ≡ length c.args.seats.items =
    as_many c.args.connections (length c.args.seats.items) 0 c.args.seats.items (map (worker_view show) c.hire-workers.result.items)
    (map (worker_view show) c.serve_all-workers.result.items) c.hire-workers.ensures.begun c.serve_all-workers.ensures in
    let mapped : length (map (worker_view show) c.serve_all-workers.result.items) ≡ length c.serve_all-workers.result.items =
    length-map c.serve_all-workers.result.items (worker_view show) in
    omega (arith, count, mapped, c.serve_all-workers.result.ok.0, c.args.seats.ok.0, c.len-2.ensures, c.in-Ok-with_capacity.ensures.capacity)

pub dismiss-failed-requires-clause-place : goal.dismiss-failed-requires-clause-place
dismiss-failed-requires-clause-place g c κs within =
    let show : PartViews g.row.B.Denot g.row.H-Time.Denot g.row.H-Door.Denot = part_views g.B.Blocks.held g.B.Blocks.faults g.B.Blocks.misses
    g.B.Blocks.missed g.H.Time.Clock.readings g.H.Door.Listen.accepted g.H.Door.Listen.returned g.H.Door.Listen.faults in
    let count : length (map (worker_view show) c.serve_all-workers.result.items) ≡ length c.args.seats.items =
    as_many c.args.connections (length c.args.seats.items) 0 c.args.seats.items (map (worker_view show) c.hire-workers.result.items)
    (map (worker_view show) c.serve_all-workers.result.items) c.hire-workers.ensures.begun c.serve_all-workers.ensures in
    let mapped : length (map (worker_view show) c.serve_all-workers.result.items) ≡ length c.serve_all-workers.result.items =
    length-map c.serve_all-workers.result.items (worker_view show) in
    omega (arith, count, mapped, c.serve_all-workers.result.ok.0, c.args.seats.ok.0, c.len-3.ensures, c.in-Ok-with_capacity-2.ensures.capacity)

pub dismiss-failed-requires-clause-out : goal.dismiss-failed-requires-clause-out
dismiss-failed-requires-clause-out g c κs within =
    let show : PartViews g.row.B.Denot g.row.H-Time.Denot g.row.H-Door.Denot = part_views g.B.Blocks.held g.B.Blocks.faults g.B.Blocks.misses
    g.B.Blocks.missed g.H.Time.Clock.readings g.H.Door.Listen.accepted g.H.Door.Listen.returned g.H.Door.Listen.faults in
    let count : length (map (worker_view show) c.serve_all-workers.result.items) ≡ length c.args.seats.items =
    as_many c.args.connections (length c.args.seats.items) 0 c.args.seats.items (map (worker_view show) c.hire-workers.result.items)
    (map (worker_view show) c.serve_all-workers.result.items) c.hire-workers.ensures.begun c.serve_all-workers.ensures in
    let mapped : length (map (worker_view show) c.serve_all-workers.result.items) ≡ length c.serve_all-workers.result.items =
    length-map c.serve_all-workers.result.items (worker_view show) in
    out_still c.len-4.result c.serve_all-workers.result.len (g.H.Host.opened c.listen.new.self) (g.H.Host.opened c.hire-workers.new.host)
    (g.H.Host.returned c.listen.new.self) (g.H.Host.returned c.hire-workers.new.host)
    (omega (arith, count, mapped, c.serve_all-workers.result.ok.0, c.args.seats.ok.0, c.len-4.ensures))
    c.hire-workers.ensures.opened c.hire-workers.ensures.returned c.in-Ok-listen.ensures.out

pub close-requires-in-Ok-listen-clause-some : goal.close-requires-in-Ok-listen-clause-some
close-requires-in-Ok-listen-clause-some g c =
    let show : PartViews g.row.B.Denot g.row.H-Time.Denot g.row.H-Door.Denot = part_views g.B.Blocks.held g.B.Blocks.faults g.B.Blocks.misses
    g.B.Blocks.missed g.H.Time.Clock.readings g.H.Door.Listen.accepted g.H.Door.Listen.returned g.H.Door.Listen.faults in
    let count : length (map (worker_view show) c.serve_all-workers.result.items) ≡ length c.args.seats.items =
    as_many c.args.connections (length c.args.seats.items) 0 c.args.seats.items (map (worker_view show) c.hire-workers.result.items)
    (map (worker_view show) c.serve_all-workers.result.items) c.hire-workers.ensures.begun c.serve_all-workers.ensures in
    let mapped : length (map (worker_view show) c.serve_all-workers.result.items) ≡ length c.serve_all-workers.result.items =
    length-map c.serve_all-workers.result.items (worker_view show) in
    let seats : length c.dismiss-failed.result.1.items
    ≡ length (map (λ (worker : WorkerView). worker.carried.seat) (map (worker_view show) c.serve_all-workers.result.items)) =
    ap length c.dismiss-failed.ensures.seats in
    let same : length (map (λ (worker : WorkerView). worker.carried.seat) (map (worker_view show) c.serve_all-workers.result.items))
    ≡ length (map (worker_view show) c.serve_all-workers.result.items) =
    length-map (map (worker_view show) c.serve_all-workers.result.items) (λ (worker : WorkerView). worker.carried.seat) in
    omega (arith, count, seats, same, c.requires.some)

pub close-requires-in-Ok-listen-clause-own : goal.close-requires-in-Ok-listen-clause-own
close-requires-in-Ok-listen-clause-own g c =
    let show : PartViews g.row.B.Denot g.row.H-Time.Denot g.row.H-Door.Denot = part_views g.B.Blocks.held g.B.Blocks.faults g.B.Blocks.misses
    g.B.Blocks.missed g.H.Time.Clock.readings g.H.Door.Listen.accepted g.H.Door.Listen.returned g.H.Door.Listen.faults in
    let served = c.serve_all-workers.ensures in
    subst (λ seats. All (λ (seat : LakeSeat). seat.turn ≡ c.args.lake) seats) (sym c.dismiss-failed.ensures.seats)
    (turns_stay c.args.lake c.args.connections (length c.args.seats.items) 0 c.args.seats.items (map (worker_view show) c.hire-workers.result.items)
    (map (worker_view show) c.serve_all-workers.result.items) c.hire-workers.ensures.begun served c.requires.own)

pub returns-in-Ok-listen-clause-server : goal.returns-in-Ok-listen-clause-server
returns-in-Ok-listen-clause-server g c =
    let show : PartViews g.row.B.Denot g.row.H-Time.Denot g.row.H-Door.Denot = part_views g.B.Blocks.held g.B.Blocks.faults g.B.Blocks.misses
    g.B.Blocks.missed g.H.Time.Clock.readings g.H.Door.Listen.accepted g.H.Door.Listen.returned g.H.Door.Listen.faults in
    let view : KeeperView g.row.K.Denot = record {
      kept = g.K.Keeper.kept;
      faults = g.K.Keeper.faults;
      calls = g.K.Keeper.calls;
      successes =
          g.K.Keeper.successes;
    } in
    let served = c.serve_all-workers.ensures in
    inl (record {
      begins = map (worker_view show) c.hire-workers.result.items;
      ends = map (worker_view show) c.serve_all-workers.result.items;
      begun = c.hire-workers.ensures.begun;
      begin_with = c.hire-workers.ensures.stores;
      served = served;
      finds = all_mapped (λ seat. Finds view seat c.close-in-Ok-listen.result) (λ (worker : WorkerView). worker.carried.seat)
          (map (worker_view show) c.serve_all-workers.result.items)
          (subst (λ seats. All (λ seat. Finds view seat c.close-in-Ok-listen.result) seats) c.dismiss-failed.ensures.seats c.close-in-Ok-listen.ensures.found);
      end_with = sym c.dismiss-failed.ensures.stores;
      opened = opened_so c.args.at.now (g.H.Host.opened c.args.host.now) (g.H.Host.opened c.listen.new.self) (g.H.Host.opened c.dismiss-failed.new.host)
          (map (door_view g.H.Door.Listen.accepted g.H.Door.Listen.returned g.H.Door.Listen.faults) c.in-Ok-listen.doors.items)
          (map door_of (map (worker_view show) c.hire-workers.result.items))
          c.in-Ok-listen.ensures.opened (c.dismiss-failed.ensures.opened ∙ c.hire-workers.ensures.opened) c.hire-workers.ensures.listeners;
      returned = back_since (g.H.Host.returned c.args.host.now) (g.H.Host.returned c.hire-workers.new.host) (g.H.Host.returned c.dismiss-failed.new.host)
          (map (worker_view show) c.serve_all-workers.result.items) (c.hire-workers.ensures.returned ∙ c.in-Ok-listen.ensures.returned)
          c.dismiss-failed.ensures.returned;
      tells = c.end_of.ensures ∙ ap (λ b. if b then Failed else Done) c.dismiss-failed.ensures.tells;
    })

pub returns-in-Err-clause-server : goal.returns-in-Err-clause-server
returns-in-Err-clause-server g c =
    inr (record {
      finds = c.close-in-Err.ensures.found;
      untouched = refl;
      opened = c.in-Err.ensures.none;
      returned = c.in-Err.ensures.returned;
      why = unlistened c.end_by.result c.in-Err.trouble (g.H.Host.faults c.args.host.now) (g.H.Host.faults c.listen.new.self) c.end_by.ensures
          (λ failed. c.in-Err.ensures.cause.failed (ap Err failed));
    })

pub returns-in-Ok-listen-clause-origin : goal.returns-in-Ok-listen-clause-origin
returns-in-Ok-listen-clause-origin g c =
    let show : PartViews g.row.B.Denot g.row.H-Time.Denot g.row.H-Door.Denot = part_views g.B.Blocks.held g.B.Blocks.faults g.B.Blocks.misses
    g.B.Blocks.missed g.H.Time.Clock.readings g.H.Door.Listen.accepted g.H.Door.Listen.returned g.H.Door.Listen.faults in
    let view : KeeperView g.row.K.Denot = record {
      kept = g.K.Keeper.kept;
      faults = g.K.Keeper.faults;
      calls = g.K.Keeper.calls;
      successes =
          g.K.Keeper.successes;
    } in
    origins_stay view c.close-in-Ok-listen.result c.args.connections (length c.args.seats.items) 0 c.args.seats.items
    (map (worker_view show) c.hire-workers.result.items) (map (worker_view show) c.serve_all-workers.result.items) c.hire-workers.ensures.begun
    c.serve_all-workers.ensures
    (all_mapped (λ seat. Finds view seat c.close-in-Ok-listen.result) (λ (worker : WorkerView). worker.carried.seat)
    (map (worker_view show) c.serve_all-workers.result.items)
    (subst (λ seats. All (λ seat. Finds view seat c.close-in-Ok-listen.result) seats) c.dismiss-failed.ensures.seats c.close-in-Ok-listen.ensures.found))

pub returns-in-Err-clause-origin : goal.returns-in-Err-clause-origin
returns-in-Err-clause-origin g c =
    let view : KeeperView g.row.K.Denot = record {
      kept = g.K.Keeper.kept;
      faults = g.K.Keeper.faults;
      calls = g.K.Keeper.calls;
      successes =
          g.K.Keeper.successes;
    } in
    origins_found view c.close-in-Err.result c.args.seats.items c.close-in-Err.ensures.found
