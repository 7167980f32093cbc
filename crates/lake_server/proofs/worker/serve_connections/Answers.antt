use Rattle.std.proofs.Common.{[], ◌∷◌, ◌++◌, ◌∙◌, sym}
use Rattle.lake_server.specs.ServedConnections.{part_views, worker_view}
use Rattle.lake_server.proofs.ServedConnectionsLemmas.{begins, ends_at_number, ends_failed, goes_all, has_more_now, one_more, serves_at, fails_at}
use Rattle.lake_server.proofs.worker.serve_connections.Goals as goal

pub loop-init : goal.loop-init
loop-init g c =
    let views = part_views g.B.Blocks.held g.B.Blocks.faults g.B.Blocks.misses g.B.Blocks.missed g.C.Clock.readings g.L.Listen.accepted g.L.Listen.returned g.L.Listen.faults in
    ([], begins (worker_view views c.args.worker.now) c.requires.served c.requires.failed)

pub returns-then-is_reached : goal.returns-then-is_reached
returns-then-is_reached g c =
    let views = part_views g.B.Blocks.held g.B.Blocks.faults g.B.Blocks.misses g.B.Blocks.missed g.C.Clock.readings g.L.Listen.accepted g.L.Listen.returned g.L.Listen.faults in
    let way = c.loop.invariant in
    ends_at_number (worker_view views c.args.worker.now) (worker_view views c.loop.worker) way.0 way.1
    (rw c.if-is_reached.true at c.is_reached.ensures.reached)

pub serve_one-requires : goal.serve_one-requires
serve_one-requires g c =
    let views = part_views g.B.Blocks.held g.B.Blocks.faults g.B.Blocks.misses g.B.Blocks.missed g.C.Clock.readings g.L.Listen.accepted g.L.Listen.returned g.L.Listen.faults in
    let way = c.loop.invariant in (
      c.type_bounds.send-L-In,
      (
        c.type_bounds.send-L-Out,
        (goes_all (worker_view views c.args.worker.now).carried (worker_view views c.loop.worker).carried way.0 way.1.chain).turn ∙ c.requires.seat,
      ),
    )

pub returns-then-is_err : goal.returns-then-is_err
returns-then-is_err g c =
    let views = part_views g.B.Blocks.held g.B.Blocks.faults g.B.Blocks.misses g.B.Blocks.missed g.C.Clock.readings g.L.Listen.accepted g.L.Listen.returned g.L.Listen.faults in
    let old = worker_view views c.args.worker.now in
    let now = worker_view views c.loop.worker in
    let next = worker_view views c.serve_one.new.worker in
    let way = c.loop.invariant in
    let other = rw c.if-is_reached.false at c.is_reached.ensures.reached in
    ends_failed old now next way.0 way.1 (fails_at now next c.serve_one.result (sym c.is_err.ensures.value ∙ c.if-is_err.true) c.serve_one.ensures.serves)
    c.serve_one.ensures.counting
    (has_more_now old now way.0 way.1 c.is_reached.ensures.fits other)

pub loop-preserved : goal.loop-preserved
loop-preserved g c =
    let views = part_views g.B.Blocks.held g.B.Blocks.faults g.B.Blocks.misses g.B.Blocks.missed g.C.Clock.readings g.L.Listen.accepted g.L.Listen.returned g.L.Listen.faults in
    let old = worker_view views c.args.worker.now in
    let now = worker_view views c.loop.worker in
    let next = worker_view views c.serve_one.new.worker in
    let way = c.loop.invariant in
    let other = rw c.if-is_reached.false at c.is_reached.ensures.reached in
    let one = serves_at now next c.serve_one.result (sym c.is_err.ensures.value ∙ c.if-is_err.false) c.serve_one.ensures.serves in (
      way.0 ++ one.0 ∷ [],
      one_more old now next c.saturating_add-worker.result way.0 one.0 way.1 one.1 c.serve_one.ensures.counting c.saturating_add-worker.ensures
          (has_more_now old now way.0 way.1 c.is_reached.ensures.fits other),
    )
