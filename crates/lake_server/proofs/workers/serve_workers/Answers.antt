use native.Mathlib.Omega.{arith}
use Rattle.std.proofs.Crossing.{sync as heap_sync}
use Rattle.shared_lake.proofs.SendLemmas.{shared_sync}
use Rattle.lake_server.specs.ServedConnections.{part_views}
use Rattle.lake_server.proofs.WorkersLemmas.{each_served, lent}
use Rattle.lake_server.proofs.workers.serve_workers.Goals as goal

pub returns : goal.returns
returns g c =
    let views = part_views g.B.Blocks.held g.B.Blocks.faults g.B.Blocks.misses g.B.Blocks.missed g.C.Clock.readings g.L.Listen.accepted g.L.Listen.returned g.L.Listen.faults in
    each_served views _ _ (omega arith) (λ i d within.
    let at = (c.for_each_mut.ensures i d within).1 in
    lent views at.argument_is at.left at.call)

-- the closure has references to the runtime, to the allocator and to the lake
pub for_each_mut-requires-sync-F : goal.for_each_mut-requires-sync-F
for_each_mut-requires-sync-F g c κs within =
    let lake = shared_sync _ g.K.Keeper c.type_bounds.send-K in
    record {
      shared = λ x b o ν. (
        (
          ((λ q. tt), c.type_bounds.sync-W.shared x.0.now x.0.ref_ptr.0 x.0.ref_ptr.1 κs.1.1.1.1.1.1.0),
          (
            ((λ q. tt), heap_sync.shared x.1.now x.1.ref_ptr.0 x.1.ref_ptr.1 κs.1.1.1.1.1.1.1.0),
            (((λ q. tt), lake.shared x.2.now x.2.ref_ptr.0 x.2.ref_ptr.1 κs.1.1.1.1.1.1.1.1.0), tt),
          ),
        ),
        λ q. tt,
      );
    }
