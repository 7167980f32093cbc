use native.Mathlib.Omega.{arith}
use Rattle.std.proofs.Common.{map, sym, subst}
use Rattle.lake_server.specs.ServedConnections.{PartViews, part_views, worker_view}
use Rattle.lake_server.specs.Workers.{HaveServed}
use Rattle.lake_host.proofs.ServerLemmas.{refilled}
use Rattle.lake_host.proofs.server.serve_all.Goals as goal

pub returns : goal.returns
returns g c =
    let show : PartViews g.row.B.Denot g.row.C.Denot g.row.L.Denot = part_views g.B.Blocks.held g.B.Blocks.faults g.B.Blocks.misses g.B.Blocks.missed
    g.C.Clock.readings g.L.Listen.accepted g.L.Listen.returned g.L.Listen.faults in
    subst (λ workers. HaveServed (map (worker_view show) c.args.workers.items) (map (worker_view show) workers))
    (sym (refilled c.args.workers.len c.serve_workers.new.workers c.args.workers.items c.args.workers.ok.0 (omega arith)))
    (subst (λ workers. HaveServed (map (worker_view show) workers) (map (worker_view show) c.serve_workers.new.workers))
    c.as_mut_slice.ensures.value c.serve_workers.ensures)
