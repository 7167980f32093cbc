use Rattle.std.proofs.Common.{Some, refl}
use Rattle.std.specs.FinMap.{empty}
use Rattle.lake_program.proofs.ServerLemmas.{served_so}
use Rattle.lake_program.proofs.server.serve_host.Goals as goal

pub returns-clause-served : goal.returns-clause-served
returns-clause-served g c =
    served_so (λ blocks. record { held = Some blocks.held; faults = 0; misses = blocks.misses; missed = blocks.missed })
    (record { at = c.args.at.now; service = c.args.service })
    (record { opened = g.H.Host.opened c.args.host.now; returned = g.H.Host.returned c.args.host.now; faults = g.H.Host.faults c.args.host.now })
    (record {
      opened = g.H.Host.opened c.serve_listeners-end.new.host;
      returned = g.H.Host.returned c.serve_listeners-end.new.host;
      faults = g.H.Host.faults
          c.serve_listeners-end.new.host;
    })
    c.in-Ok-fresh_lake.seats.items c.in-Ok.stores.items c.serve_listeners-end.result.2.items (record { held = empty; misses = 0; missed = 0 })
    c.serve_listeners-end.result.1 c.serve_listeners-end.result.0 c.status_of.result (λ blocks. refl) refl c.in-Ok.ensures c.requires
    c.in-Ok-fresh_lake.ensures.fresh c.in-Ok-fresh_lake.ensures.count c.in-Ok-fresh_lake.ensures.alone c.serve_listeners-end.ensures.origin
    c.serve_listeners-end.ensures.stands c.serve_listeners-end.ensures.server c.status_of.ensures
