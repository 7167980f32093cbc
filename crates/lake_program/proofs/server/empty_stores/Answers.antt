use Rattle.std.specs.FinMap.{empty}
use Rattle.lake_program.proofs.ServerLemmas.{alike_more}
use Rattle.lake_program.proofs.server.empty_stores.Goals as goal

pub loop-preserved : goal.loop-preserved
loop-preserved c =
    alike_more (record { held = empty; misses = 0; missed = 0 }) c.loop.counter c.loop.stores.items c.push.new.self.items c.new.result c.loop.invariant
    c.new.ensures c.in_ok-push.ensures.items
