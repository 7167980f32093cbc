use Rattle.memory_machine.proofs.HostLemmas.{deals_one, leaves_others}
use Rattle.memory_machine.proofs.host.open.Goals as goal

pub loop-preserved : goal.loop-preserved
loop-preserved c =
    let at = c.args.waiting.now.items in
    let so_far = c.loop.invariant in (
      deals_one c.loop.counter at c.loop.waiting.items so_far.1 c.loop.opened.items c.push.new.self.items _ c.in_ok-new.field-0
          so_far.0 c.next_connections-connections.ensures.next c.in_ok-new.ensures c.in_ok-push.ensures.items,
      leaves_others c.loop.counter at c.loop.waiting.items so_far.1 _ c.next_connections-connections.ensures.others,
    )
