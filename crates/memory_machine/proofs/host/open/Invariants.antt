use Rattle.std.proofs.Common.{◌≡◌, map, drop}
use Rattle.memory_machine.specs.HostsInMemory.{connections_in, dealt, fresh_listener}
use Rattle.memory_machine.proofs.host.open.Given as goal

-- so many listeners were dealt to
abbrev pub invariant-loop : goal.invariant-loop
invariant-loop l =
    (l.opened.items ≡ map fresh_listener (dealt l.counter (connections_in l.initial.waiting.items)))
    × (l.waiting.items ≡ drop l.counter l.initial.waiting.items)
