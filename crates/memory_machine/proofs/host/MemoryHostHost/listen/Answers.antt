use Rattle.std.proofs.Common.{ℕ, List, [], ◌∷◌, ◌++◌, ap, ◌∙◌}
use Rattle.memory_machine.specs.declared.host.Opening.{Opening}
use Rattle.memory_machine.specs.HostsInMemory.{connections_in, opened_afresh}
use Rattle.memory_machine.proofs.HostLemmas.{dropped, opens_all, opens_fresh}
use Rattle.memory_machine.proofs.host.MemoryHostHost.listen.Goals as goal

pub returns-clause-count : goal.returns-clause-count
returns-clause-count c = opens_all c.args.doors (connections_in c.self.inside.waiting.items) _ c.in_ok-listeners.ensures.dealt

pub returns-clause-opened : goal.returns-clause-opened
returns-clause-opened c =
    let one : Opening = record { at = c.in_ok-at.at; doors = c.args.doors } in
    rw (← c.self.view_is)
    (opens_fresh (λ (opening : Opening). opened_afresh opening.at opening.doors) c.self.inside.openings.items c.push_reserved.new.self.items one
    (c.push_reserved.ensures.items ∙ ap (λ (openings : List Opening). openings ++ one ∷ []) c.reserve.ensures.items) c.args.at.now c.args.doors
    (ap (λ (at : List ℕ). opened_afresh at c.args.doors) c.in_ok-at.ensures.equal) (connections_in c.self.inside.waiting.items) _
    c.in_ok-listeners.ensures.dealt)

pub returns-clause-dealt : goal.returns-clause-dealt
returns-clause-dealt c =
    rw (← c.self.view_is) (
      c.in_ok-listeners.ensures.dealt,
      ap connections_in c.in_ok-listeners.ensures.others ∙ dropped c.args.doors c.self.inside.waiting.items,
    )
