use Rattle.std.proofs.Common.{ap, sym, ◌∙◌, ◌≡◌}
use Rattle.keeper.specs.Keepers.{entries_of, pairs_after, pairs_over}
use Rattle.keeper.proofs.SureLemmas.{none_waits}
use Rattle.keeper.proofs.sure.SureKeeperKeeper.put_all.Goals as goal

pub returns-clause-kept : goal.returns-clause-kept
returns-clause-kept c =
    let found = pairs_over (entries_of c.settle.new.given.items) c.settle.new.pairs in
    let before : found ≡ c.args.self.now =
    sym (none_waits c.settle.new.waiting.items found c.in_ok-settle.ensures.waiting) ∙ c.settle.ensures.same ∙ c.self.view_is in
    c.settle-2.ensures.same ∙ ap (λ l. pairs_after l found) c.in_ok-self-inside.ensures ∙ ap (pairs_after c.args.puts.now) before
