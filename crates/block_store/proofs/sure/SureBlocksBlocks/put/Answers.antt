use Rattle.std.proofs.Common.{◌≡◌, ◌∙◌, ap, Some}
use Rattle.block_store.proofs.SureLemmas.{insert-from}
use Rattle.block_store.proofs.sure.SureBlocksBlocks.put.Goals as goal

pub returns-clause-put : goal.returns-clause-put
returns-clause-put c =
    let same : c.of.result ≡ c.args.bytes.now = c.of.ensures ∙ c.in_ok-copy.ensures.items in
    rw (← c.self.view_is, ← same)
    (ap (λ m. Some m)
    (insert-from c.self.inside.objects.entries c.insert.new.self.entries c.args.number c.of.result c.in_ok-insert.ensures.updates.0))
