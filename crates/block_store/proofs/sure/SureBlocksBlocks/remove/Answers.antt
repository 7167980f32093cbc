use Rattle.std.proofs.Common.{◌∙◌, ap, sym}
use Rattle.std.specs.Prelude.{is_some}
use Rattle.block_store.proofs.SureLemmas.{get-from, remove-from}
use Rattle.block_store.proofs.sure.SureBlocksBlocks.remove.Goals as goal

pub returns-clause-was : goal.returns-clause-was
returns-clause-was c =
    rw (← c.self.view_is)
    (c.is_some-was.ensures ∙ ap is_some (c.remove.ensures.value ∙ sym (get-from c.self.inside.objects.entries c.args.number)))

pub returns-clause-removed : goal.returns-clause-removed
returns-clause-removed c =
    rw (← c.self.view_is)
    (remove-from c.self.inside.objects.entries c.remove.new.self.entries c.args.number c.remove.ensures.updates.0)
