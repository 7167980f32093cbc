use Rattle.std.proofs.Common.{◌∙◌, ap}
use Rattle.keeper.specs.Keepers.{entries_of}
use Rattle.memory_machine.proofs.FolderLemmas.{no_pairs}
use Rattle.memory_machine.proofs.folders.bare_keeper.Goals as goal

pub returns-clause-none : goal.returns-clause-none
returns-clause-none c = no_pairs _ (c.new.ensures.pairs ∙ ap entries_of c.new-pairs.ensures.items)
