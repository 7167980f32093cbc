use Rattle.std.proofs.Common.{length, ◌∙◌, ap}
use Rattle.std.specs.FinMap.{empty_of_len, len-entries}
use Rattle.keeper.specs.Keepers.{entries_of}
use Rattle.fresh_lakes.proofs.FreshLemmas.{founds_but_for_memory}
use Rattle.fresh_lakes.proofs.fresh.founded.Goals as goal

pub founded-requires-clause-none : goal.founded-requires-clause-none
founded-requires-clause-none c =
    empty_of_len c.holding-keeper.result (len-entries c.holding-keeper.result ∙ ap length (c.holding-keeper.ensures ∙ ap entries_of c.new.ensures.items))

pub opening_fault-requires : goal.opening_fault-requires
opening_fault-requires c = founds_but_for_memory _ c.holding-keeper.result c.in-Err.field-0-1 c.in-Err.fault c.in-Err.ensures
