use Rattle.lake_values.proofs.ResetLemmas.{get_reset, reset_all, reset_empty, reset_object}
use Rattle.lake_values.proofs.changes.law_of_reset.Goals as goal

pub returns : goal.returns
returns c = record { left = get_reset; all = reset_all; empty = reset_empty; object = reset_object }
