use Rattle.std.specs.FinMap.{entries_sorted}
use Rattle.lake_values.specs.KeyMap.{differences}
use Rattle.lake_values.proofs.KeyMapLemmas.{get_differences, apply_differences, no_difference, least_difference}
use Rattle.lake_values.proofs.key_map.law_of_differences.Goals as goal

pub returns : goal.returns
returns c = record {
  changes = get_differences;
  applied = apply_differences;
  none = no_difference;
  ascend = λ new old. entries_sorted (differences new old);
  least = least_difference;
}
