use Rattle.std.proofs.Common.{Some, None, cond, sym, ap}
use Rattle.lake_values.specs.Merging.{merged_map, is_refused}
use Rattle.lake_values.proofs.KeyMapLemmas.{apply_differences}
use Rattle.key_merge.proofs.LawLemmas.{no_differences, differences_none}
use Rattle.key_merge.proofs.laws.law_of_merges.Goals as goal

pub returns : goal.returns
returns c = record {
  applied = λ strategy base source dest. apply_differences (merged_map strategy base source dest) dest;
  answer = λ strategy base source dest.
      ap (λ m. cond (is_refused strategy base source dest) None (Some m)) (sym (apply_differences (merged_map strategy base source dest) dest));
  empty =
      λ strategy base source dest. (no_differences (merged_map strategy base source dest) dest, differences_none (merged_map strategy base source dest) dest);
}
