-- The tree of a map, range by range.
use Rattle.std.proofs.Common.{◌≡◌, ◌<◌, ◌^◌, List, [], ◌∷◌, ◌++◌, length, sym, ap, subst, ◌∙◌, append_assoc, append-nil, arith}
use Rattle.std.specs.List.{AllByRecursion}
use Rattle.std.specs.FinMap.{entries, from_sorted, entries_sorted, len-entries}
use Rattle.lake_base.specs.Maps.{byte_order, HasAscendingKeys}
use Rattle.lake_base.proofs.MapsLemmas.{same_again}
use Rattle.lake_values.specs.KeyMap.{KeyMapValue}
use Rattle.lake_format.specs.Spelling.{IsRow, IsRange}
use Rattle.lake_format.specs.Cutting.{ranges, files}
use Rattle.lake_format.specs.declared.cut.Cut.{Cut}
use Rattle.lake_format.proofs.CutLemmas.{ranges_none}
use Rattle.range_file.specs.Rows.{RowValue}
use Rattle.meta_range.specs.Ranges.{rows_of, files_of, tree_of, AreRanges}
use Rattle.meta_range.specs.Files.{FitsTree}
use Rattle.meta_range.proofs.RangesLemmas.{rows_within, rows_of_cut}

-- one more range
pub one_more : (old rest all : List (List RowValue)) (new : List (List RowValue)) (copy range : List RowValue) (more : List (List RowValue)) → old ++ rest ≡ all
    → rest ≡ range ∷ more → new ≡ old ++ copy ∷ [] → copy ≡ range → new ++ more ≡ all
one_more old rest all new copy range more so_far is pushed same =
    ap (λ l. l ++ more) pushed ∙ append_assoc old (copy ∷ []) more ∙ ap (λ r. old ++ r ∷ more) same ∙ sym (ap (λ l. old ++ l) is) ∙ so_far

-- all of them, once no row is left
pub all_made : (cut : Cut) (rows rest : List RowValue) (made : List (List RowValue)) → rest ≡ [] → made ++ ranges cut rest ≡ ranges cut rows
    → made ≡ ranges cut rows
all_made cut rows rest made none so_far = sym (append-nil made) ∙ sym (ap (λ l. made ++ l) (ap (ranges cut) none ∙ ranges_none cut)) ∙ so_far

-- what is known once they are made
pub record IsMade (cut : Cut) (objects : KeyMapValue) (made : List (List RowValue)) : Type 0 where
  pub are : AreRanges made
  pub map : (tree_of made).map ≡ objects
  pub files_are : (tree_of made).files ≡ files cut objects
  pub limits : FitsTree objects

pub is_made : (cut : Cut) (objects : KeyMapValue) (rows : List RowValue) (made : List (List RowValue)) → rows ≡ entries objects → length rows < 2 ^ 32
    → made ≡ ranges cut rows → AllByRecursion IsRange made → IsMade cut objects made
unfolding files
is_made cut objects rows made is few all each =
    let together : rows_of made ≡ entries objects = ap rows_of all ∙ rows_of_cut cut rows ∙ is in
    let long : length (entries objects) < 2 ^ 32 = subst (λ l. length l < 2 ^ 32) is few in
    record {
      are = record {
        each = each;
        ascend = subst HasAscendingKeys (sym together) (entries_sorted objects);
        few = subst (λ l. length l < 2 ^ 32) (sym together) long;
      };
      map = ap (from_sorted {R = byte_order}) together ∙ same_again objects;
      files_are = ap files_of (all ∙ ap (ranges cut) is);
      limits = record { each = subst (AllByRecursion IsRow) together (rows_within made each); few = omega (arith, len-entries objects, long) };
    }
