-- The first commit of a repository can be spelled, and the one file of its tree is bytes.
use Rattle.std.proofs.Common.{◌≡◌, ◌<◌, ◌^◌, ℕ, zero, suc, List, [], ◌∷◌, map, codes, arith, refl, sym, ap, subst, ◌∙◌}
use Rattle.std.specs.Prelude.{true}
use Rattle.std.proofs.lemmas.Str.{IsUtf8-from_ascii, is_utf8-from_IsUtf8}
use Rattle.std.proofs.lemmas.Str.Ascii.{IsAscii-from_all}
use Rattle.std.specs.List.{AllByRecursion}
use Rattle.std.specs.Str.{is_utf8}
use Rattle.std.specs.List.Sorted.{IsStrictlySortedBy}
use Rattle.std.proofs.lemmas.List.Elements.{All-from_recursion, All-nil}
use Rattle.std.specs.FinMap.{empty}
use Rattle.lake_values.specs.Pairs.{IsPair}
use Rattle.lake_format.specs.Cutting.{files, tree_id}
use Rattle.lake_format.specs.Spelling.{AreBytes, IsDigest, IsMetadata, IsSpelledCommit, line_of, metarange_spelling}
use Rattle.lake_format.specs.declared.cut.Cut.{Cut}
use Rattle.meta_range.specs.Ranges.{first_file}
use Rattle.meta_range.proofs.RangesLemmas.{is_digest}
use Rattle.core_state.specs.FirstStates.{first_id, first_record}
use Rattle.core_changes.proofs.FoundingLemmas.{no_ranges}

pub first_digest : (cut : Cut) (date : ℕ) → IsDigest (first_id cut date).0
unfolding first_id
first_digest cut date = is_digest _

no_metadata : IsMetadata []
unfolding IsStrictlySortedBy
no_metadata = record { limits = record { few = omega arith; each = All-nil IsPair; ascending = tt }; utf8 = tt }

-- bytes below 128 are UTF-8
ascii_text : (bytes : List ℕ) → AllByRecursion (λ byte. byte < 128) bytes → is_utf8 bytes ≡ true
ascii_text bytes all = is_utf8-from_IsUtf8 bytes (IsUtf8-from_ascii bytes (IsAscii-from_all bytes (All-from_recursion (λ byte. byte < 128) bytes all)))

lakefs_text : is_utf8 (codes "lakefs") ≡ true
lakefs_text = ascii_text (codes "lakefs") (omega arith, (omega arith, (omega arith, (omega arith, (omega arith, (omega arith, tt))))))

created_text : is_utf8 (codes "Repository created") ≡ true
created_text =
    ascii_text (codes "Repository created") (
      omega arith,
      (
        omega arith,
        (
          omega arith,
          (
            omega arith,
            (
              omega arith,
              (
                omega arith,
                (
                  omega arith,
                  (
                    omega arith,
                    (
                      omega arith,
                      (
                        omega arith,
                        (
                          omega arith,
                          (
                            omega arith,
                            (omega arith, (omega arith, (omega arith, (omega arith, (omega arith, (omega arith, tt)))))),
                          ),
                        ),
                      ),
                    ),
                  ),
                ),
              ),
            ),
          ),
        ),
      ),
    )

pub first_spelled : (cut : Cut) (date : ℕ) → date < 2 ^ 64 → IsSpelledCommit (first_record cut date)
unfolding first_record tree_id
first_spelled cut date below = record {
  commit = record { remark = record { some = omega arith; short = omega arith; short_message = omega arith }; counted = omega arith; few = omega arith };
  meta_range = is_digest _;
  parents = tt;
  generation = omega arith;
  date = below;
  committer = lakefs_text;
  message = created_text;
  metadata = no_metadata;
}

five : AreBytes (1 ∷ 0 ∷ 0 ∷ 0 ∷ 0 ∷ [])
five zero = omega arith
five (suc zero) = omega arith
five (suc (suc zero)) = omega arith
five (suc (suc (suc zero))) = omega arith
five (suc (suc (suc (suc zero)))) = omega arith
five (suc (suc (suc (suc (suc i))))) = omega arith

none_spelled : metarange_spelling [] ≡ 1 ∷ 0 ∷ 0 ∷ 0 ∷ 0 ∷ []
unfolding metarange_spelling
none_spelled = refl

first_is : (cut : Cut) → first_file (files cut empty) ≡ metarange_spelling []
unfolding files
first_is cut = ap (λ ranges. metarange_spelling (map line_of ranges)) (no_ranges cut)

pub first_bytes : (cut : Cut) → AreBytes (first_file (files cut empty))
first_bytes cut = subst AreBytes (sym (first_is cut ∙ none_spelled)) five
