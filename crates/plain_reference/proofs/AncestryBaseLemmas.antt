-- The first common ancestor of a list, in the order of the log.
use Rattle.std.proofs.Common.{◌≡◌, ℕ, ◌+◌, ◌<◌, ◌≤◌, Bool, true, false, cond, List, length, get_or, Some, None, Option, refl, sym, subst}
use Rattle.std.specs.Option.{MatchOption}
use Rattle.std.specs.List.{AllWithin}
use Rattle.std.proofs.lemmas.List.Elements.{AllWithin-more, at_read}
use Rattle.lake_values.specs.Commit.{CommitRecordValue}
use Rattle.lake_values.specs.Ancestry.{Graph, graph_of, IsCommon, comes_first, IsBase}
use Rattle.lake_base.specs.declared.digest.Digest.{Digest}
use Rattle.plain_reference.specs.AncestrySteps.{first_of}
use Rattle.lake_values.proofs.AncestryOrderLemmas.{not_before_itself, still_after}
use Rattle.plain_reference.proofs.AncestryReachLemmas.{listed, within_contains}

-- the best of the first commits of a list that are ancestors of both
abbrev pub BestOf : Graph → Digest → Digest → List (Digest × CommitRecordValue) → ℕ → Option Digest → Type 0
BestOf g a b cs i None = AllWithin (λ x. IsCommon g a b x.0 → ⊥) cs 0 i
BestOf g a b cs i (Some best) = IsCommon g a b best × AllWithin (λ x. IsCommon g a b x.0 → comes_first g x.0 best ≡ false) cs 0 i

-- ---- the best so far

module _ (g : Graph) (a b : Digest) (cs : List (Digest × CommitRecordValue)) (i : ℕ) (x : Digest × CommitRecordValue) (lt : i < length cs)
    (is : x ≡ get_or cs i x) where
  -- a commit that is no ancestor of both
  pub best_stays : (best : Option Digest) → BestOf g a b cs i best → (IsCommon g a b x.0 → ⊥) → BestOf g a b cs (i + 1) best
  best_stays None all never = AllWithin-more (λ y. IsCommon g a b y.0 → ⊥) cs 0 i all (at_read cs (λ y. IsCommon g a b y.0 → ⊥) i x lt is never)
  best_stays (Some best) (common, all) never = (
    common,
    AllWithin-more (λ y. IsCommon g a b y.0 → comes_first g y.0 best ≡ false) cs 0 i all
        (at_read cs (λ y. IsCommon g a b y.0 → comes_first g y.0 best ≡ false) i x lt is (λ c. absurd (never c))),
  )

  -- an ancestor of both
  pub best_more : (best : Option Digest) → BestOf g a b cs i best → IsCommon g a b x.0 → BestOf g a b cs (i + 1) (Some (first_of g best x.0))
  best_more None all c = (
    c,
    AllWithin-more (λ y. IsCommon g a b y.0 → comes_first g y.0 x.0 ≡ false) cs 0 i (λ k d low high w. absurd (all k d low high w))
        (at_read cs (λ y. IsCommon g a b y.0 → comes_first g y.0 x.0 ≡ false) i x lt is (λ w. not_before_itself g x.0)),
  )
  best_more (Some best) (common, all) c = by (comes_first g x.0 best) refl
    where
      by : (t : Bool) → comes_first g x.0 best ≡ t → BestOf g a b cs (i + 1) (Some (cond t x.0 best))
      by true e = (
        c,
        AllWithin-more (λ y. IsCommon g a b y.0 → comes_first g y.0 x.0 ≡ false) cs 0 i
            (λ k d low high w. still_after g x.0 best (get_or cs k d).0 e (all k d low high w))
            (at_read cs (λ y. IsCommon g a b y.0 → comes_first g y.0 x.0 ≡ false) i x lt is (λ w. not_before_itself g x.0)),
      )
      by false e = (
        common,
        AllWithin-more (λ y. IsCommon g a b y.0 → comes_first g y.0 best ≡ false) cs 0 i all
            (at_read cs (λ y. IsCommon g a b y.0 → comes_first g y.0 best ≡ false) i x lt is (λ w. e)),
      )

-- each ancestor is among the commits
pub best_of_all : (cs : List (Digest × CommitRecordValue)) (a b : Digest) → (i : ℕ) → length cs ≤ i → (best : Option Digest)
    → BestOf (graph_of cs) a b cs i best
    → MatchOption best ((id : Digest) → IsCommon (graph_of cs) a b id → ⊥) (IsBase (graph_of cs) a b)
best_of_all cs a b i end None all =
    λ id c.
    let w = listed cs id c.0.0 in
    within_contains (λ y. IsCommon (graph_of cs) a b y.0 → ⊥) cs i w.0 end all w.1 (subst (IsCommon (graph_of cs) a b) (sym w.2) c)
best_of_all cs a b i end (Some best) (common, all) = record {
  common = common;
  first = λ id c.
      let w = listed cs id c.0.0 in
      subst (λ d. comes_first (graph_of cs) d best ≡ false) w.2 (within_contains
      (λ y. IsCommon (graph_of cs) a b y.0 → comes_first (graph_of cs) y.0 best ≡ false) cs i w.0 end all w.1 (subst (IsCommon (graph_of cs) a b) (sym w.2) c));
}
