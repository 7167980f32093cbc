-- Look-ups in the graph of a list of commits.
use Rattle.std.proofs.Common.{◌≡◌, ℕ, suc, ◌+◌, ◌<◌, true, false, cond, List, [], ◌∷◌, length, get_or, drop, Some, None, sym, ap, ◌∙◌, add-one, drop-cons}
use Rattle.std.proofs.Math.Seq.{drop-length}
use Rattle.std.specs.Ordering.{eq_by_cmp}
use Rattle.std.specs.Str.{bytes_eq}
use Rattle.std.specs.FinMap.{get-insert, get-empty}
use Rattle.std.proofs.lemmas.Cmp.{nat_list_cmp_total}
use Rattle.std.proofs.lemmas.Map.Text.{is_eq-slice_cmp}
use Rattle.std.proofs.lemmas.Slice.Eq.{bytes_eq-Decides}
use Rattle.lake_values.specs.Commit.{CommitRecordValue}
use Rattle.lake_base.specs.Maps.{byte_order}
use Rattle.lake_values.specs.Ancestry.{graph_of, commit_of}
use Rattle.lake_base.specs.declared.digest.Digest.{Digest}
use Rattle.lake_values.proofs.AncestryLemmas.{otherwise}

-- the bytes of two ids tie exactly if they are the same
tied : (a b : List ℕ) → a ≡ b → eq_by_cmp byte_order a b ≡ true
tied a b e = is_eq-slice_cmp a b ∙ (bytes_eq-Decides a b).1 e

apart : (a b : List ℕ) → (a ≡ b → ⊥) → eq_by_cmp byte_order a b ≡ false
apart a b ne = is_eq-slice_cmp a b ∙ otherwise (bytes_eq a b) (λ t. ne ((bytes_eq-Decides a b).0 t))

-- the first commit, or one of the others
pub of_first : (x : Digest × CommitRecordValue) (cs : List (Digest × CommitRecordValue)) (id : Digest)
    → commit_of (graph_of (x ∷ cs)) id ≡ cond (eq_by_cmp byte_order id.0 x.0.0) (Some x.1) (commit_of (graph_of cs) id)
of_first x cs id = get-insert nat_list_cmp_total (graph_of cs) x.0.0 x.1 id.0

pub first_is : (x : Digest × CommitRecordValue) (cs : List (Digest × CommitRecordValue)) (id : Digest) → x.0.0 ≡ id.0
    → commit_of (graph_of (x ∷ cs)) id ≡ Some x.1
first_is x cs id e = of_first x cs id ∙ ap (λ b. cond b (Some x.1) (commit_of (graph_of cs) id)) (tied id.0 x.0.0 (sym e))

pub first_not : (x : Digest × CommitRecordValue) (cs : List (Digest × CommitRecordValue)) (id : Digest) → (x.0.0 ≡ id.0 → ⊥)
    → commit_of (graph_of (x ∷ cs)) id ≡ commit_of (graph_of cs) id
first_not x cs id ne = of_first x cs id ∙ ap (λ b. cond b (Some x.1) (commit_of (graph_of cs) id)) (apart id.0 x.0.0 (λ e. ne (sym e)))

pub no_commit : (id : Digest) → commit_of (graph_of []) id ≡ None
no_commit id = get-empty byte_order id.0

-- a walk over the list, from the front
module _ (cs : List (Digest × CommitRecordValue)) (id : Digest) (i : ℕ) (seen : commit_of (graph_of cs) id ≡ commit_of (graph_of (drop i cs)) id) where
  pub found_here : (x : Digest × CommitRecordValue) → i < length cs → x ≡ get_or cs i x → bytes_eq x.0.0 id.0 ≡ true → Some x.1 ≡ commit_of (graph_of cs) id
  found_here x lt is same =
      sym (seen ∙ ap (λ l. commit_of (graph_of l) id) (drop-cons cs i x lt ∙ ap (λ y. y ∷ drop (suc i) cs) (sym is))
      ∙ first_is x (drop (suc i) cs) id ((bytes_eq-Decides x.0.0 id.0).0 same))

  pub found_later : (x : Digest × CommitRecordValue) → i < length cs → x ≡ get_or cs i x → bytes_eq x.0.0 id.0 ≡ false
      → commit_of (graph_of cs) id ≡ commit_of (graph_of (drop (i + 1) cs)) id
  found_later x lt is other =
      seen ∙ ap (λ l. commit_of (graph_of l) id) (drop-cons cs i x lt ∙ ap (λ y. y ∷ drop (suc i) cs) (sym is))
      ∙ first_not x (drop (suc i) cs) id (λ e. differ (sym ((bytes_eq-Decides x.0.0 id.0).1 e) ∙ other))
      ∙ ap (λ n. commit_of (graph_of (drop n cs)) id) (sym (add-one i))
    where
      differ : true ≡ false → ⊥
      differ e = cc

  pub found_nowhere : i ≡ length cs → None ≡ commit_of (graph_of cs) id
  found_nowhere e = sym (seen ∙ ap (λ l. commit_of (graph_of l) id) (ap (λ n. drop n cs) e ∙ drop-length cs) ∙ no_commit id)
