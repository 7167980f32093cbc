-- The paths that begin with a prefix stand next to each other, from the prefix on; and what a reset of the prefix leaves.
use Rattle.std.proofs.Common.{◌≡◌, ℕ, ◌<◌, Bool, true, false, cond, List, [], ◌∷◌, Some, None, Option, refl, sym, ap, subst, ◌∙◌, inl, inr}
use Rattle.std.specs.Bool.{nat_eq}
use Rattle.std.specs.List.{starts_with, slice_get}
use Rattle.std.specs.Map.{lookup}
use Rattle.std.specs.Option.{IsSome, IfSome, is_some}
use Rattle.std.specs.BTreeMap.{BTreeMap}
use Rattle.std.specs.BTreeMap.Range.{IsRangeOf, IsEntryInRange, IsLeBy}
use Rattle.std.specs.declared.ops.Bound.TheVariants.{Included, Unbounded}
use Rattle.std.specs.Ordering.{nat_cmp, ordering_then, is_gt, eq_by_cmp}
use Rattle.std.specs.declared.cmp.Ordering.TheVariants.{Equal, Greater}
use Rattle.std.specs.Cmp.{nat_cmp_is, nat_cmp_total, tied_itself}
use Rattle.std.specs.FinMap.{get, find, remove, get-remove}
use Rattle.std.proofs.lemmas.Bool.{cases_order, and_parts, and_from, eq-eqb, eqb-true}
use Rattle.std.proofs.lemmas.Cmp.{nat_list_cmp_total}
use Rattle.lake_base.specs.Maps.{byte_order}
use Rattle.lake_base.proofs.MapsLemmas.{same_key, tied}
use Rattle.lake_values.specs.KeyMap.{ChangesValue}
use Rattle.lake_values.specs.Reset.{drops_path, changes_after_reset}
use Rattle.lake_values.specs.declared.commit.ResetWhat.{ResetWhat}
use Rattle.lake_values.specs.declared.entry.Change.{Change}
use Rattle.lake_values.proofs.KeyMapLemmas.{same}
use Rattle.lake_values.proofs.ResetLemmas.{get_reset}
use Rattle.branch_record.specs.TokenRows.{IsNoneUnder, IsUnder}
use Rattle.branch_record.proofs.ChangesLemmas.{Rows, find_lookup}

greater : (x y : ℕ) → y < x → nat_cmp x y ≡ Greater
greater x y lt = sym (nat_cmp_is x y Greater lt)

same_byte : (x y : ℕ) → x ≡ y → nat_cmp x y ≡ Equal
same_byte x y e = ap (nat_cmp x) (sym e) ∙ tied_itself nat_cmp_total x

-- a path that begins with a prefix isn't below it
pub not_below : (p r : List ℕ) → starts_with nat_eq r p ≡ true → is_gt (byte_order p r) ≡ false
not_below [] [] e = refl
not_below [] (z ∷ r) e = refl
not_below (x ∷ p) [] e = absurd cc
not_below (x ∷ p) (z ∷ r) e =
    let parts = and_parts (nat_eq x z) (starts_with nat_eq r p) e in
    ap (λ o. is_gt (ordering_then o (byte_order p r))) (same_byte x z (eqb-true x z parts.0)) ∙ not_below p r parts.1

-- what stands between a prefix and a path that begins with it begins with it too
pub between : (p q r : List ℕ) → is_gt (byte_order p q) ≡ false → is_gt (byte_order q r) ≡ false → starts_with nat_eq r p ≡ true → starts_with nat_eq q p ≡ true
between [] q r low high e = refl
between (x ∷ p) [] r low high e = absurd cc
between (x ∷ p) (y ∷ q) [] low high e = absurd cc
between (x ∷ p) (y ∷ q) (z ∷ r) low high e =
    let parts = and_parts (nat_eq x z) (starts_with nat_eq r p) e in
    let begins : x ≡ z = eqb-true x z parts.0 in
    elim (cases_order x y) [
      | inl is ↦
          let there : nat_cmp x y ≡ Equal = same_byte x y is in
          let back : nat_cmp y z ≡ Equal = same_byte y z (sym is ∙ begins) in
          and_from (nat_eq x y) (starts_with nat_eq q p) (eq-eqb x y is)
          (between p q r
          (sym (ap (λ o. is_gt (ordering_then o (byte_order p q))) there) ∙ low)
          (sym (ap (λ o. is_gt (ordering_then o (byte_order q r))) back) ∙ high)
          parts.1)
      | inr (inl lt) ↦
          let above : true ≡ false = sym (ap (λ o. is_gt (ordering_then o (byte_order q r))) (greater y z (subst (λ n. n < y) begins lt))) ∙ high in
          absurd cc
      | inr (inr lt) ↦
          let below : true ≡ false = sym (ap (λ o. is_gt (ordering_then o (byte_order p q))) (greater x y lt)) ∙ low in
          absurd cc
    ]

module _ (what : ResetWhat) (changes : ChangesValue) where
  left_alone : (q : List ℕ) → (drops_path what q ≡ true → get changes q ≡ None) → (b : Bool) → drops_path what q ≡ b
      → cond b None (get changes q) ≡ get changes q
  left_alone q none true e = sym (none e)
  left_alone q none false e = refl

  -- a reset that names no path of the changes leaves them
  pub reset_nothing : ((q : List ℕ) → drops_path what q ≡ true → get changes q ≡ None) → changes_after_reset what changes ≡ changes
  reset_nothing none = same _ _ (λ q. get_reset what changes q ∙ left_alone q (none q) _ refl)

  gone_twice : (path q : List ℕ) → drops_path what path ≡ true → (b : Bool) → eq_by_cmp byte_order q path ≡ b
      → cond (drops_path what q) None (cond b None (get changes q)) ≡ cond (drops_path what q) None (get changes q)
  gone_twice path q d true e =
      let here : drops_path what q ≡ true = ap (drops_path what) (same_key q path (tied _ e)) ∙ d in
      ap (λ b. cond b None None) here ∙ sym (ap (λ b. cond b None (get changes q)) here)
  gone_twice path q d false e = refl

  -- without one path that it names, a reset leaves the same
  pub reset_removed : (path : List ℕ) → drops_path what path ≡ true → changes_after_reset what (remove changes path) ≡ changes_after_reset what changes
  reset_removed path d = same _ _ (λ q.
      get_reset what (remove changes path) q ∙ ap (cond (drops_path what q) None) (get-remove nat_list_cmp_total changes path q)
      ∙ gone_twice path q d _ refl ∙ sym (get_reset what changes q))

-- ---- the first of the rows from a prefix on
module _ (m : BTreeMap (List ℕ) Change) (prefix : List ℕ) (found : Rows) (range : IsRangeOf byte_order (Included prefix) Unbounded m found) where
  pub none_found : found ≡ [] → IsNoneUnder prefix m.entries
  none_found none path begins = find_lookup m.entries path ∙ range.5 none path (not_below prefix path begins, tt)

  module _ (first : List ℕ × Change) (rest : Rows) (is : found ≡ first ∷ rest) where
    here : IsEntryInRange byte_order (Included prefix) Unbounded m first
    here = subst (λ l. IfSome (slice_get l 0) (IsEntryInRange byte_order (Included prefix) Unbounded m)) is range.1

    -- it begins with the prefix
    pub one_found : starts_with nat_eq first.0 prefix ≡ true → IsUnder prefix m.entries first.0
    one_found begins = record {
      begins = begins;
      there = subst IsSome (sym (find_lookup m.entries first.0)) (ap is_some here.1);
    }

    -- it doesn't
    pub other_found : starts_with nat_eq first.0 prefix ≡ false → IsNoneUnder prefix m.entries
    other_found not path begins = by (lookup (eq_by_cmp byte_order path) m.entries) refl
      where
        by : (o : Option Change) → lookup (eq_by_cmp byte_order path) m.entries ≡ o → find byte_order path m.entries ≡ None
        by None e = find_lookup m.entries path ∙ e
        by (Some v) e =
            let high : is_gt (byte_order first.0 path) ≡ false =
            subst (λ l. IfSome (slice_get l 0) (λ e. IsLeBy byte_order e.0 path)) is (range.2 path (not_below prefix path begins, tt) (ap is_some e)) in
            let also = between prefix first.0 path here.0.0 high begins in
            let wrong : true ≡ false = sym also ∙ not in
            absurd cc
