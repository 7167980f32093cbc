-- A change under a name that a reading of the values doesn't see.
use Rattle.std.proofs.Common.{◌≡◌, ℕ, Bool, true, false, cond, List, [], ◌∷◌, map, refl, sym, ap, ◌∙◌}
use Rattle.std.specs.Prelude.{Option, Some, None}
use Rattle.std.specs.List.{filter}
use Rattle.std.specs.Option.{option_map_or}
use Rattle.std.specs.Ordering.{eq_by_cmp, is_eq}
use Rattle.std.specs.declared.cmp.Ordering.TheVariants.{Less, Equal, Greater}
use Rattle.std.specs.FinMap.{find, get, put, insert, entries, get-insert, get_tied, get-entries, entries-insert, entries_sorted}
use Rattle.std.specs.FinMap.Entries.{by_order}
use Rattle.std.proofs.lemmas.Cmp.{nat_list_cmp_total}
use Rattle.lake_base.specs.Maps.{byte_order, ByteMap, HasAscendingKeys}
use Rattle.lake_base.proofs.MapsLemmas.{find_none, head_below, less_more, tail_ascends, tied}
use Rattle.lake_model.specs.Parts.{changed_at}

-- ---- one name
told_where : {X Y : Type 0} (tell : Option X → Y) (x y : X) (there : Option X) → tell (Some y) ≡ tell (Some x) → (test : Bool) → (test ≡ true → there ≡ Some x)
    → tell (cond test (Some y) there) ≡ tell there
told_where tell x y there again true is = again ∙ sym (ap tell (is refl))
told_where tell x y there again false is = refl

-- of what stands under a name the same is told as before
pub told_again : {X Y : Type 0} (tell : Option X → Y) (change : X → X) → ((x : X) → tell (Some (change x)) ≡ tell (Some x))
    → (name : List ℕ) (m : ByteMap X) (q : List ℕ)
    → tell (get (changed_at name change m) q) ≡ tell (get m q)
told_again {X = X} tell change again name m q =
    elim (get m name) as (λ (o : Option X). get m name ≡ o → tell (get (option_map_or (λ x. insert m name (change x)) o m) q) ≡ tell (get m q)) [
      | None ↦ λ was. refl
      | Some x ↦ λ was.
          ap tell (get-insert nat_list_cmp_total m name (change x) q)
          ∙ told_where tell x (change x) (get m q) (again x) (eq_by_cmp byte_order q name)
          (λ tie. sym (get_tied nat_list_cmp_total m q name (tied _ tie)) ∙ was)
    ] refl

-- ---- the whole list
module _ {X Y : Type 0} (tell : List ℕ × X → Y) (test : List ℕ → Bool) where
  -- what is told of the entries whose keys pass a test
  abbrev pub told_list : List (List ℕ × X) → List Y
  told_list es = map tell (filter (λ e. test e.0) es)

  -- an entry's word before those of others, where its key passes
  abbrev told_with : Bool → List ℕ × X → List (List ℕ × X) → List Y
  told_with passes e es = map tell (cond passes (e ∷ filter (λ f. test f.0) es) (filter (λ f. test f.0) es))

  told_first : (e f : List ℕ × X) (es fs : List (List ℕ × X)) → tell e ≡ tell f → test e.0 ≡ test f.0 → told_list es ≡ told_list fs
      → told_list (e ∷ es) ≡ told_list (f ∷ fs)
  told_first e f es fs one keys rest =
      ap (λ passes. told_with passes e es) keys
      ∙ elim (test f.0) as (λ passes. told_with passes e es ≡ told_with passes f fs) [ true ↦ λ i. one i ∷ rest i | false ↦ rest ]

  -- a value is put at a key that has one of which the same is told
  told_put : (k : List ℕ) (x y : X) → ((q : List ℕ) → tell (q, y) ≡ tell (q, x)) → (es : List (List ℕ × X)) → HasAscendingKeys es
      → find byte_order k es ≡ Some x
      → told_list (put byte_order k y es) ≡ told_list es
  told_put k x y again [] sorted is = absurd cc
  told_put k x y again (e ∷ es) sorted is =
      elim (byte_order k e.0) as (λ r. byte_order k e.0 ≡ r → cond (is_eq r) (Some e.1) (find byte_order k es) ≡ Some x
      → told_list (by_order r ((k, y) ∷ e ∷ es) ((e.0, y) ∷ es) (e ∷ put byte_order k y es)) ≡ told_list (e ∷ es)) [
        | Less ↦ λ lt has. let none : find byte_order k es ≡ None = find_none k es (less_more k e.0 es lt (head_below e es sorted)) in absurd cc
        | Equal ↦ λ tie has. let same : e.1 ≡ x = cc in told_first (e.0, y) e es es (again e.0 ∙ ap (λ v. tell (e.0, v)) (sym same)) refl refl
        | Greater ↦ λ gt has. told_first e e (put byte_order k y es) es refl refl (told_put k x y again es (tail_ascends e es sorted) has)
      ] refl is

  -- of all entries the same is told as before
  pub told_list_again : (change : X → X) → ((q : List ℕ) (x : X) → tell (q, change x) ≡ tell (q, x)) → (name : List ℕ) (m : ByteMap X)
      → told_list (entries (changed_at name change m)) ≡ told_list (entries m)
  told_list_again change again name m =
      elim (get m name) as (λ (o : Option X). get m name ≡ o
      → told_list (entries (option_map_or (λ x. insert m name (change x)) o m)) ≡ told_list (entries m)) [
        | None ↦ λ was. refl
        | Some x ↦ λ was.
            ap told_list (entries-insert nat_list_cmp_total m name (change x))
            ∙ told_put name x (change x) (λ q. again q x) (entries m) (entries_sorted m) (sym (get-entries m name) ∙ was)
      ] refl
