-- The least path of two sides: none of their paths is below it, and passing it leaves fewer rows.
use Rattle.std.proofs.Common.{◌≡◌, ℕ, ◌+◌, option_map, ◌<◌, ◌≤◌, T, Bool, true, false, cond, List, [], ◌∷◌, length, Some, None, Option, sym, ap, subst, refl}
use Rattle.std.proofs.Common.{◌∙◌, arith}
use Rattle.std.specs.FinMap.{find}
use Rattle.std.specs.Ordering.{is_lt}
use Rattle.std.specs.declared.cmp.Ordering.{Ordering}
use Rattle.std.specs.declared.cmp.Ordering.TheVariants.{Less, Equal, Greater}
use Rattle.std.proofs.lemmas.Cmp.{nat_list_cmp_total, tied_itself}
use Rattle.lake_base.specs.Maps.{byte_order, HasAscendingKeys}
use Rattle.lake_base.proofs.MapsLemmas.{both, same_key, turned, head_below, less_more, find_none}
use Rattle.lake_values.proofs.CursorLemmas.{lt_is, kept_len}
use Rattle.range_file.specs.Rows.{RowValue}
use Rattle.meta_range.specs.Ranges.{rows_above}
use Rattle.key_merge.specs.MergeWalk.{first_path, least_path, SidesValue, FrontValue, front_at, first_front}

-- the first row isn't below the path, and so none is
abbrev pub NoneBelow : List ℕ → List RowValue → Type 0
NoneBelow path [] = Unit {0}
NoneBelow path (row ∷ rows) = is_lt (byte_order row.0 path) ≡ false

not_below_itself : (path : List ℕ) → is_lt (byte_order path path) ≡ false
not_below_itself path = ap is_lt (tied_itself nat_list_cmp_total path)

not_above : (path other : List ℕ) → is_lt (byte_order other path) ≡ true → is_lt (byte_order path other) ≡ false
not_above path other low = ap is_lt (turned other path Less (lt_is _ low))

-- of two paths the lesser is below neither
lesser : (path other p : List ℕ) (b : Bool) → is_lt (byte_order other path) ≡ b → Some (cond b other path) ≡ Some p
    → (is_lt (byte_order path p) ≡ false) × (is_lt (byte_order other p) ≡ false)
lesser path other p true low is =
    let same : other ≡ p = cc in (
      subst (λ k. is_lt (byte_order path k) ≡ false) same (not_above path other low),
      subst (λ k. is_lt (byte_order other k) ≡ false) same (not_below_itself other),
    )
lesser path other p false never is =
    let same : path ≡ p = cc in
    (subst (λ k. is_lt (byte_order path k) ≡ false) same (not_below_itself path), subst (λ k. is_lt (byte_order other k) ≡ false) same never)

alone : (path p : List ℕ) → Some path ≡ Some p → is_lt (byte_order path p) ≡ false
alone path p is = let same : path ≡ p = cc in subst (λ k. is_lt (byte_order path k) ≡ false) same (not_below_itself path)

pub none_below : (base source : List RowValue) (p : List ℕ) → least_path (first_path base) (first_path source) ≡ Some p → NoneBelow p base × NoneBelow p source
none_below [] [] p is = absurd cc
none_below (row ∷ rows) [] p is = (alone row.0 p is, tt)
none_below [] (row ∷ rows) p is = (tt, alone row.0 p is)
none_below (row ∷ rows) (other ∷ others) p is = lesser row.0 other.0 p _ refl is

-- a path below one that isn't above another is below the other
below_too : (q p k : List ℕ) → byte_order q p ≡ Less → is_lt (byte_order k p) ≡ false → byte_order q k ≡ Less
below_too q p k lt never = by (byte_order p k) refl
  where
    by : (o : Ordering) → byte_order p k ≡ o → byte_order q k ≡ Less
    by Less e = nat_list_cmp_total.trans q p k lt e
    by Equal e = subst (λ x. byte_order q x ≡ Less) (same_key p k e) lt
    by Greater e = absurd (no (sym (ap is_lt (turned p k Greater e)) ∙ never))
      where
        no : true ≡ false → ⊥
        no t = cc

-- so nothing is found below it
pub nothing_below : (q p : List ℕ) (rows : List RowValue) → HasAscendingKeys rows → NoneBelow p rows → byte_order q p ≡ Less → find byte_order q rows ≡ None
nothing_below q p [] h never lt = refl
nothing_below q p (row ∷ rows) h never lt =
    let below = below_too q p row.0 lt never in
    find_none q (row ∷ rows) (both _ _ (subst (λ r. T (is_lt r)) (sym below) tt) (less_more q row.0 rows below (head_below row rows h)))

-- ---- fewer rows

fewer_or_same : (p : List ℕ) (rows : List RowValue) → length (rows_above (Some p) rows) ≤ length rows
fewer_or_same p rows = kept_len (λ row. is_lt (byte_order p row.0)) rows

-- the first row is passed at its path
first_passed : (p : List ℕ) (row : RowValue) (rows : List RowValue) → row.0 ≡ p → length (rows_above (Some p) (row ∷ rows)) ≤ length rows
first_passed p row rows same =
    let kept : is_lt (byte_order p row.0) ≡ false = subst (λ k. is_lt (byte_order k row.0) ≡ false) same (not_below_itself row.0) in
    subst (λ b. length (cond b (row ∷ rows_above (Some p) rows) (rows_above (Some p) rows)) ≤ length rows) (sym kept) (fewer_or_same p rows)

fewer_of : (row other : RowValue) (rows others : List RowValue) (p : List ℕ) (b : Bool) → Some (cond b other.0 row.0) ≡ Some p
    → length (rows_above (Some p) (row ∷ rows)) + length (rows_above (Some p) (other ∷ others)) < length (row ∷ rows) + length (other ∷ others)
fewer_of row other rows others p true is =
    let same : other.0 ≡ p = cc in
    let passed = first_passed p other others same in
    let rest = fewer_or_same p (row ∷ rows) in
    omega arith
fewer_of row other rows others p false is =
    let same : row.0 ≡ p = cc in
    let passed = first_passed p row rows same in
    let rest = fewer_or_same p (other ∷ others) in
    omega arith

-- passing the least path leaves fewer rows of base and source
pub fewer : (base source : List RowValue) (p : List ℕ) → least_path (first_path base) (first_path source) ≡ Some p
    → length (rows_above (Some p) base) + length (rows_above (Some p) source) < length base + length source
fewer [] [] p is = absurd cc
fewer (row ∷ rows) [] p is =
    let same : row.0 ≡ p = cc in
    let passed = first_passed p row rows same in
    omega arith
fewer [] (row ∷ rows) p is =
    let same : row.0 ≡ p = cc in
    let passed = first_passed p row rows same in
    omega arith
fewer (row ∷ rows) (other ∷ others) p is = fewer_of row other rows others p _ is

-- ---- the front

-- what a front is: the values at the least path
pub record IsFront (sides : SidesValue) (front : FrontValue) : Type 0 where
  pub least : least_path (first_path sides.base) (first_path sides.source) ≡ Some front.path
  pub values : front ≡ front_at sides front.path

front_by : (sides : SidesValue) (front : FrontValue) (least : Option (List ℕ)) → Some front ≡ option_map (front_at sides) least
    → (least ≡ Some front.path) × (front ≡ front_at sides front.path)
front_by sides front None is = absurd cc
front_by sides front (Some p) is =
    let same : front ≡ front_at sides p = cc in
    (ap (λ (f : FrontValue). Some f.path) (sym same), same ∙ ap (λ (f : FrontValue). front_at sides f.path) (sym same))

pub front_is : (sides : SidesValue) (front : FrontValue) → Some front ≡ first_front sides → IsFront sides front
front_is sides front is = let two = front_by sides front (least_path (first_path sides.base) (first_path sides.source)) is in
    record { least = two.0; values = two.1 }

-- no front is left where base and source have no rows
no_least : (base source : List RowValue) → least_path (first_path base) (first_path source) ≡ None → (base ≡ []) × (source ≡ [])
no_least [] [] is = (refl, refl)
no_least (row ∷ rows) [] is = absurd cc
no_least [] (row ∷ rows) is = absurd cc
no_least (row ∷ rows) (other ∷ others) is = absurd cc

no_front_by : (sides : SidesValue) (least : Option (List ℕ)) → None ≡ option_map (front_at sides) least → least ≡ None
no_front_by sides None is = refl
no_front_by sides (Some p) is = absurd cc

pub no_front : (sides : SidesValue) → None ≡ first_front sides → (sides.base ≡ []) × (sides.source ≡ [])
no_front sides is = no_least sides.base sides.source (no_front_by sides (least_path (first_path sides.base) (first_path sides.source)) is)
