-- The conflicts of rows still to come, path by path.
use Rattle.std.proofs.Common.{◌≡◌, ℕ, ◌&&◌, ◌⊎◌, Bool, true, false, cond, List, [], ◌∷◌, None, Option, inl, inr, sym, ap, subst, refl, ◌∙◌}
use Rattle.std.specs.FinMap.{find, get, from_sorted, get-from_sorted}
use Rattle.std.specs.List.{Contains, AllByRecursion}
use Rattle.std.specs.List.Sorted.{IsStrictlySortedBy}
use Rattle.std.specs.Ordering.{is_lt}
use Rattle.std.specs.declared.cmp.Ordering.{Ordering}
use Rattle.std.specs.declared.cmp.Ordering.TheVariants.{Less, Equal, Greater}
use Rattle.lake_base.specs.Maps.{byte_order, IsAscending}
use Rattle.lake_base.proofs.MapsLemmas.{same_key, turned, same_again}
use Rattle.lake_values.specs.Entry.{EntryValue}
use Rattle.lake_values.specs.KeyMap.{KeyMapValue}
use Rattle.lake_values.specs.Merging.{side_of, is_neither, conflicts}
use Rattle.lake_values.proofs.CursorLemmas.{lt_is}
use Rattle.lake_values.proofs.MergingLemmas.{are_conflicts, one_list, neither}
use Rattle.lake_values.proofs.OrderLemmas.{Contains-first, Contains-later, Contains-nothing, first_or_later}
use Rattle.key_merge.specs.MergeWalk.{SidesValue, FrontValue, Ascend, sides_of, sides_above, front_at, side_at, conflicts_of}
use Rattle.key_merge.proofs.RowsLemmas.{find_above, ascends_above}
use Rattle.key_merge.proofs.FrontLemmas.{IsFront, none_below, nothing_below}

-- whose value a path takes among rows
side_among : (sides : SidesValue) → Ascend sides → (q : List ℕ) → side_of (get (from_sorted {R = byte_order} sides.base) q)
    (get (from_sorted {R = byte_order} sides.source) q) (get (from_sorted {R = byte_order} sides.dest) q) ≡ side_at (front_at sides q)
side_among sides h q =
    λ i. side_of (get-from_sorted byte_order sides.base q h.base i) (get-from_sorted byte_order sides.source q h.source i)
    (get-from_sorted byte_order sides.dest q h.dest i)

-- whether a path conflicts among rows
abbrev pub is_among : SidesValue → List ℕ → Bool
is_among sides q = is_neither (side_at (front_at sides q))

module _ (sides : SidesValue) (h : Ascend sides) where
  -- a path of the conflicts conflicts
  among_of : (q : List ℕ) → Contains (conflicts_of sides) q → is_among sides q ≡ true
  among_of q within =
      ap is_neither (sym (side_among sides h q) ∙ ((are_conflicts (from_sorted sides.base) (from_sorted sides.source) (from_sorted sides.dest)).all q).0 within)

  of_among : (q : List ℕ) → is_among sides q ≡ true → Contains (conflicts_of sides) q
  of_among q t = ((are_conflicts (from_sorted sides.base) (from_sorted sides.source) (from_sorted sides.dest)).all q).1 (side_among sides h q ∙ neither _ t)

  -- a list that ascends, of just the paths that conflict, is that of the conflicts
  conflicts_are : (paths : List (List ℕ)) → IsAscending paths → ((q : List ℕ) → Contains paths q → is_among sides q ≡ true)
      → ((q : List ℕ) → is_among sides q ≡ true → Contains paths q) → conflicts_of sides ≡ paths
  conflicts_are paths ascend to from =
      sym (one_list (from_sorted sides.base) (from_sorted sides.source) (from_sorted sides.dest) paths (record {
        ascending = ascend;
        all = λ q. (λ within. side_among sides h q ∙ neither _ (to q within), λ e. from q (ap is_neither (sym (side_among sides h q) ∙ e)));
      }))

  above_ascends : (path : List ℕ) → Ascend (sides_above path sides)
  above_ascends path =
      record { base = ascends_above path sides.base h.base; source = ascends_above path sides.source h.source; dest = ascends_above path sides.dest h.dest }

-- above a path conflicts what conflicts among all, and nothing at or below it
above_by : (b : Bool) (base source dest : Option EntryValue)
    → is_neither (side_of (cond b base None) (cond b source None) (cond b dest None)) ≡ (b && is_neither (side_of base source dest))
above_by true base source dest = refl
above_by false base source dest = refl

among_above : (sides : SidesValue) (path q : List ℕ) → is_among (sides_above path sides) q ≡ (is_lt (byte_order path q) && is_among sides q)
among_above sides path q =
    (λ i. is_neither (side_of (find_above path q sides.base i) (find_above path q sides.source i) (find_above path q sides.dest i)))
    ∙ above_by (is_lt (byte_order path q)) (find byte_order q sides.base) (find byte_order q sides.source) (find byte_order q sides.dest)

and_parts : (a b : Bool) → (a && b) ≡ true → (a ≡ true) × (b ≡ true)
and_parts true b e = (refl, e)
and_parts false b e = cc

not_true : (b : Bool) → b ≡ false → b ≡ true → ⊥
not_true true e t = cc
not_true false e t = cc

-- ---- a first path, and those above it

each_of : {X : Type 0} (P : X → Type 0) (xs : List X) → ((x : X) → Contains xs x → P x) → AllByRecursion P xs
each_of P [] all = tt
each_of P (x ∷ xs) all = (all x (Contains-first x xs), each_of P xs (λ y within. all y (Contains-later x y xs within)))

first_ascends : (path : List ℕ) (paths : List (List ℕ)) → IsAscending paths → ((q : List ℕ) → Contains paths q → byte_order path q ≡ Less)
    → IsAscending (path ∷ paths)
unfolding IsStrictlySortedBy
first_ascends path paths ascend above = (each_of (λ q. byte_order path q ≡ Less) paths above, ascend)

module _ (sides : SidesValue) (front : FrontValue) (h : Ascend sides) (is : IsFront sides front) where
  -- the conflicts above the front
  abbrev rest : List (List ℕ)
  rest = conflicts_of (sides_above front.path sides)

  rest_above : (q : List ℕ) → Contains rest q → (byte_order front.path q ≡ Less) × (is_among sides q ≡ true)
  rest_above q within =
      let two = and_parts _ _ (sym (among_above sides front.path q) ∙ among_of (sides_above front.path sides) (above_ascends sides h front.path) q within) in
      (lt_is _ two.0, two.1)

  among_below : (q : List ℕ) → byte_order q front.path ≡ Less → is_among sides q ≡ false
  among_below q lt =
      let two = none_below sides.base sides.source front.path is.least in
      let base = nothing_below q front.path sides.base h.base two.0 lt in
      let source = nothing_below q front.path sides.source h.source two.1 lt in
      λ i. is_neither (side_of (base i) (source i) (find byte_order q sides.dest))

  among_here : (q : List ℕ) → byte_order q front.path ≡ Equal → is_among sides q ≡ is_neither (side_at front)
  among_here q tie = ap (is_among sides) (same_key q front.path tie) ∙ ap (λ (f : FrontValue). is_neither (side_at f)) (sym is.values)

  -- a path that conflicts is the front's, which then does, or one above it
  here_or_above : (q : List ℕ) → is_among sides q ≡ true → ((q ≡ front.path) × (is_neither (side_at front) ≡ true)) ⊎ Contains rest q
  here_or_above q t = by (byte_order q front.path) refl
    where
      by : (o : Ordering) → byte_order q front.path ≡ o → ((q ≡ front.path) × (is_neither (side_at front) ≡ true)) ⊎ Contains rest q
      by Less lt = absurd (not_true _ (among_below q lt) t)
      by Equal tie = inl (same_key q front.path tie, sym (among_here q tie) ∙ t)
      by Greater gt =
          let passes : (is_lt (byte_order front.path q) && is_among sides q) ≡ true =
          ap (λ o. is_lt o && is_among sides q) (turned q front.path Greater gt) ∙ t in
          inr (of_among (sides_above front.path sides) (above_ascends sides h front.path) q (among_above sides front.path q ∙ passes))

  conflicts_by : (b : Bool) → is_neither (side_at front) ≡ b → conflicts_of sides ≡ cond b (front.path ∷ rest) rest
  conflicts_by true conflict =
      conflicts_are sides h (front.path ∷ rest)
      (first_ascends front.path rest (are_conflicts _ _ _).ascending (λ q within. (rest_above q within).0))
      (λ q within. elim (first_or_later front.path q rest within) [
        | inl same ↦ subst (λ k. is_among sides k ≡ true) same (ap (λ (f : FrontValue). is_neither (side_at f)) (sym is.values) ∙ conflict)
        | inr later ↦ (rest_above q later).1
      ])
      (λ q t. elim (here_or_above q t) [
        | inl here ↦ subst (Contains (front.path ∷ rest)) (sym here.0) (Contains-first front.path rest)
        | inr later ↦ Contains-later front.path q rest later
      ])
  conflicts_by false calm =
      conflicts_are sides h rest (are_conflicts _ _ _).ascending
      (λ q within. (rest_above q within).1)
      (λ q t. elim (here_or_above q t) [
        | inl here ↦ absurd (not_true _ calm here.1)
        | inr later ↦ later
      ])

  -- The conflicts at a front are its path, where it conflicts, and those of the rows above it.
  pub conflicts_next : conflicts_of sides
      ≡ cond (is_neither (side_at front)) (front.path ∷ conflicts_of (sides_above front.path sides)) (conflicts_of (sides_above front.path sides))
  conflicts_next = conflicts_by _ refl

nothing_ascends : IsAscending []
unfolding IsStrictlySortedBy
nothing_ascends = tt

-- no conflicts are left where base and source have no rows
pub no_conflicts : (sides : SidesValue) → sides.base ≡ [] → sides.source ≡ [] → conflicts_of sides ≡ []
no_conflicts sides no_base no_source =
    let base : (q : List ℕ) → get (from_sorted {R = byte_order} sides.base) q ≡ None =
    λ q. ap (λ rows. get (from_sorted {R = byte_order} rows) q) no_base ∙ get-from_sorted byte_order [] q tt in
    let source : (q : List ℕ) → get (from_sorted {R = byte_order} sides.source) q ≡ None =
    λ q. ap (λ rows. get (from_sorted {R = byte_order} rows) q) no_source ∙ get-from_sorted byte_order [] q tt in
    let dest = from_sorted {R = byte_order} sides.dest in
    let calm : (q : List ℕ)
    → is_neither (side_of (get (from_sorted {R = byte_order} sides.base) q) (get (from_sorted {R = byte_order} sides.source) q) (get dest q)) ≡ false =
    λ q i. is_neither (side_of (base q i) (source q i) (get dest q)) in
    sym (one_list (from_sorted sides.base) (from_sorted sides.source) dest [] (record {
      ascending = nothing_ascends;
      all = λ q. (λ within. absurd (Contains-nothing q within), λ conflict. absurd (not_true _ (calm q) (ap is_neither conflict)));
    }))

-- all rows of three maps have all conflicts
pub all_conflicts : (base source dest : KeyMapValue) → conflicts_of (sides_of base source dest) ≡ conflicts base source dest
all_conflicts base source dest = λ i. conflicts (same_again base i) (same_again source i) (same_again dest i)
