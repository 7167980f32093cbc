-- Commits are gathered with what was read of their trees.
use Rattle.std.proofs.Common.{◌≡◌, ◌<◌, ◌-◌, ℕ, length, get_or, arith, List, [], ◌∷◌, ◌++◌, map, Option, Some, None, Result, refl, sym, ap, ◌∙◌}
use Rattle.std.specs.List.{AllByRecursion}
use Rattle.std.specs.Option.{option_to_list}
use Rattle.lake_format.specs.declared.cut.Cut.{Cut}
use Rattle.meta_range.specs.Ranges.{TreeValue}
use Rattle.meta_range.specs.declared.fault.TreeFault.{TreeFault}
use Rattle.pair_format.specs.declared.stored.Stored.{Stored}
use Rattle.pair_format.specs.declared.stored.Stored.TheVariants as stored
use Rattle.pair_trees.specs.PairTrees.{tree_in}
use Rattle.pair_trees.specs.Things.{Things}
use Rattle.opening_parts.specs.Fillings.{read_in}
use Rattle.opening_parts.specs.Gathered.{read_from}

abbrev Trees : Type 0
Trees = List (Option (Result TreeValue TreeFault))

-- a commit with the tree that was read in its place is that of the pairs
pub read_so : (cut : Cut) (things : Things) (thing : Option Stored) → read_from thing (Some (tree_in cut things thing)) ≡ read_in cut things thing
read_so cut things None = refl
read_so cut things (Some (stored.Commit repo id expired commit)) = refl
read_so cut things (Some (stored.Repository repo created default_branch settings)) = refl
read_so cut things (Some (stored.Branch repo branch version head staging sealed)) = refl
read_so cut things (Some (stored.Tag repo tag commit)) = refl
read_so cut things (Some (stored.MetaRange name bytes)) = refl
read_so cut things (Some (stored.Range name bytes)) = refl
read_so cut things (Some (stored.Staged token path change)) = refl
read_so cut things (Some (stored.Note repo name text)) = refl
read_so cut things (Some (stored.Gone number)) = refl
read_so cut things (Some (stored.Counts number version token)) = refl

-- ---- the last of two lists

no_end : {X : Type 0} (xs : List X) (x : X) → [] ≡ xs ++ x ∷ [] → ⊥
no_end [] x e = cc
no_end (y ∷ xs) x e = cc

-- lists that end with one each are the same before it
pub ends : {X : Type 0} (xs ys : List X) (x y : X) → xs ++ x ∷ [] ≡ ys ++ y ∷ [] → (xs ≡ ys) × (x ≡ y)
ends [] [] x y e = (refl, let h : x ∷ [] ≡ y ∷ [] = e in cc)
ends [] (b ∷ ys) x y e = let h : [] ≡ ys ++ y ∷ [] = tails e in absurd (no_end ys y h)
  where
    tails : {X : Type 0} {a b : X} {s t : List X} → a ∷ s ≡ b ∷ t → s ≡ t
    tails h = cc
ends (a ∷ xs) [] x y e = let h : xs ++ x ∷ [] ≡ [] = tails e in absurd (no_end xs x (sym h))
  where
    tails : {X : Type 0} {a b : X} {s t : List X} → a ∷ s ≡ b ∷ t → s ≡ t
    tails h = cc
ends (a ∷ xs) (b ∷ ys) x y e =
    let h = ends xs ys x y (tails e) in (λ i. heads e i ∷ h.0 i, h.1)
  where
    heads : {X : Type 0} {a b : X} {s t : List X} → a ∷ s ≡ b ∷ t → a ≡ b
    heads h = cc

    tails : {X : Type 0} {a b : X} {s t : List X} → a ∷ s ≡ b ∷ t → s ≡ t
    tails h = cc

pub map_end : {X Y : Type 0} (f : X → Y) (xs : List X) (x : X) → map f (xs ++ x ∷ []) ≡ map f xs ++ f x ∷ []
map_end f [] x = refl
map_end f (y ∷ xs) x = ap (λ l. f y ∷ l) (map_end f xs x)

-- what was popped from the one list and from the map of it
pub popped : {X Y : Type 0} (f : X → Y) (xs rest : List X) (x : X) (ys left : List Y) (o : Option Y) → xs ≡ rest ++ x ∷ [] → ys ≡ map f xs
    → ys ≡ left ++ option_to_list o → (o ≡ None → ys ≡ [])
    → (left ≡ map f rest) × (o ≡ Some (f x))
popped f xs rest x ys left None is mapped ended none =
    let empty : [] ≡ map f rest ++ f x ∷ [] = sym (none refl) ∙ mapped ∙ ap (map f) is ∙ map_end f rest x in
    absurd (no_end (map f rest) (f x) empty)
popped f xs rest x ys left (Some y) is mapped ended none =
    let h = ends left (map f rest) y (f x) (sym ended ∙ mapped ∙ ap (map f) is ∙ map_end f rest x) in
    (h.0, ap Some h.1)

-- what holds of each holds of those before the last, and of the last
pub front_and_last : {X : Type 0} (P : X → Type 0) (xs : List X) (x : X) → AllByRecursion P (xs ++ x ∷ []) → AllByRecursion P xs × P x
front_and_last P [] x all = (tt, all.0)
front_and_last P (y ∷ xs) x all = let h = front_and_last P xs x all.1 in ((all.0, h.0), h.1)

-- nothing is popped of an empty list alone
pub popped_none : {Y : Type 0} (ys : List Y) (o : Option Y) (n : ℕ) → n ≡ length ys → ((d : Y) → 0 < n → o ≡ Some (get_or ys (n - 1) d)) → o ≡ None → ys ≡ []
popped_none [] o n long value none = refl
popped_none (y ∷ ys) o n long value none = let some = value y (omega (arith, long)) in absurd (no_some (sym some ∙ none))
  where
    no_some : {Y : Type 0} {y : Y} → Some y ≡ None → ⊥
    no_some e = cc
