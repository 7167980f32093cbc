-- What a seek leaves of a list whose keys ascend.
use Rattle.std.proofs.Common.{◌≡◌, ℕ, zero, suc, ◌≤◌, T, Bool, true, false, cond, not, List, [], ◌∷◌, ◌++◌, length, get_or, take, drop, refl, sym, ap, subst}
use Rattle.std.proofs.Common.{◌∙◌, arith}
use Rattle.std.specs.List.{filter, AllByRecursion, AllWithin}
use Rattle.std.specs.List.Sorted.{IsPartitionedBy}
use Rattle.std.specs.Ordering.{is_lt}
use Rattle.std.specs.declared.cmp.Ordering.TheVariants.{Less, Equal, Greater}
use Rattle.std.specs.declared.cmp.Ordering.{Ordering}
use Rattle.std.specs.FinMap.Entries.{below_all}
use Rattle.std.proofs.lemmas.Cmp.{nat_list_cmp_total}
use Rattle.std.proofs.lemmas.List.{take-append-drop}
use Rattle.lake_values.specs.Cursor.{entries_from}
use Rattle.lake_base.specs.Maps.{byte_order, HasAscendingKeys}
use Rattle.lake_base.proofs.MapsLemmas.{first, second, less, head_below, tail_ascends, below_at}

pub lt_is : (o : Ordering) → is_lt o ≡ true → o ≡ Less
lt_is Less h = refl
lt_is Equal h = absurd cc
lt_is Greater h = absurd cc

-- ---- a search for the end of a front

pub part_front : {X : Type 0} (P : X → Type 0) (xs : List X) (i : ℕ) → i ≤ length xs → AllWithin P xs 0 i → AllByRecursion P (take i xs)
part_front P xs zero le all = tt
part_front P [] (suc i) le all = absurd (omega arith)
part_front P (x ∷ xs) (suc i) le all =
    (all 0 x (omega arith) (omega arith), part_front P xs i (omega arith) (λ k d low high. all (suc k) d (omega arith) (omega arith)))

pub part_back : {X : Type 0} (P : X → Type 0) (xs : List X) (i : ℕ) → AllWithin P xs i (length xs) → AllByRecursion P (drop i xs)
part_back P [] zero all = tt
part_back P [] (suc i) all = tt
part_back P (x ∷ xs) zero all = (all 0 x (omega arith) (omega arith), part_back P xs zero (λ k d low high. all (suc k) d (omega arith) (omega arith)))
part_back P (x ∷ xs) (suc i) all = part_back P xs i (λ k d low high. all (suc k) d (omega arith) (omega arith))

-- a test that a lesser key passes where a greater one does
pub partitioned : {X : Type 0} (p : List ℕ → Bool) → ((a b : List ℕ) → byte_order a b ≡ Less → p b ≡ true → p a ≡ true) → (es : List (List ℕ × X))
    → HasAscendingKeys es → IsPartitionedBy (λ e. p e.0) es
partitioned p down [] h i j d le lt passed = absurd (omega arith)
partitioned p down (e ∷ es) h zero zero d le lt passed = passed
partitioned p down (e ∷ es) h zero (suc j) d le lt passed = down e.0 (get_or es j d).0 (below_at e.0 es j d (head_below e es h) (omega arith)) passed
partitioned p down (e ∷ es) h (suc i) zero d le lt passed = absurd (omega arith)
partitioned p down (e ∷ es) h (suc i) (suc j) d le lt passed = partitioned p down es (tail_ascends e es h) i j d (omega arith) (omega arith) passed

-- a key below one that is below another is below that too
pub below_down : (least a b : List ℕ) → byte_order a b ≡ Less → is_lt (byte_order b least) ≡ true → is_lt (byte_order a least) ≡ true
below_down least a b lt low = ap is_lt (nat_list_cmp_total.trans a b least lt (lt_is _ low))

-- ---- filters

pub all_kept : {X : Type 0} (p : X → Bool) (xs : List X) → AllByRecursion (λ x. p x ≡ true) xs → filter p xs ≡ xs
all_kept p [] all = refl
all_kept p (x ∷ xs) all = ap (λ b. cond b (x ∷ filter p xs) (filter p xs)) all.0 ∙ ap (λ l. x ∷ l) (all_kept p xs all.1)

pub front_lost : {X : Type 0} (p : X → Bool) (front back : List X) → AllByRecursion (λ x. p x ≡ false) front → filter p (front ++ back) ≡ filter p back
front_lost p [] back all = refl
front_lost p (x ∷ front) back all = ap (λ b. cond b (x ∷ filter p (front ++ back)) (filter p (front ++ back))) all.0 ∙ front_lost p front back all.1

pub all_of_kept : {X : Type 0} (P : X → Type 0) (p : X → Bool) (xs : List X) → AllByRecursion P xs → AllByRecursion P (filter p xs)
all_of_kept P p [] all = tt
all_of_kept P p (x ∷ xs) all = by (p x) (all_of_kept P p xs all.1)
  where
    by : (b : Bool) → AllByRecursion P (filter p xs) → AllByRecursion P (cond b (x ∷ filter p xs) (filter p xs))
    by true rest = (all.0, rest)
    by false rest = rest

pub kept_len : {X : Type 0} (p : X → Bool) (xs : List X) → length (filter p xs) ≤ length xs
kept_len p [] = omega arith
kept_len p (x ∷ xs) = by (p x) (kept_len p xs)
  where
    by : (b : Bool) → length (filter p xs) ≤ length xs → length (cond b (x ∷ filter p xs) (filter p xs)) ≤ suc (length xs)
    by true le = omega arith
    by false le = omega arith

-- ---- seeks

not_true : (b : Bool) → b ≡ true → not b ≡ false
not_true true h = refl
not_true false h = absurd cc

not_false : (b : Bool) → b ≡ false → not b ≡ true
not_false true h = absurd cc
not_false false h = refl

module _ {X : Type 0} where
  -- the entries from a place on, where those before it are below and the others aren't
  pub seek_from : (least : List ℕ) (es : List (List ℕ × X)) (at : ℕ) → at ≤ length es → AllWithin (λ e. is_lt (byte_order e.0 least) ≡ true) es 0 at
      → AllWithin (λ e. is_lt (byte_order e.0 least) ≡ false) es at (length es)
      → drop at es ≡ entries_from least es
  seek_from least es at le front back =
      let p : List ℕ × X → Bool = λ e. not (is_lt (byte_order e.0 least)) in
      sym (
      ap (filter p) (sym (take-append-drop at es))
      ∙ front_lost p (take at es) (drop at es) (part_front (λ e. p e ≡ false) es at le (λ k d low high. not_true _ (front k d low high)))
      ∙ all_kept p (drop at es) (part_back (λ e. p e ≡ true) es at (λ k d low high. not_false _ (back k d low high))))

  -- where a key isn't below, none above it is
  pub none_passed : (least k : List ℕ) (es : List (List ℕ × X)) → is_lt (byte_order k least) ≡ false → T (below_all byte_order k es)
      → AllByRecursion (λ e. is_lt (byte_order e.0 least) ≡ false) es
  none_passed least k [] never h = tt
  none_passed least k (e ∷ es) never h = (by _ refl, none_passed least k es never (second _ _ h))
    where
      lt : byte_order k e.0 ≡ Less
      lt = less _ (first (is_lt (byte_order k e.0)) (below_all byte_order k es) h)

      by : (b : Bool) → is_lt (byte_order e.0 least) ≡ b → is_lt (byte_order e.0 least) ≡ false
      by true low = absurd (cc (sym (below_down least k e.0 lt low) ∙ never))
      by false low = low

  -- and a seek leaves it and those after it
  pub seek_stays : (least : List ℕ) (e : List ℕ × X) (es : List (List ℕ × X)) → HasAscendingKeys (e ∷ es) → is_lt (byte_order e.0 least) ≡ false
      → entries_from least (e ∷ es) ≡ e ∷ es
  seek_stays least e es h never =
      all_kept (λ f. not (is_lt (byte_order f.0 least))) (e ∷ es) (turn (e ∷ es) (never, none_passed least e.0 es never (head_below e es h)))
    where
      turn : (fs : List (List ℕ × X)) → AllByRecursion (λ f. is_lt (byte_order f.0 least) ≡ false) fs
          → AllByRecursion (λ f. not (is_lt (byte_order f.0 least)) ≡ true) fs
      turn [] all = tt
      turn (f ∷ fs) all = (not_false _ all.0, turn fs all.1)

  -- a seek passes over a key that is below
  pub seek_passes : (least : List ℕ) (e : List ℕ × X) (es : List (List ℕ × X)) → is_lt (byte_order e.0 least) ≡ true
      → entries_from least (e ∷ es) ≡ entries_from least es
  seek_passes least e es low = ap (λ b. cond (not b) (e ∷ entries_from least es) (entries_from least es)) low

  -- what a seek leaves ascends
  pub ascends_from : (least : List ℕ) (es : List (List ℕ × X)) → HasAscendingKeys es → HasAscendingKeys (entries_from least es)
  ascends_from least [] h = tt
  ascends_from least (e ∷ es) h = by (is_lt (byte_order e.0 least)) refl (ascends_from least es (tail_ascends e es h))
    where
      by : (b : Bool) → is_lt (byte_order e.0 least) ≡ b → HasAscendingKeys (entries_from least es) → HasAscendingKeys (entries_from least (e ∷ es))
      by true low rest = subst HasAscendingKeys (sym (seek_passes least e es low)) rest
      by false never rest = subst HasAscendingKeys (sym (seek_stays least e es h never)) h
