-- One turn of the walk, and its ends.
use Rattle.std.proofs.Common.{◌≡◌, ℕ, zero, suc, ◌+◌, ◌<◌, ◌≤◌, Bool, true, false, cond, List, [], ◌∷◌, ◌++◌, length, take, ltb, Some, None, Option}
use Rattle.std.proofs.Common.{append_assoc, append-nil, length-append, sym, ap, subst, refl, ◌∙◌, arith}
use Rattle.std.specs.FinMap.{entries, entries_sorted, from_sorted}
use Rattle.std.proofs.lemmas.Bool.{lt-ltb}
use Rattle.std.proofs.lemmas.List.{length-take}
use Rattle.lake_base.specs.Maps.{byte_order, HasAscendingKeys}
use Rattle.lake_base.proofs.MapsLemmas.{same_again}
use Rattle.lake_values.specs.Entry.{EntryValue}
use Rattle.lake_values.specs.Join.{rows_at}
use Rattle.lake_values.specs.KeyMap.{KeyMapValue, ChangesValue, change_between, differences}
use Rattle.lake_values.specs.Merging.{merged_map, side_value, is_neither, conflicts, is_refused}
use Rattle.lake_values.specs.declared.entry.Change.{Change}
use Rattle.lake_values.specs.declared.commit.Strategy.{Strategy}
use Rattle.lake_values.specs.declared.commit.Strategy.TheVariants.{Refuse, SourceWins, DestWins}
use Rattle.lake_values.specs.declared.merge.Side.{Side}
use Rattle.lake_values.specs.declared.merge.Side.TheVariants.{Source, Destination, Neither}
use Rattle.key_merge.specs.Refusal.{TellsConflicts}
use Rattle.key_merge.specs.MergeWalk.{SidesValue, FrontValue, Ascend, sides_of, sides_above, first_front, side_at, winning_side, change_at, changes_of}
use Rattle.key_merge.specs.MergeWalk.{conflicts_of, refusals_of, refused_paths}
use Rattle.key_merge.proofs.FrontLemmas.{IsFront, front_is, no_front, fewer}
use Rattle.key_merge.proofs.ChangesLemmas.{stays, changes_next, no_changes, all_changes}
use Rattle.key_merge.proofs.ConflictsLemmas.{conflicts_next, no_conflicts, all_conflicts}

-- ---- whose value a path takes

module _ (source dest : Option EntryValue) where
  source_taken : (strategy : Strategy) (side : Side) → winning_side strategy side ≡ Source → side_value strategy source dest side ≡ source
  source_taken strategy Source e = refl
  source_taken strategy Destination e = cc
  source_taken Refuse Neither e = cc
  source_taken SourceWins Neither e = refl
  source_taken DestWins Neither e = cc

  dest_stays : (strategy : Strategy) (side : Side) → winning_side strategy side ≡ Destination → side_value strategy source dest side ≡ dest
  dest_stays strategy Source e = cc
  dest_stays strategy Destination e = refl
  dest_stays Refuse Neither e = cc
  dest_stays SourceWins Neither e = cc
  dest_stays DestWins Neither e = refl

-- a merge refuses without a strategy alone, at a path that conflicts
pub undecided : (strategy : Strategy) (side : Side) → winning_side strategy side ≡ Neither → (strategy ≡ Refuse) × (is_neither side ≡ true)
undecided strategy Source e = cc
undecided strategy Destination e = cc
undecided Refuse Neither e = (refl, refl)
undecided SourceWins Neither e = cc
undecided DestWins Neither e = cc

-- ---- one turn

-- what is known of the rows before a front and above it
pub record IsTurn (old new : SidesValue) (front : FrontValue) : Type 0 where
  pub ascend : Ascend old
  pub is : IsFront old front
  pub above : new ≡ sides_above front.path old

pub turn_of : (old new : SidesValue) (front : FrontValue) → Some front ≡ first_front old → new ≡ sides_above front.path old → Ascend old → IsTurn old new front
turn_of old new front first above ascend = record { ascend = ascend; is = front_is old front first; above = above }

module _ (old new : SidesValue) (front : FrontValue) (turn : IsTurn old new front) where
  pub turn_fewer : length new.base + length new.source < length old.base + length old.source
  turn_fewer = subst (λ (s : SidesValue). length s.base + length s.source < length old.base + length old.source) (sym turn.above)
      (fewer old.base old.source front.path turn.is.least)

  turn_changes : (strategy : Strategy) → changes_of strategy old ≡ rows_at front.path (change_at strategy front) ++ changes_of strategy new
  turn_changes strategy =
      changes_next strategy old front turn.ascend turn.is ∙ ap (λ s. rows_at front.path (change_at strategy front) ++ changes_of strategy s) (sym turn.above)

  pub turn_conflicts : conflicts_of old ≡ cond (is_neither (side_at front)) (front.path ∷ conflicts_of new) (conflicts_of new)
  turn_conflicts =
      conflicts_next old front turn.ascend turn.is ∙ ap (λ s. cond (is_neither (side_at front)) (front.path ∷ conflicts_of s) (conflicts_of s)) (sym turn.above)

  -- the source's value is taken
  pub take_turn : (strategy : Strategy) (made pushed all : List (List ℕ × Change)) → winning_side strategy (side_at front) ≡ Source
      → pushed ≡ made ++ rows_at front.path (change_between front.source front.dest)
      → made ++ changes_of strategy old ≡ all → pushed ++ changes_of strategy new ≡ all
  take_turn strategy made pushed all source is so_far =
      let change : change_at strategy front ≡ change_between front.source front.dest =
      ap (λ v. change_between v front.dest) (source_taken front.source front.dest strategy (side_at front) source) in
      ap (λ l. l ++ changes_of strategy new) is
      ∙ append_assoc made (rows_at front.path (change_between front.source front.dest)) (changes_of strategy new)
      ∙ ap (λ c. made ++ (rows_at front.path c ++ changes_of strategy new)) (sym change)
      ∙ ap (λ l. made ++ l) (sym (turn_changes strategy))
      ∙ so_far

  -- the destination's stays
  pub stay_turn : (strategy : Strategy) (made all : List (List ℕ × Change)) → winning_side strategy (side_at front) ≡ Destination
      → made ++ changes_of strategy old ≡ all → made ++ changes_of strategy new ≡ all
  stay_turn strategy made all dest so_far =
      let change : change_at strategy front ≡ None =
      ap (λ v. change_between v front.dest) (dest_stays front.source front.dest strategy (side_at front) dest) ∙ stays front.dest in
      ap (λ c. made ++ (rows_at front.path c ++ changes_of strategy new)) (sym change)
      ∙ ap (λ l. made ++ l) (sym (turn_changes strategy))
      ∙ so_far

  calm_by : (b : Bool) → b ≡ false → cond b (front.path ∷ conflicts_of new) (conflicts_of new) ≡ conflicts_of new
  calm_by true e = cc
  calm_by false e = refl

  refusals_by : (strategy : Strategy) (side : Side) → side ≡ side_at front → (winning_side strategy side ≡ Neither → ⊥)
      → refusals_of strategy old ≡ refusals_of strategy new
  refusals_by Refuse Source is never = turn_conflicts ∙ calm_by _ (ap is_neither (sym is))
  refusals_by Refuse Destination is never = turn_conflicts ∙ calm_by _ (ap is_neither (sym is))
  refusals_by Refuse Neither is never = absurd (never refl)
  refusals_by SourceWins side is never = refl
  refusals_by DestWins side is never = refl

  -- where it refuses at none so far, it refuses at none here
  pub refuse_turn : (strategy : Strategy) (all : List (List ℕ)) → (winning_side strategy (side_at front) ≡ Neither → ⊥) → refusals_of strategy old ≡ all
      → refusals_of strategy new ≡ all
  refuse_turn strategy all never so_far = sym (refusals_by strategy (side_at front) refl never) ∙ so_far

-- ---- the end

-- without strategy, a merge in which a path conflicts is refused
refused_by : (base source dest : KeyMapValue) (path : List ℕ) (paths : List (List ℕ)) → conflicts base source dest ≡ path ∷ paths
    → TellsConflicts Refuse base source dest (take 100 (path ∷ paths)) (length (path ∷ paths))
refused_by base source dest path paths are = record {
  refused = ap (λ l. ltb 0 (length l)) are ∙ lt-ltb 0 (length (path ∷ paths)) (omega arith);
  least = ap (take 100) (sym are);
  count = ap length (sym are);
}

-- the first path at which it refuses, and the conflicts above it, are all conflicts
pub refused_at : (strategy : Strategy) (base source dest : KeyMapValue) (old new : SidesValue) (front : FrontValue) → IsTurn old new front
    → winning_side strategy (side_at front) ≡ Neither
    → refusals_of strategy old ≡ refused_paths strategy base source dest
    → TellsConflicts strategy base source dest (take 100 (front.path ∷ conflicts_of new)) (length (front.path ∷ conflicts_of new))
refused_at strategy base source dest old new front turn refuses so_far =
    let two = undecided strategy (side_at front) refuses in
    let all : refusals_of Refuse old ≡ refused_paths Refuse base source dest = subst (λ s. refusals_of s old ≡ refused_paths s base source dest) two.0 so_far in
    let first : conflicts_of old ≡ front.path ∷ conflicts_of new =
    turn_conflicts old new front turn ∙ ap (λ b. cond b (front.path ∷ conflicts_of new) (conflicts_of new)) two.1 in
    subst (λ s. TellsConflicts s base source dest (take 100 (front.path ∷ conflicts_of new)) (length (front.path ∷ conflicts_of new))) (sym two.0)
    (refused_by base source dest front.path (conflicts_of new) (sym all ∙ first))

-- at the end no row gives a change, and none refuses
pub no_more : (strategy : Strategy) (sides : SidesValue) → None ≡ first_front sides → (changes_of strategy sides ≡ []) × (refusals_of strategy sides ≡ [])
no_more strategy sides none =
    let two = no_front sides none in
    (no_changes strategy sides two.0 two.1, by strategy (no_conflicts sides two.0 two.1))
  where
    by : (strategy : Strategy) → conflicts_of sides ≡ [] → refusals_of strategy sides ≡ []
    by Refuse e = e
    by SourceWins e = refl
    by DestWins e = refl

-- so what is gathered is all of the changes
pub gathered_all : (strategy : Strategy) (base source dest : KeyMapValue) (sides : SidesValue) (made : List (List ℕ × Change)) → None ≡ first_front sides
    → made ++ changes_of strategy sides ≡ entries (differences (merged_map strategy base source dest) dest)
    → made ≡ entries (differences (merged_map strategy base source dest) dest)
gathered_all strategy base source dest sides made none so_far = sym (append-nil made) ∙ ap (λ l. made ++ l) (sym (no_more strategy sides none).0) ∙ so_far

pub gathered_ascend : (changes : ChangesValue) (made : List (List ℕ × Change)) → made ≡ entries changes → HasAscendingKeys made
gathered_ascend changes made is = subst HasAscendingKeys (sym is) (entries_sorted changes)

pub gathered_are : (changes : ChangesValue) (made : List (List ℕ × Change)) → made ≡ entries changes → from_sorted {R = byte_order} made ≡ changes
gathered_are changes made is = ap from_sorted is ∙ same_again changes

-- and it isn't refused
pub unrefused : (strategy : Strategy) (base source dest : KeyMapValue) (sides : SidesValue) → None ≡ first_front sides
    → refusals_of strategy sides ≡ refused_paths strategy base source dest → is_refused strategy base source dest ≡ false
unrefused strategy base source dest sides none so_far = by strategy (sym so_far ∙ (no_more strategy sides none).1)
  where
    by : (strategy : Strategy) → refused_paths strategy base source dest ≡ [] → is_refused strategy base source dest ≡ false
    by Refuse e = ap (λ l. ltb 0 (length l)) e
    by SourceWins e = refl
    by DestWins e = refl

-- ---- the count of conflicts

-- what is listed and counted of the conflicts found so far, before those of the rows still to come
pub record Tells (paths : List (List ℕ)) (total : ℕ) (left all : List (List ℕ)) : Type 0 where
  pub found : List (List ℕ)
  pub least : paths ≡ take 100 found
  pub count : total ≡ length found
  pub whole : found ++ left ≡ all

pub tells_few : (paths left all : List (List ℕ)) (total : ℕ) → Tells paths total left all → length paths ≤ 100
tells_few paths left all total tells = omega (arith, ap length tells.least, length-take 100 tells.found)

pub tells_first : (path : List ℕ) (paths left : List (List ℕ)) → paths ≡ take 100 (path ∷ []) → Tells paths 1 left (path ∷ left)
tells_first path paths left is = record { found = path ∷ []; least = is; count = omega arith; whole = refl }

-- of a list that is cut, with more behind it, the front is that of the whole
take_cut : {X : Type 0} (n : ℕ) (xs ys : List X) → take n (take n xs ++ ys) ≡ take n (xs ++ ys)
take_cut zero xs ys = refl
take_cut (suc n) [] ys = refl
take_cut (suc n) (x ∷ xs) ys = ap (λ l. x ∷ l) (take_cut n xs ys)

-- one more conflict
pub tells_more : (path : List ℕ) (paths listed left all : List (List ℕ)) (total : ℕ) → Tells paths total (path ∷ left) all
    → listed ≡ take 100 (paths ++ path ∷ []) → Tells listed (total + 1) left all
tells_more path paths listed left all total tells is = record {
  found = tells.found ++ path ∷ [];
  least = is ∙ ap (λ l. take 100 (l ++ path ∷ [])) tells.least ∙ take_cut 100 tells.found (path ∷ []);
  count = omega (arith, tells.count, length-append tells.found (path ∷ []));
  whole = append_assoc tells.found (path ∷ []) left ∙ tells.whole;
}

-- at the end all are told
pub tells_all : (paths left all : List (List ℕ)) (total : ℕ) → left ≡ [] → Tells paths total left all → (paths ≡ take 100 all) × (total ≡ length all)
tells_all paths left all total none tells =
    let found_all : tells.found ≡ all = sym (append-nil tells.found) ∙ ap (λ l. tells.found ++ l) (sym none) ∙ tells.whole in
    (tells.least ∙ ap (take 100) found_all, tells.count ∙ ap length found_all)

-- a turn at a path that conflicts
pub conflict_turn : (old new : SidesValue) (front : FrontValue) → IsTurn old new front → is_neither (side_at front) ≡ true
    → (paths listed all : List (List ℕ)) (total : ℕ)
    → Tells paths total (conflicts_of old) all → listed ≡ take 100 (paths ++ front.path ∷ []) → Tells listed (total + 1) (conflicts_of new) all
conflict_turn old new front turn conflict paths listed all total tells is =
    let left : conflicts_of old ≡ front.path ∷ conflicts_of new =
    turn_conflicts old new front turn ∙ ap (λ b. cond b (front.path ∷ conflicts_of new) (conflicts_of new)) conflict in
    tells_more front.path paths listed (conflicts_of new) all total (subst (λ l. Tells paths total l all) left tells) is

-- and at one that doesn't
pub calm_turn : (old new : SidesValue) (front : FrontValue) → IsTurn old new front → is_neither (side_at front) ≡ false
    → (paths all : List (List ℕ)) (total : ℕ)
    → Tells paths total (conflicts_of old) all → Tells paths total (conflicts_of new) all
calm_turn old new front turn calm paths all total tells =
    let left : conflicts_of old ≡ conflicts_of new =
    turn_conflicts old new front turn ∙ ap (λ b. cond b (front.path ∷ conflicts_of new) (conflicts_of new)) calm in
    subst (λ l. Tells paths total l all) left tells

pub no_conflict_left : (sides : SidesValue) → None ≡ first_front sides → conflicts_of sides ≡ []
no_conflict_left sides none = let two = no_front sides none in no_conflicts sides two.0 two.1

pub source_decides : (side : Side) → side ≡ Source → side ≡ Neither → ⊥
source_decides side e f = cc

pub dest_decides : (side : Side) → side ≡ Destination → side ≡ Neither → ⊥
dest_decides side e f = cc

-- ---- the start

-- before the first turn, all changes are still to come
pub gathered_first : (strategy : Strategy) (base source dest : KeyMapValue) (sides : SidesValue) (made : List (List ℕ × Change))
    → sides ≡ sides_of base source dest → made ≡ []
    → made ++ changes_of strategy sides ≡ entries (differences (merged_map strategy base source dest) dest)
gathered_first strategy base source dest sides made all none =
    ap (λ l. l ++ changes_of strategy sides) none ∙ ap (changes_of strategy) all ∙ all_changes strategy base source dest

-- and all paths for which it refuses
pub unrefused_first : (strategy : Strategy) (base source dest : KeyMapValue) (sides : SidesValue) → sides ≡ sides_of base source dest
    → refusals_of strategy sides ≡ refused_paths strategy base source dest
unrefused_first Refuse base source dest sides all = ap conflicts_of all ∙ all_conflicts base source dest
unrefused_first SourceWins base source dest sides all = refl
unrefused_first DestWins base source dest sides all = refl
