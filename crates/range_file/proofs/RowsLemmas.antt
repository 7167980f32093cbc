-- Rows whose paths ascend, with one more at their end.
use Rattle.std.proofs.Common.{◌≡◌, ℕ, suc, ◌-◌, ◌+◌, ◌<◌, Bool, T, true, false, List, [], ◌∷◌, ◌++◌, length, get_or, take, drop, refl, sym, ap, subst, ◌∙◌}
use Rattle.std.proofs.Common.{drop-cons, arith}
use Rattle.std.proofs.lemmas.List.{take_more, take-append-drop}
use Rattle.std.specs.Option.{option_map}
use Rattle.std.specs.List.{slice_get}
use Rattle.std.specs.Ordering.{is_lt}
use Rattle.lake_base.specs.Maps.{byte_order, HasAscendingKeys}
use Rattle.lake_base.proofs.MapsLemmas.{first, both, less, less_more, head_below, tail_ascends}
use Rattle.lake_format.specs.Reading.{is_next}
use Rattle.range_file.specs.Rows.{RowValue, last_path}

from_T : (b : Bool) → T b → b ≡ true
from_T true h = refl
from_T false h = absurd h

last_of_two : (a b : RowValue) (rows : List RowValue) → last_path (a ∷ b ∷ rows) ≡ last_path (b ∷ rows)
last_of_two a b rows =
    let place : length (a ∷ b ∷ rows) - 1 ≡ suc (length (b ∷ rows) - 1) = omega arith in
    ap (λ at. option_map (λ (row : RowValue). row.0) (slice_get (a ∷ b ∷ rows) at)) place

-- a row above the last one is above all
pub ascend_more : (before : List RowValue) (row : RowValue) → HasAscendingKeys before → is_next (last_path before) row.0 ≡ true
    → HasAscendingKeys (before ++ row ∷ [])
ascend_more [] row h next = tt
ascend_more (a ∷ []) row h next = both _ _ (both _ _ (subst T (sym next) tt) tt) tt
ascend_more (a ∷ b ∷ rows) row h next =
    let more = ascend_more (b ∷ rows) row (tail_ascends a (b ∷ rows) h) (ap (λ last. is_next last row.0) (sym (last_of_two a b rows)) ∙ next) in
    let below : T (is_lt (byte_order a.0 b.0)) = first _ _ (head_below a (b ∷ rows) h) in
    both _ _ (both _ _ below (less_more a.0 b.0 (rows ++ row ∷ []) (less _ below) (head_below b (rows ++ row ∷ []) more))) more

-- each row is above the one before it
pub next_of_ascend : (before : List RowValue) (row : RowValue) (more : List RowValue) → HasAscendingKeys (before ++ row ∷ more)
    → is_next (last_path before) row.0 ≡ true
next_of_ascend [] row more h = refl
next_of_ascend (a ∷ []) row more h = from_T _ (first _ _ (head_below a (row ∷ more) h))
next_of_ascend (a ∷ b ∷ rows) row more h =
    ap (λ last. is_next last row.0) (last_of_two a b rows) ∙ next_of_ascend (b ∷ rows) row more (tail_ascends a (b ∷ rows ++ row ∷ more) h)

-- the same at a place of a list
pub ascend_at : (rows : List RowValue) (at : ℕ) (row : RowValue) → at < length rows → row ≡ get_or rows at row → HasAscendingKeys (take at rows)
    → is_next (last_path (take at rows)) row.0 ≡ true → HasAscendingKeys (take (at + 1) rows)
ascend_at rows at row lt is h next =
    let whole : take (at + 1) rows ≡ take at rows ++ row ∷ [] = take_more rows at row lt ∙ ap (λ r. take at rows ++ r ∷ []) (sym is) in
    subst HasAscendingKeys (sym whole) (ascend_more (take at rows) row h next)

pub stray_at : (rows : List RowValue) (at : ℕ) (row : RowValue) → at < length rows → row ≡ get_or rows at row → is_next (last_path (take at rows)) row.0 ≡ false
    → HasAscendingKeys rows → ⊥
stray_at rows at row lt is stray h =
    let rest : drop at rows ≡ row ∷ drop (suc at) rows = drop-cons rows at row lt ∙ ap (λ r. r ∷ drop (suc at) rows) (sym is) in
    let whole : rows ≡ take at rows ++ row ∷ drop (suc at) rows = sym (take-append-drop at rows) ∙ ap (λ l. take at rows ++ l) rest in
    let next = next_of_ascend (take at rows) row (drop (suc at) rows) (subst HasAscendingKeys whole h) in
    cc
