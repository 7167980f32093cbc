-- Pages taken one after the other.
use Rattle.std.proofs.Common.{◌≡◌, ℕ, zero, suc, ◌<◌, ◌≤◌, T, Bool, true, false, cond, List, [], ◌∷◌, ◌++◌, length, get_or, map, take, drop, nat_eq, refl, sym}
use Rattle.std.proofs.Common.{ap, subst, ◌∙◌, arith}
use Rattle.std.specs.List.{starts_with, AllByRecursion}
use Rattle.std.specs.Ordering.{is_lt}
use Rattle.std.specs.declared.cmp.Ordering.{Ordering}
use Rattle.std.specs.declared.cmp.Ordering.TheVariants.{Less, Equal, Greater}
use Rattle.std.proofs.lemmas.Bool.{ltb-true, ltb-false}
use Rattle.std.proofs.lemmas.Cmp.{nat_list_cmp_total, tied_itself}
use Rattle.std.proofs.lemmas.List.{append-nil, take-append-drop, take_all, length-drop}
use Rattle.std.specs.FinMap.{put, entries, entries_sorted}
use Rattle.std.specs.FinMap.Entries.{by_order}
use Rattle.lake_values.specs.Entry.{EntryValue}
use Rattle.lake_values.specs.KeyMap.{KeyMapValue}
use Rattle.lake_base.specs.Maps.{byte_order, HasAscendingKeys}
use Rattle.lake_pages.specs.Listing.{item_name, item_of, item_map, items_after, items_above, page_items, has_more, last_name, query_after, pages}
use Rattle.lake_pages.specs.declared.listing.Item.{Item}
use Rattle.lake_pages.specs.declared.listing.PageQuery.{PageQuery}
use Rattle.lake_base.proofs.MapsLemmas.{head_below, tail_ascends, below_at, both, turned, same_key}
use Rattle.lake_values.proofs.KeyMapLemmas.{less_more}
use Rattle.lake_pages.proofs.ListingStepLemmas.{all_above, nothing, none_listed, items_under, items_not}
use Rattle.lake_values.proofs.CursorLemmas.{lt_is}

abbrev pub Items : Type 0
Items = List (List ℕ × Item)

-- each item stands at its name
abbrev pub Named : Items → Type 0
Named items = AllByRecursion (λ i. i.0 ≡ item_name i.1) items

named_put : (i : Item) (es : Items) → Named es → Named (put byte_order (item_name i) i es)
named_put i [] h = (refl, tt)
named_put i (e ∷ es) h = by (byte_order (item_name i) e.0) refl (named_put i es h.1)
  where
    by : (o : Ordering) → byte_order (item_name i) e.0 ≡ o → Named (put byte_order (item_name i) i es)
        → Named (by_order o ((item_name i, i) ∷ e ∷ es) ((e.0, i) ∷ es) (e ∷ put byte_order (item_name i) i es))
    by Less is rest = (refl, h)
    by Equal is rest = (sym (same_key (item_name i) e.0 is), h.1)
    by Greater is rest = (h.0, rest)

pub named : (prefix delimiter : List ℕ) (es : List (List ℕ × EntryValue)) → Named (entries (item_map prefix delimiter es))
named prefix delimiter [] = subst Named (sym none_listed) tt
named prefix delimiter (e ∷ es) = by (starts_with nat_eq e.0 prefix) refl (named prefix delimiter es)
  where
    by : (b : Bool) → starts_with nat_eq e.0 prefix ≡ b → Named (entries (item_map prefix delimiter es)) → Named (entries (item_map prefix delimiter (e ∷ es)))
    by true u h =
        subst Named (sym (items_under prefix delimiter e es u)) (named_put (item_of prefix delimiter e.0 e.1) (entries (item_map prefix delimiter es)) h)
    by false u h = subst Named (sym (items_not prefix delimiter e es u)) h

not_above_it : (n : List ℕ) (e : List ℕ × Item) (es : Items) → is_lt (byte_order n e.0) ≡ false → items_after n (e ∷ es) ≡ items_after n es
not_above_it n e es h = ap (λ b. cond b (e ∷ items_after n es) (items_after n es)) h

-- above the name at a place of a list in order stand those after that place
above_at : (es : Items) (a : ℕ) (d : List ℕ × Item) → HasAscendingKeys es → a < length es → items_after (get_or es a d).0 es ≡ drop (suc a) es
above_at [] a d h lt = absurd (omega arith)
above_at (e ∷ es) zero d h lt =
    not_above_it e.0 e es (ap is_lt (tied_itself nat_list_cmp_total e.0)) ∙ all_above e.0 es (head_below e es h)
above_at (e ∷ es) (suc a) d h lt =
    let key : List ℕ = (get_or es a d).0 in
    let gt : byte_order key e.0 ≡ Greater = turned e.0 key Less (below_at e.0 es a d (head_below e es h) (omega arith)) in
    not_above_it key e es (ap is_lt gt) ∙ above_at es a d (tail_ascends e es h) (omega arith)

passes : (after : List ℕ) (es : Items) (a : ℕ) (d : List ℕ × Item) → a < length (items_after after es)
    → is_lt (byte_order after (get_or (items_after after es) a d).0) ≡ true
passes after [] a d lt = absurd (omega arith)
passes after (e ∷ es) a d lt = by (is_lt (byte_order after e.0)) refl a lt (passes after es)
  where
    by : (b : Bool) → is_lt (byte_order after e.0) ≡ b → (k : ℕ) → k < length (cond b (e ∷ items_after after es) (items_after after es))
        → ((j : ℕ) (d : List ℕ × Item) → j < length (items_after after es) → is_lt (byte_order after (get_or (items_after after es) j d).0) ≡ true)
        → is_lt (byte_order after (get_or (cond b (e ∷ items_after after es) (items_after after es)) k d).0) ≡ true
    by true f zero l rest = f
    by true f (suc k) l rest = rest k d (omega arith)
    by false f k l rest = rest k d l

not_reached : (after last k : List ℕ) → is_lt (byte_order after last) ≡ true → is_lt (byte_order after k) ≡ false → (o : Ordering) → byte_order last k ≡ o
    → is_lt o ≡ false
not_reached after last k yet never Equal is = refl
not_reached after last k yet never Greater is = refl
not_reached after last k yet never Less is = absurd (cc (sym (ap is_lt (nat_list_cmp_total.trans after last k (lt_is _ yet) is)) ∙ never))

after_step : (after : List ℕ) (e : List ℕ × Item) (es : Items) (a : ℕ) (d : List ℕ × Item) → HasAscendingKeys (e ∷ es) → a < length (items_after after (e ∷ es))
    → (a < length (items_after after es) → items_after (get_or (items_after after es) a d).0 es ≡ drop (suc a) (items_after after es))
    → (b : Bool) → is_lt (byte_order after e.0) ≡ b
    → items_after (get_or (items_after after (e ∷ es)) a d).0 (e ∷ es) ≡ drop (suc a) (items_after after (e ∷ es))
after_step after e es a d h lt rest true f =
    let all : items_after after (e ∷ es) ≡ e ∷ es =
    all_above after (e ∷ es) (both _ _ (subst T (sym f) tt) (less_more after e.0 es (lt_is _ f) (head_below e es h))) in
    subst (λ s. items_after (get_or s a d).0 (e ∷ es) ≡ drop (suc a) s) (sym all) (above_at (e ∷ es) a d h (subst (λ s. a < length s) all lt))
after_step after e es a d h lt rest false f =
    let skip : items_after after (e ∷ es) ≡ items_after after es = not_above_it after e es f in
    let within : a < length (items_after after es) = subst (λ s. a < length s) skip lt in
    let last : List ℕ = (get_or (items_after after es) a d).0 in
    let low : is_lt (byte_order last e.0) ≡ false = not_reached after last e.0 (passes after es a d within) f _ refl in
    subst (λ s. items_after (get_or s a d).0 (e ∷ es) ≡ drop (suc a) s) (sym skip) (not_above_it last e es low ∙ rest within)

-- the items above an item of those above another are those after it
after_item : (after : List ℕ) (es : Items) (a : ℕ) (d : List ℕ × Item) → HasAscendingKeys es → a < length (items_after after es)
    → items_after (get_or (items_after after es) a d).0 es ≡ drop (suc a) (items_after after es)
after_item after [] a d h lt = absurd (omega arith)
after_item after (e ∷ es) a d h lt = after_step after e es a d h lt (after_item after es a d (tail_ascends e es h)) _ refl

-- the last of the first so many
last_take : (before : List ℕ) (s : Items) (a : ℕ) (d : List ℕ × Item) → Named s → a < length s
    → last_name before (take (suc a) (map (λ i. i.1) s)) ≡ (get_or s a d).0
last_take before [] a d h lt = absurd (omega arith)
last_take before (x ∷ s) zero d h lt = sym h.0
last_take before (x ∷ s) (suc a) d h lt = last_take (item_name x.1) s a d h.1 (omega arith)

named_above : (after : List ℕ) (es : Items) → Named es → Named (items_after after es)
named_above after [] h = tt
named_above after (e ∷ es) h = by (is_lt (byte_order after e.0)) (named_above after es h.1)
  where
    by : (b : Bool) → Named (items_after after es) → Named (cond b (e ∷ items_after after es) (items_after after es))
    by true rest = (h.0, rest)
    by false rest = rest

drop_map : (n : ℕ) (s : Items) → map (λ i. i.1) (drop n s) ≡ drop n (map (λ i. i.1) s)
drop_map zero s = refl
drop_map (suc n) [] = refl
drop_map (suc n) (x ∷ s) = drop_map n s

length_map : (s : Items) → length (map (λ i. i.1) s) ≡ length s
length_map [] = refl
length_map (x ∷ s) = ap suc (length_map s)

-- the items after a page
next_items : (after : List ℕ) (es : Items) (a : ℕ) → HasAscendingKeys es → Named es → 0 < a → a < length (map (λ i. i.1) (items_after after es))
    → map (λ i. i.1) (items_after (last_name after (take a (map (λ i. i.1) (items_after after es)))) es) ≡ drop a (map (λ i. i.1) (items_after after es))
next_items after [] a h n some lt = absurd (omega arith)
next_items after (e ∷ es) zero h n some lt = absurd (omega arith)
next_items after (e ∷ es) (suc a) h n some lt =
    let s : Items = items_after after (e ∷ es) in
    let within : a < length s = omega (arith, length_map s) in
    ap (λ k. map (λ i. i.1) (items_after k (e ∷ es))) (last_take after s a e (named_above after (e ∷ es) n) within)
    ∙ ap (map (λ i. i.1)) (after_item after (e ∷ es) a e h within)
    ∙ drop_map (suc a) s

pages_step : (n : ℕ) (query : PageQuery) (objects : KeyMapValue) → 0 < query.amount → length (items_above query objects) ≤ suc n
    → (length (items_above (query_after query (page_items query objects)) objects) ≤ n
    → pages n (query_after query (page_items query objects)) objects ≡ items_above (query_after query (page_items query objects)) objects)
    → (b : Bool) → has_more query objects ≡ b → pages (suc n) query objects ≡ items_above query objects
pages_step n query objects some le rest true more =
    let all : List Item = items_above query objects in
    let lt : query.amount < length all = ltb-true _ _ more in
    let es : Items = entries (item_map query.prefix query.delimiter (entries objects)) in
    let next : items_above (query_after query (page_items query objects)) objects ≡ drop query.amount all = next_items query.after es query.amount
    (entries_sorted (item_map query.prefix query.delimiter (entries objects))) (named query.prefix query.delimiter (entries objects)) some lt in
    let fewer : length (items_above (query_after query (page_items query objects)) objects) ≤ n = omega (arith, ap length next, length-drop query.amount all) in
    ap (λ b. take query.amount all ++ cond b (pages n (query_after query (page_items query objects)) objects) []) more
    ∙ ap (λ l. take query.amount all ++ l) (rest fewer ∙ next)
    ∙ take-append-drop query.amount all
pages_step n query objects some le rest false more =
    let all : List Item = items_above query objects in
    ap (λ b. take query.amount all ++ cond b (pages n (query_after query (page_items query objects)) objects) []) more
    ∙ append-nil (take query.amount all) ∙ take_all query.amount all (ltb-false _ _ more)

-- pages one after the other are all items
pub all_pages : (n : ℕ) (query : PageQuery) (objects : KeyMapValue) → 0 < query.amount → length (items_above query objects) ≤ n
    → pages n query objects ≡ items_above query objects
all_pages zero query objects some le = sym (nothing (items_above query objects) (omega (arith, le)))
all_pages (suc n) query objects some le = pages_step n query objects some le (all_pages n (query_after query (page_items query objects)) objects some) _ refl
