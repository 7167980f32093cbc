-- From the empty name on, all items are listed where no key is empty.
use Rattle.std.proofs.Common.{◌≡◌, ℕ, Bool, true, false, cond, Option, Some, None, option_map, List, [], ◌∷◌, ◌++◌, length, map, drop, refl, sym, ap, ◌∙◌}
use Rattle.std.proofs.Common.{nat_eq, subst}
use Rattle.std.specs.List.{starts_with, Contains}
use Rattle.std.specs.Ordering.{is_lt, eq_by_cmp}
use Rattle.std.specs.declared.cmp.Ordering.TheVariants.{Less}
use Rattle.std.specs.FinMap.{find, entries, get-entries}
use Rattle.lake_values.specs.Entry.{EntryValue}
use Rattle.lake_values.specs.KeyMap.{KeyMapValue, HasPathKeys}
use Rattle.lake_base.specs.Maps.{byte_order}
use Rattle.lake_pages.specs.Listing.{front_through, item_from, item_of, item_name, items_after, items_of, items_above, IsItem}
use Rattle.lake_pages.specs.declared.listing.Item.{Item}
use Rattle.lake_pages.specs.declared.listing.PageQuery.{PageQuery}
use Rattle.lake_base.specs.Names.{path_fault}
use Rattle.lake_base.proofs.MapsLemmas.{same_key}
use Rattle.lake_pages.proofs.ListingItemLemmas.{tied, listed_is, has_first, has_later}
use Rattle.lake_pages.proofs.ListingPageLemmas.{Items, Named, named}

-- each text but the empty one is above the empty one
empty_least : (text : List ℕ) → (text ≡ [] → ⊥) → byte_order [] text ≡ Less
empty_least [] some = absurd (some refl)
empty_least (x ∷ xs) some = refl

-- a front through a delimiter isn't empty
front_some : (byte : ℕ) (bytes text front : List ℕ) → front_through (byte ∷ bytes) text ≡ Some front → front ≡ [] → ⊥
front_some byte bytes [] front is empty = cc
front_some byte bytes (x ∷ text) front is empty = by (starts_with nat_eq (x ∷ text) (byte ∷ bytes)) (front_through (byte ∷ bytes) text) is
  where
    by : (b : Bool) (o : Option (List ℕ)) → cond b (Some (byte ∷ bytes)) (option_map (λ rest. x ∷ rest) o) ≡ Some front → ⊥
    by true o e = cc
    by false None e = cc
    by false (Some rest) e = cc

-- no more is a text with one behind it
behind_some : (prefix front : List ℕ) → (front ≡ [] → ⊥) → prefix ++ front ≡ [] → ⊥
behind_some [] front some empty = some empty
behind_some (p ∷ prefix) front some empty = cc

-- the name of a key's item isn't empty where the key isn't
name_some : (prefix delimiter key : List ℕ) (entry : EntryValue) → (key ≡ [] → ⊥) → item_name (item_of prefix delimiter key entry) ≡ [] → ⊥
name_some prefix [] key entry some empty = some empty
name_some prefix (byte ∷ bytes) key entry some empty =
    by (front_through (byte ∷ bytes) (drop (length prefix) key)) (front_some byte bytes (drop (length prefix) key)) empty
  where
    by : (o : Option (List ℕ)) → ((front : List ℕ) → o ≡ Some front → front ≡ [] → ⊥)
        → item_name (item_from (option_map (λ front. prefix ++ front) o) key entry) ≡ [] → ⊥
    by None fronts e = some e
    by (Some front) fronts e = behind_some prefix front (fronts front refl) e

-- above the empty name stand all items whose names aren't empty
above_empty : (s : Items) → Named s → ((i : Item) → Contains (map (λ y. y.1) s) i → item_name i ≡ [] → ⊥) → items_after [] s ≡ s
above_empty [] n some = refl
above_empty (x ∷ s) n some =
    let first : byte_order [] x.0 ≡ Less = ap (byte_order []) n.0 ∙ empty_least (item_name x.1) (some x.1 (has_first x s x.1 refl)) in
    ap (λ o. cond (is_lt o) (x ∷ items_after [] s) (items_after [] s)) first ∙ ap (λ l. x ∷ l) (above_empty s n.1 (λ i has. some i (has_later x s i has)))

-- a key that stands there is a path
find_path : (es : List (List ℕ × EntryValue)) (key : List ℕ) (entry : EntryValue) → HasPathKeys es → find byte_order key es ≡ Some entry → path_fault key ≡ None
find_path [] key entry all f = cc
find_path (e ∷ es) key entry all f = by (eq_by_cmp byte_order key e.0) refl f (find_path es key entry all.1)
  where
    by : (b : Bool) → eq_by_cmp byte_order key e.0 ≡ b → cond b (Some e.1) (find byte_order key es) ≡ Some entry
        → (find byte_order key es ≡ Some entry → path_fault key ≡ None) → path_fault key ≡ None
    by true t f rest = subst (λ k. path_fault k ≡ None) (sym (same_key key e.0 (tied _ t))) all.0
    by false t f rest = rest f

-- which isn't empty
path_some : (key : List ℕ) → path_fault key ≡ None → key ≡ [] → ⊥
path_some [] path empty = cc
path_some (x ∷ xs) path empty = cc

pub all_above_empty : (query : PageQuery) (objects : KeyMapValue) → query.after ≡ [] → HasPathKeys (entries objects)
    → items_above query objects ≡ map (λ i. i.1) (items_of query (entries objects))
all_above_empty query objects empty paths =
    ap (λ after. map (λ i. i.1) (items_after after (items_of query (entries objects)))) empty
    ∙ ap (map (λ i. i.1))
    (above_empty (items_of query (entries objects)) (named query.prefix query.delimiter (entries objects)) (λ i has. by i ((listed_is query objects i).0 has)))
  where
    by : (i : Item) → IsItem query objects i → item_name i ≡ [] → ⊥
    by i is e = name_some query.prefix query.delimiter is.key is.entry
        (path_some is.key (find_path (entries objects) is.key is.entry paths (sym (get-entries objects is.key) ∙ is.stands)))
        (sym (ap item_name is.is) ∙ e)
