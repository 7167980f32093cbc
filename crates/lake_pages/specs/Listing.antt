-- Listings: the items of a key map under a prefix and a delimiter, and their pages.
use Rattle.std.specs.Prelude.{◌≡◌, true, ℕ, zero, suc, Bool, List, [], ◌∷◌, ◌++◌, length, map, take, drop, filter, Option, Some, None, option_map, nat_eq}
use Rattle.std.specs.Prelude.{nat_lt, if◌then◌else◌}
use Rattle.std.specs.List.{starts_with}
use Rattle.std.specs.Ordering.{is_lt}
use Rattle.std.specs.FinMap.{empty, insert, get, entries}
use Rattle.lake_values.specs.Entry.{EntryValue}
use Rattle.lake_values.specs.KeyMap.{KeyMapValue}
use Rattle.lake_base.specs.Maps.{ByteMap, byte_order}
use Rattle.lake_pages.specs.declared.listing.Item.{Item}
use Rattle.lake_pages.specs.declared.listing.Item.TheVariants as item
use Rattle.lake_pages.specs.declared.listing.PageQuery.{PageQuery}

-- the bytes up to and including the first delimiter, where there is one
abbrev pub front_through : List ℕ → List ℕ → Option (List ℕ)
front_through delimiter [] = None
front_through delimiter (byte ∷ bytes) =
    if starts_with nat_eq (byte ∷ bytes) delimiter then Some delimiter
    else option_map (λ front. byte ∷ front) (front_through delimiter bytes)

-- a key up to and including the first delimiter after the prefix, where the delimiter isn't empty and occurs there
abbrev pub common_prefix : List ℕ → List ℕ → List ℕ → Option (List ℕ)
common_prefix prefix [] key = None
common_prefix prefix (byte ∷ bytes) key = option_map (λ front. prefix ++ front) (front_through (byte ∷ bytes) (drop (length prefix) key))

-- the common prefix, or else the key with its entry
abbrev pub item_from : Option (List ℕ) → List ℕ → EntryValue → Item
item_from None key entry = item.Object key entry
item_from (Some text) key entry = item.Prefix text

-- the item of a key that begins with the prefix
abbrev pub item_of : List ℕ → List ℕ → List ℕ → EntryValue → Item
item_of prefix delimiter key entry = item_from (common_prefix prefix delimiter key) key entry

-- the name of an item: its path, or the common prefix
abbrev pub item_name : Item → List ℕ
item_name (item.Object path entry) = path
item_name (item.Prefix text) = text

-- the items of the keys that begin with the prefix, by name
abbrev pub item_map : List ℕ → List ℕ → List (List ℕ × EntryValue) → ByteMap Item
item_map prefix delimiter [] = empty
item_map prefix delimiter (e ∷ es) =
    if starts_with nat_eq e.0 prefix
    then insert (item_map prefix delimiter es) (item_name (item_of prefix delimiter e.0 e.1)) (item_of prefix delimiter e.0 e.1)
    else item_map prefix delimiter es

-- the item of some key that begins with the prefix
pub record IsItem (query : PageQuery) (objects : KeyMapValue) (item : Item) : Type 0 where
  pub key : List ℕ
  pub entry : EntryValue
  pub stands : get objects key ≡ Some entry
  pub begins : starts_with nat_eq key query.prefix ≡ true
  pub is : item ≡ item_of query.prefix query.delimiter key entry

-- the items in byte order, each once
abbrev pub items_of : PageQuery → List (List ℕ × EntryValue) → List (List ℕ × Item)
items_of query es = entries (item_map query.prefix query.delimiter es)

-- of them, those above `after`
abbrev pub items_after : List ℕ → List (List ℕ × Item) → List (List ℕ × Item)
items_after after items = filter (λ i. is_lt (byte_order after i.0)) items

-- the items that a sorted list of entries still gives
abbrev pub items_left : PageQuery → List (List ℕ × EntryValue) → List Item
items_left query es = map (λ i. i.1) (items_after query.after (items_of query es))

-- the items of a map above `after`, in byte order of their names
abbrev pub items_above : PageQuery → KeyMapValue → List Item
items_above query objects = items_left query (entries objects)

-- a page is the first of them, so many
abbrev pub page_items : PageQuery → KeyMapValue → List Item
page_items query objects = take query.amount (items_above query objects)

-- whether one is left
abbrev pub has_more : PageQuery → KeyMapValue → Bool
has_more query objects = nat_lt query.amount (length (items_above query objects))

-- the name of the last item, or the one before where there is none
abbrev pub last_name : List ℕ → List Item → List ℕ
last_name before [] = before
last_name before (i ∷ items) = last_name (item_name i) items

-- the query for what comes after these items
abbrev pub query_after : PageQuery → List Item → PageQuery
query_after query items = record { prefix = query.prefix; after = last_name query.after items; amount = query.amount; delimiter = query.delimiter }

-- the items of at most so many pages, each taken after the last item of the one before
abbrev pub pages : ℕ → PageQuery → KeyMapValue → List Item
pages zero query objects = []
pages (suc n) query objects =
    page_items query objects ++ (if has_more query objects then pages n (query_after query (page_items query objects)) objects else [])
