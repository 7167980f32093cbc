-- How a page is taken from entries in ascending order, step by step.
use Rattle.std.specs.Prelude.{◌≡◌, ◌<◌, true, false, ℕ, List, [], ◌∷◌, ◌++◌, ◌+◌, length, nat_eq, Option, Some, None, if◌then◌else◌}
use Rattle.std.specs.List.{starts_with, AllByRecursion}
use Rattle.std.specs.Ordering.{is_lt, is_gt}
use Rattle.std.specs.declared.cmp.Ordering.TheVariants.{Less}
use Rattle.lake_values.specs.Entry.{EntryValue}
use Rattle.lake_pages.specs.Listing.{common_prefix, item_name, item_of, items_left}
use Rattle.lake_base.specs.Maps.{byte_order, HasAscendingKeys}
use Rattle.lake_pages.specs.declared.listing.Item.{Item}
use Rattle.lake_pages.specs.declared.listing.PageQuery.{PageQuery}

-- a byte and those after it, with the last raised by one
abbrev pub last_byte_plus_one : ℕ → List ℕ → List ℕ
last_byte_plus_one byte [] = (byte + 1) ∷ []
last_byte_plus_one byte (next ∷ bytes) = byte ∷ last_byte_plus_one next bytes

-- the least bytes above all that begin with a name
abbrev pub name_end : List ℕ → List ℕ
name_end [] = []
name_end (byte ∷ bytes) = last_byte_plus_one byte bytes

-- the least bytes above a name and above all that are listed as its common prefix
abbrev pub item_end : Option (List ℕ) → List ℕ → List ℕ
item_end None name = name ++ 0 ∷ []
item_end (Some text) name = name_end text

-- the least bytes at which a key of the page can stand
abbrev pub page_start : PageQuery → List ℕ
page_start query =
    if starts_with nat_eq query.after query.prefix then item_end (common_prefix query.prefix query.delimiter query.after) query.after
    else if is_lt (byte_order query.after query.prefix) then query.prefix
    else query.after

-- a key isn't below the prefix, and its item is above `after` where it begins with the prefix
pub record IsDue (query : PageQuery) (key : List ℕ) (entry : EntryValue) : Type 0 where
  pub from : is_gt (byte_order query.prefix key) ≡ false
  pub later : starts_with nat_eq key query.prefix ≡ true → byte_order query.after (item_name (item_of query.prefix query.delimiter key entry)) ≡ Less

-- entries from which a page goes on
pub record IsRest (query : PageQuery) (es : List (List ℕ × EntryValue)) : Type 0 where
  pub ascend : HasAscendingKeys es
  pub due : AllByRecursion (λ e. IsDue query e.0 e.1) es

-- the first item of some entries, and entries that have the others
pub record ListsFirst (query : PageQuery) (es : List (List ℕ × EntryValue)) (item : Item) (left : List (List ℕ × EntryValue)) : Type 0 where
  pub first : items_left query es ≡ item ∷ items_left query left
  pub rest : IsRest query left
  pub fewer : length left < length es
