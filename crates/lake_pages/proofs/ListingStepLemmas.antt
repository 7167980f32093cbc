-- What the first entry of a sorted list is listed as, and what is listed after it.
use Rattle.std.proofs.Common.{◌≡◌, ℕ, ◌<◌, ◌≤◌, T, Bool, true, false, not, cond, ltb, List, [], ◌∷◌, ◌++◌, length, map, take, drop, Option, Some, None, nat_eq}
use Rattle.std.proofs.Common.{refl, sym, ap, subst, ◌∙◌, append_assoc, arith}
use Rattle.std.specs.List.{starts_with, AllByRecursion}
use Rattle.std.specs.Ordering.{is_gt, is_lt}
use Rattle.std.specs.declared.cmp.Ordering.{Ordering}
use Rattle.std.specs.declared.cmp.Ordering.TheVariants.{Less, Equal, Greater}
use Rattle.std.proofs.lemmas.Bool.{lt-ltb, le-ltb}
use Rattle.std.proofs.lemmas.Cmp.{nat_list_cmp_total, tied_itself, alike_right}
use Rattle.std.proofs.lemmas.List.{append-nil, length-append, take_all, take_at}
use Rattle.std.specs.FinMap.{put, empty, insert, entries, entries-insert, len-entries, len-empty}
use Rattle.std.specs.FinMap.Entries.{below_all, by_order}
use Rattle.lake_values.specs.Cursor.{entries_from}
use Rattle.lake_values.specs.Entry.{EntryValue}
use Rattle.lake_base.specs.Maps.{byte_order, HasAscendingKeys}
use Rattle.lake_pages.specs.Listing.{common_prefix, item_from, item_of, item_name, item_map, items_after, items_left}
use Rattle.lake_pages.specs.ListingSteps.{name_end, page_start, IsDue, IsRest, ListsFirst}
use Rattle.lake_pages.specs.declared.listing.Item.{Item}
use Rattle.lake_pages.specs.declared.listing.Item.TheVariants as item
use Rattle.lake_pages.specs.declared.listing.PageQuery.{PageQuery}
use Rattle.lake_values.proofs.CursorLemmas.{all_of_kept, ascends_from, kept_len, none_passed, seek_passes, seek_stays}
use Rattle.lake_base.proofs.MapsLemmas.{first, second, both, less, head_below, tail_ascends}
use Rattle.lake_pages.proofs.ListingNameLemmas.{below_end}
use Rattle.lake_pages.proofs.ListingPrefixLemmas.{NotAbove, begins_parts, begins_from, not_above, between, Common, common_is, common_of, common_some, and_then}
use Rattle.lake_pages.proofs.ListingPrefixLemmas.{lifted, below_not_above, otherwise}
use Rattle.lake_pages.proofs.ListingStartLemmas.{IsStart, start_is}

-- ---- lists of items

pub nothing : {X : Type 0} (es : List X) → length es ≡ 0 → es ≡ []
nothing [] e = refl
nothing (x ∷ es) e = absurd (omega arith)

pub none_listed : entries (empty {K = List ℕ} {X = Item} {R = byte_order}) ≡ []
none_listed = nothing _ (sym (len-entries (empty {K = List ℕ} {X = Item} {R = byte_order})) ∙ len-empty byte_order Item)

below_put : (n k : List ℕ) (v : Item) (es : List (List ℕ × Item)) → byte_order n k ≡ Less → T (below_all byte_order n es)
    → T (below_all byte_order n (put byte_order k v es))
below_put n k v [] lt h = both _ _ (subst (λ o. T (is_lt o)) (sym lt) tt) tt
below_put n k v (e ∷ es) lt h =
    elim (byte_order k e.0) as (λ o. T (below_all byte_order n (by_order o ((k, v) ∷ e ∷ es) ((e.0, v) ∷ es) (e ∷ put byte_order k v es)))) [
      | Less ↦ both _ _ (subst (λ o. T (is_lt o)) (sym lt) tt) h
      | Equal ↦ h
      | Greater ↦ both _ _ (first _ _ h) (below_put n k v es lt (second _ _ h))
    ]

put_front : (n : List ℕ) (v : Item) (es : List (List ℕ × Item)) → T (below_all byte_order n es) → put byte_order n v es ≡ (n, v) ∷ es
put_front n v [] h = refl
put_front n v (e ∷ es) h = ap (λ o. by_order o ((n, v) ∷ e ∷ es) ((e.0, v) ∷ es) (e ∷ put byte_order n v es)) (less _ (first _ _ h))

put_again : (n : List ℕ) (v w : Item) (es : List (List ℕ × Item)) → put byte_order n v ((n, w) ∷ es) ≡ (n, v) ∷ es
put_again n v w es = ap (λ o. by_order o ((n, v) ∷ (n, w) ∷ es) ((n, v) ∷ es) ((n, w) ∷ put byte_order n v es)) (tied_itself nat_list_cmp_total n)

-- a key past all that begin with a name
record IsPast (text key : List ℕ) : Type 0 where
  pub above : byte_order text key ≡ Less
  pub other : starts_with nat_eq key text ≡ false

past_is : (text key : List ℕ) → 0 < length text → NotAbove text key → is_lt (byte_order key (name_end text)) ≡ false → IsPast text key
past_is text key some le never =
    let other : starts_with nat_eq key text ≡ false = sym (below_end text key some le) ∙ never in
    record { above = by (byte_order text key) refl other; other = other }
  where
    by : (o : Ordering) → byte_order text key ≡ o → starts_with nat_eq key text ≡ false → byte_order text key ≡ Less
    by Less is other = is
    by Equal is other =
        let r = between text [] key le (subst (NotAbove key) (sym (append-nil text)) (otherwise text key Equal is (λ x. cc))) in
        absurd (cc (sym (ap (λ l. starts_with nat_eq l text) r.1 ∙ begins_from text r.0) ∙ other))
    by Greater is other = absurd (cc (sym (ap is_gt is) ∙ le))

module _ (prefix delimiter : List ℕ) where
  abbrev pub under : List ℕ → Bool
  under key = starts_with nat_eq key prefix

  abbrev pub name : List ℕ × EntryValue → List ℕ
  name e = item_name (item_of prefix delimiter e.0 e.1)

  abbrev pub items : List (List ℕ × EntryValue) → List (List ℕ × Item)
  items es = entries (item_map prefix delimiter es)

  pub items_under : (e : List ℕ × EntryValue) (es : List (List ℕ × EntryValue)) → under e.0 ≡ true
      → items (e ∷ es) ≡ put byte_order (name e) (item_of prefix delimiter e.0 e.1) (items es)
  items_under e es u =
      ap (λ b. entries (cond b (insert (item_map prefix delimiter es) (name e) (item_of prefix delimiter e.0 e.1)) (item_map prefix delimiter es))) u
      ∙ entries-insert nat_list_cmp_total (item_map prefix delimiter es) (name e) (item_of prefix delimiter e.0 e.1)

  pub items_not : (e : List ℕ × EntryValue) (es : List (List ℕ × EntryValue)) → under e.0 ≡ false → items (e ∷ es) ≡ items es
  items_not e es u =
      ap (λ b. entries (cond b (insert (item_map prefix delimiter es) (name e) (item_of prefix delimiter e.0 e.1)) (item_map prefix delimiter es))) u

  -- a bound below the name of each entry is below each item
  pub below_items : (n : List ℕ) (es : List (List ℕ × EntryValue)) → AllByRecursion (λ e. under e.0 ≡ true → byte_order n (name e) ≡ Less) es
      → T (below_all byte_order n (items es))
  below_items n [] all = subst (λ l. T (below_all byte_order n l)) (sym none_listed) tt
  below_items n (e ∷ es) all = by (under e.0) refl (below_items n es all.1)
    where
      by : (b : Bool) → under e.0 ≡ b → T (below_all byte_order n (items es)) → T (below_all byte_order n (items (e ∷ es)))
      by true u h = subst (λ l. T (below_all byte_order n l)) (sym (items_under e es u)) (below_put n _ _ (items es) (all.0 u) h)
      by false u h = subst (λ l. T (below_all byte_order n l)) (sym (items_not e es u)) h

  -- --

  -- ---- an object first

  later_names : (k : List ℕ) (es : List (List ℕ × EntryValue)) → T (below_all byte_order k es)
      → ((text s : List ℕ) (e : List ℕ × EntryValue) → byte_order k e.0 ≡ Less → Common prefix delimiter e.0 text → k ≡ text ++ s → ⊥)
      → AllByRecursion (λ e. under e.0 ≡ true → byte_order k (name e) ≡ Less) es
  later_names k [] h never = tt
  later_names k (e ∷ es) h never =
      let lt = less _ (first _ _ h) in
      (λ u. lifted prefix delimiter k e.0 e.1 u lt (λ text s c is. never text s e lt c is), later_names k es (second _ _ h) never)

  pub object_first : (e : List ℕ × EntryValue) (es : List (List ℕ × EntryValue)) → HasAscendingKeys (e ∷ es) → under e.0 ≡ true
      → common_prefix prefix delimiter e.0 ≡ None → items (e ∷ es) ≡ (e.0, item.Object e.0 e.1) ∷ items es
  object_first e es h u none =
      let never : (text s : List ℕ) (f : List ℕ × EntryValue) → byte_order e.0 f.0 ≡ Less → Common prefix delimiter f.0 text → e.0 ≡ text ++ s → ⊥ =
      λ text s f lt c is. cc (sym none ∙ ap (common_prefix prefix delimiter) is ∙ c.again s) in
      let below = below_items e.0 es (later_names e.0 es (head_below e es h) never) in
      items_under e es u
      ∙ ap (λ o. put byte_order (item_name (item_from o e.0 e.1)) (item_from o e.0 e.1) (items es)) none
      ∙ put_front e.0 (item.Object e.0 e.1) (items es) below

  -- ---- a common prefix first

  -- the names of keys past a common prefix are above it
  past_names : (key text : List ℕ) (es : List (List ℕ × EntryValue)) → Common prefix delimiter key text → AllByRecursion (λ e. IsPast text e.0) es
      → AllByRecursion (λ e. under e.0 ≡ true → byte_order text (name e) ≡ Less) es
  past_names key text [] c past = tt
  past_names key text (e ∷ es) c past = (
    λ u. lifted prefix delimiter text e.0 e.1 u past.0.above (λ other s d is.
        let key_is : key ≡ other ++ (s ++ c.rest) = c.whole ∙ ap (λ l. l ++ c.rest) is ∙ append_assoc other s c.rest in
        let two : Some other ≡ Some text =
        sym (ap (common_prefix prefix delimiter) key_is ∙ d.again (s ++ c.rest)) ∙ ap (common_prefix prefix delimiter) c.whole ∙ c.again c.rest in
        let same : other ≡ text = some_is other text two in
        let begins : starts_with nat_eq e.0 text ≡ true =
        ap (λ l. starts_with nat_eq l text) (d.whole ∙ ap (λ l. l ++ d.rest) same) ∙ begins_from text d.rest in
        cc (sym begins ∙ past.0.other)),
    past_names key text es c past.1,
  )
    where
      some_is : (x y : List ℕ) → Some x ≡ Some y → x ≡ y
      some_is x y e = cc

  -- the entries with one common prefix are one item, and a seek to its end passes them
  pub prefix_first : (text : List ℕ) (e : List ℕ × EntryValue) (es : List (List ℕ × EntryValue)) → HasAscendingKeys (e ∷ es) → Common prefix delimiter e.0 text
      → 0 < length text
      → items (e ∷ es) ≡ (text, item.Prefix text) ∷ items (entries_from (name_end text) es)
  prefix_first text e [] h c some =
      let o = common_of prefix delimiter e.0 text e.0 c (ap (λ l. starts_with nat_eq l text) c.whole ∙ begins_from text c.rest) in
      items_under e [] o.0 ∙ ap (λ q. put byte_order (item_name (item_from q e.0 e.1)) (item_from q e.0 e.1) (items [])) o.1
      ∙ put_front text (item.Prefix text) (items []) (subst (λ l. T (below_all byte_order text l)) (sym none_listed) tt)
  prefix_first text e (f ∷ es) h c some =
      let o = common_of prefix delimiter e.0 text e.0 c (ap (λ l. starts_with nat_eq l text) c.whole ∙ begins_from text c.rest) in
      items_under e (f ∷ es) o.0 ∙ ap (λ q. put byte_order (item_name (item_from q e.0 e.1)) (item_from q e.0 e.1) (items (f ∷ es))) o.1
      ∙ by (is_lt (byte_order f.0 (name_end text))) refl (λ d. prefix_first text f es (tail_ascends e (f ∷ es) h) d some)
    where
      low : NotAbove text e.0
      low = ap (λ l. is_gt (byte_order text l)) c.whole ∙ not_above text c.rest

      later : (g : List ℕ × EntryValue) → byte_order e.0 g.0 ≡ Less → NotAbove text g.0
      later g lt = and_then text e.0 g.0 low (below_not_above e.0 g.0 lt)

      past : (gs : List (List ℕ × EntryValue)) → T (below_all byte_order e.0 gs) → AllByRecursion (λ g. is_lt (byte_order g.0 (name_end text)) ≡ false) gs
          → AllByRecursion (λ g. IsPast text g.0) gs
      past [] below never = tt
      past (g ∷ gs) below never =
          let lt : byte_order e.0 g.0 ≡ Less = less _ (first _ _ below) in
          (past_is text g.0 some (later g lt) never.0, past gs (second _ _ below) never.1)

      by : (b : Bool) → is_lt (byte_order f.0 (name_end text)) ≡ b
          → (Common prefix delimiter f.0 text → items (f ∷ es) ≡ (text, item.Prefix text) ∷ items (entries_from (name_end text) es))
          → put byte_order text (item.Prefix text) (items (f ∷ es)) ≡ (text, item.Prefix text) ∷ items (entries_from (name_end text) (f ∷ es))
      by true lt rest =
          let begins : starts_with nat_eq f.0 text ≡ true = sym (below_end text f.0 some (later f (less _ (first _ _ (head_below e (f ∷ es) h))))) ∙ lt in
          let d = common_of prefix delimiter e.0 text f.0 c begins in
          ap (put byte_order text (item.Prefix text)) (rest (common_is prefix delimiter f.0 text d.0 d.1))
          ∙ put_again text (item.Prefix text) (item.Prefix text) (items (entries_from (name_end text) es))
          ∙ ap (λ l. (text, item.Prefix text) ∷ items l) (sym (seek_passes (name_end text) f es lt))
      by false never rest =
          let stay = seek_stays (name_end text) f es (tail_ascends e (f ∷ es) h) never in
          let none : AllByRecursion (λ g. is_lt (byte_order g.0 (name_end text)) ≡ false) (f ∷ es) =
          (never, none_passed (name_end text) f.0 es never (head_below f es (tail_ascends e (f ∷ es) h))) in
          put_front text (item.Prefix text) (items (f ∷ es))
          (below_items text (f ∷ es) (past_names e.0 text (f ∷ es) c (past (f ∷ es) (head_below e (f ∷ es) h) none)))
          ∙ ap (λ l. (text, item.Prefix text) ∷ items l) (sym stay)

  -- ---- none first

  pub none_under : (k : List ℕ) (es : List (List ℕ × EntryValue)) → is_gt (byte_order prefix k) ≡ false → under k ≡ false → T (below_all byte_order k es)
      → items es ≡ []
  none_under k [] from never h = none_listed
  none_under k (e ∷ es) from never h = by (under e.0) refl (none_under k es from never (second _ _ h))
    where
      by : (b : Bool) → under e.0 ≡ b → items es ≡ [] → items (e ∷ es) ≡ []
      by false u is = items_not e es u ∙ is
      by true u is =
          let parts = begins_parts e.0 prefix u in
          let lt : byte_order k e.0 ≡ Less = less _ (first (is_lt (byte_order k e.0)) (below_all byte_order k es) h) in
          let r = between prefix (drop (length prefix) e.0) k from (subst (λ l. is_gt (byte_order k l) ≡ false) parts (below_not_above k e.0 lt)) in
          let begins : starts_with nat_eq k prefix ≡ true = ap (λ l. starts_with nat_eq l prefix) r.1 ∙ begins_from prefix r.0 in
          absurd (cc (sym begins ∙ never))

-- ---- above `after`

above_front : (after n : List ℕ) (i : Item) (es : List (List ℕ × Item)) → byte_order after n ≡ Less
    → items_after after ((n, i) ∷ es) ≡ (n, i) ∷ items_after after es
above_front after n i es lt = ap (λ o. cond (is_lt o) ((n, i) ∷ items_after after es) (items_after after es)) lt

skipped : (after n : List ℕ) (i : Item) (es : List (List ℕ × Item)) → is_lt (byte_order after n) ≡ false
    → items_after after ((n, i) ∷ es) ≡ items_after after es
skipped after n i es never = ap (λ b. cond b ((n, i) ∷ items_after after es) (items_after after es)) never

-- an item up to `after` changes nothing
above_put : (after n : List ℕ) (i : Item) (es : List (List ℕ × Item)) → is_lt (byte_order after n) ≡ false
    → items_after after (put byte_order n i es) ≡ items_after after es
above_put after n i [] never = skipped after n i [] never
above_put after n i (e ∷ es) never = by (byte_order n e.0) refl (above_put after n i es never)
  where
    by : (o : Ordering) → byte_order n e.0 ≡ o → items_after after (put byte_order n i es) ≡ items_after after es
        → items_after after (by_order o ((n, i) ∷ e ∷ es) ((e.0, i) ∷ es) (e ∷ put byte_order n i es)) ≡ items_after after (e ∷ es)
    by Less is rest = skipped after n i (e ∷ es) never
    by Equal is rest =
        let same : is_lt (byte_order after e.0) ≡ false = ap is_lt (sym (alike_right nat_list_cmp_total n e.0 after is)) ∙ never in
        skipped after e.0 i es same ∙ sym (skipped after e.0 e.1 es same)
    by Greater is rest = ap (λ l. cond (is_lt (byte_order after e.0)) (e ∷ l) l) rest

-- ---- what goes on

all_left : {X : Type 0} (P Q : X → Type 0) → ((x : X) → P x → Q x) → (xs : List X) → AllByRecursion P xs → AllByRecursion Q xs
all_left P Q f [] all = tt
all_left P Q f (x ∷ xs) all = (f x all.0, all_left P Q f xs all.1)

-- a name above which all others stand
pub all_above : (n : List ℕ) (es : List (List ℕ × Item)) → T (below_all byte_order n es) → items_after n es ≡ es
all_above n [] h = refl
all_above n (e ∷ es) h = above_front n e.0 e.1 es (less _ (first _ _ h)) ∙ ap (λ l. e ∷ l) (all_above n es (second _ _ h))

-- all items of a rest are left
left_is : (query : PageQuery) (es : List (List ℕ × EntryValue)) → IsRest query es → items_left query es ≡ map (λ i. i.1) (items query.prefix query.delimiter es)
left_is query es rest =
    ap (map (λ i. i.1)) (all_above query.after (items query.prefix query.delimiter es) (below_items query.prefix query.delimiter query.after es
    (all_left (λ e. IsDue query e.0 e.1) (λ e. starts_with nat_eq e.0 query.prefix ≡ true → byte_order query.after (name query.prefix query.delimiter e) ≡ Less)
    (λ e due. due.later) es rest.due)))

-- nothing is left where no entry is
pub none_left : (query : PageQuery) (es : List (List ℕ × EntryValue)) → es ≡ [] → items_left query es ≡ []
none_left query es is = ap (items_left query) is ∙ ap (λ l. map (λ i. i.1) (items_after query.after l)) none_listed

-- or where the first doesn't begin with the prefix
pub other_left : (query : PageQuery) (es left : List (List ℕ × EntryValue)) (e : List ℕ × EntryValue) → es ≡ e ∷ left → IsRest query es
    → starts_with nat_eq e.0 query.prefix ≡ false → items_left query es ≡ []
other_left query es left e is rest never =
    let rest_e : IsRest query (e ∷ left) = subst (IsRest query) is rest in
    ap (items_left query) is
    ∙ ap (λ l. map (λ i. i.1) (items_after query.after l)) (items_not query.prefix query.delimiter e left never
    ∙ none_under query.prefix query.delimiter e.0 left rest_e.due.0.from never (head_below e left rest_e.ascend))

-- what a seek leaves of a rest
rest_from : (query : PageQuery) (least : List ℕ) (es : List (List ℕ × EntryValue)) → IsRest query es → IsRest query (entries_from least es)
rest_from query least es rest =
    record { ascend = ascends_from least es rest.ascend; due = all_of_kept (λ e. IsDue query e.0 e.1) (λ e. not (is_lt (byte_order e.0 least))) es rest.due }

rest_after : (query : PageQuery) (e : List ℕ × EntryValue) (es : List (List ℕ × EntryValue)) → IsRest query (e ∷ es) → IsRest query es
rest_after query e es rest = record { ascend = tail_ascends e es rest.ascend; due = rest.due.1 }

-- an object first
pub object_listed : (query : PageQuery) (e : List ℕ × EntryValue) (es : List (List ℕ × EntryValue)) → IsRest query (e ∷ es)
    → starts_with nat_eq e.0 query.prefix ≡ true → common_prefix query.prefix query.delimiter e.0 ≡ None
    → ListsFirst query (e ∷ es) (item.Object e.0 e.1) es
object_listed query e es rest u none = record {
  first =
      left_is query (e ∷ es) rest ∙ ap (map (λ i. i.1)) (object_first query.prefix query.delimiter e es rest.ascend u none)
      ∙ ap (λ l. item.Object e.0 e.1 ∷ l) (sym (left_is query es (rest_after query e es rest)));
  rest = rest_after query e es rest;
  fewer = omega arith;
}

-- a common prefix first
pub prefix_listed : (query : PageQuery) (e : List ℕ × EntryValue) (es left : List (List ℕ × EntryValue)) (text : List ℕ) → IsRest query (e ∷ es)
    → starts_with nat_eq e.0 query.prefix ≡ true → common_prefix query.prefix query.delimiter e.0 ≡ Some text
    → left ≡ entries_from (name_end text) es → ListsFirst query (e ∷ es) (item.Prefix text) left
prefix_listed query e es left text rest u is left_from =
    let c = common_is query.prefix query.delimiter e.0 text u is in
    let some : 0 < length text = common_some query.prefix query.delimiter e.0 text is in
    let from : List (List ℕ × EntryValue) = entries_from (name_end text) es in
    let rest_left : IsRest query from = rest_from query (name_end text) es (rest_after query e es rest) in
    subst (ListsFirst query (e ∷ es) (item.Prefix text)) (sym left_from) (record {
      first =
          left_is query (e ∷ es) rest ∙ ap (map (λ i. i.1)) (prefix_first query.prefix query.delimiter text e es rest.ascend c some)
          ∙ ap (λ l. item.Prefix text ∷ l) (sym (left_is query from rest_left));
      rest = rest_left;
      fewer = omega (arith, kept_len (λ f. not (is_lt (byte_order f.0 (name_end text)))) es);
    })

-- an item is left where the first entry begins with the prefix
pub some_left : (query : PageQuery) (es left : List (List ℕ × EntryValue)) (e : List ℕ × EntryValue) → es ≡ e ∷ left → IsRest query es
    → starts_with nat_eq e.0 query.prefix ≡ true → 0 < length (items_left query es)
some_left query es left e is rest u =
    subst (λ l. 0 < length (items_left query l)) (sym is) (by (common_prefix query.prefix query.delimiter e.0) refl (subst (IsRest query) is rest))
  where
    by : (o : Option (List ℕ)) → common_prefix query.prefix query.delimiter e.0 ≡ o → IsRest query (e ∷ left) → 0 < length (items_left query (e ∷ left))
    by None none rest = let lists = object_listed query e left rest u none in omega (arith, ap length lists.first)
    by (Some text) some rest =
        let lists = prefix_listed query e left (entries_from (name_end text) left) text rest u some refl in
        omega (arith, ap length lists.first)

-- ---- the start

-- an entry that a start passes over adds no item above `after`
passed_still : (query : PageQuery) (start : List ℕ) (e : List ℕ × EntryValue) (es : List (List ℕ × EntryValue)) → IsStart query start
    → is_lt (byte_order e.0 start) ≡ true → items_left query (e ∷ es) ≡ items_left query es
passed_still query start e es starts lt = ap (map (λ i. i.1)) (by (starts_with nat_eq e.0 query.prefix) refl)
  where
    by : (b : Bool) → starts_with nat_eq e.0 query.prefix ≡ b
        → items_after query.after (items query.prefix query.delimiter (e ∷ es)) ≡ items_after query.after (items query.prefix query.delimiter es)
    by false u = ap (items_after query.after) (items_not query.prefix query.delimiter e es u)
    by true u =
        ap (items_after query.after) (items_under query.prefix query.delimiter e es u)
        ∙ above_put query.after (name query.prefix query.delimiter e) (item_of query.prefix query.delimiter e.0 e.1) (items query.prefix query.delimiter es)
        (starts.passed e.0 e.1 lt u)

start_still : (query : PageQuery) (start : List ℕ) (es : List (List ℕ × EntryValue)) → IsStart query start → HasAscendingKeys es
    → items_left query (entries_from start es) ≡ items_left query es
start_still query start [] starts h = refl
start_still query start (e ∷ es) starts h = by (is_lt (byte_order e.0 start)) refl (start_still query start es starts (tail_ascends e es h))
  where
    by : (b : Bool) → is_lt (byte_order e.0 start) ≡ b → items_left query (entries_from start es) ≡ items_left query es
        → items_left query (entries_from start (e ∷ es)) ≡ items_left query (e ∷ es)
    by true lt rest = ap (items_left query) (seek_passes start e es lt) ∙ rest ∙ sym (passed_still query start e es starts lt)
    by false never rest = ap (items_left query) (seek_stays start e es h never)

start_due : (query : PageQuery) (start : List ℕ) (es : List (List ℕ × EntryValue)) → IsStart query start
    → AllByRecursion (λ e. IsDue query e.0 e.1) (entries_from start es)
start_due query start [] starts = tt
start_due query start (e ∷ es) starts = by (is_lt (byte_order e.0 start)) refl (start_due query start es starts)
  where
    by : (b : Bool) → is_lt (byte_order e.0 start) ≡ b → AllByRecursion (λ f. IsDue query f.0 f.1) (entries_from start es)
        → AllByRecursion (λ f. IsDue query f.0 f.1) (cond (not b) (e ∷ entries_from start es) (entries_from start es))
    by true lt rest = rest
    by false never rest = (starts.due e.0 e.1 never, rest)

-- a page starts with a rest in which no item is lost
pub starts_page : (query : PageQuery) (start : List ℕ) (es left : List (List ℕ × EntryValue)) → start ≡ page_start query → left ≡ entries_from start es
    → HasAscendingKeys es → (items_left query left ≡ items_left query es) × IsRest query left
starts_page query start es left is from h =
    let starts : IsStart query start = subst (IsStart query) (sym is) (start_is query) in
    let rest : IsRest query (entries_from start es) = record { ascend = ascends_from start es h; due = start_due query start es starts } in
    (ap (items_left query) from ∙ start_still query start es starts h, subst (IsRest query) (sym from) rest)

-- ---- the whole page

pub page_ended : (items all left : List Item) (amount : ℕ) → items ++ left ≡ all → length items ≤ amount → left ≡ []
    → (items ≡ take amount all) × (false ≡ ltb amount (length all))
page_ended items all left amount whole le none =
    let same : items ≡ all = sym (append-nil items) ∙ ap (λ l. items ++ l) (sym none) ∙ whole in
    (same ∙ sym (take_all amount all (subst (λ l. length l ≤ amount) same le)), sym (le-ltb amount (length all) (subst (λ l. length l ≤ amount) same le)))

-- as many items as a slice of them shows
pub full_is : (items seen : List Item) (amount : ℕ) → seen ≡ items → amount ≤ length seen → length items ≤ amount → length items ≡ amount
full_is items seen amount is ge le = omega (arith, ap length is)

pub page_full : (items all left : List Item) (amount : ℕ) → items ++ left ≡ all → length items ≡ amount → 0 < length left
    → (items ≡ take amount all) × (true ≡ ltb amount (length all))
page_full items all left amount whole full some = (
  sym (ap (take amount) (sym whole) ∙ take_at items left amount full),
  sym (lt-ltb amount (length all) (omega (arith, ap length whole, length-append items left, full))),
)
