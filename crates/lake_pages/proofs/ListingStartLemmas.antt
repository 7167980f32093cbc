-- Where a page starts: no key below has an item above `after`, and each key from there on has one.
use Rattle.std.proofs.Common.{◌≡◌, ℕ, ◌<◌, Bool, true, false, cond, not, List, [], ◌++◌, ◌∷◌, length, drop, Option, Some, None, nat_eq, refl, sym, ap, subst}
use Rattle.std.proofs.Common.{◌∙◌, append_assoc}
use Rattle.std.specs.List.{starts_with}
use Rattle.std.specs.Ordering.{is_gt, is_lt}
use Rattle.std.specs.declared.cmp.Ordering.{Ordering}
use Rattle.std.specs.declared.cmp.Ordering.TheVariants.{Less, Equal, Greater}
use Rattle.lake_values.specs.Entry.{EntryValue}
use Rattle.lake_pages.specs.Listing.{common_prefix, item_from, item_of, item_name}
use Rattle.lake_pages.specs.ListingSteps.{IsDue, item_end, name_end, page_start}
use Rattle.lake_base.specs.Maps.{byte_order}
use Rattle.lake_pages.specs.declared.listing.PageQuery.{PageQuery}
use Rattle.lake_values.proofs.CursorLemmas.{lt_is}
use Rattle.lake_pages.proofs.ListingNameLemmas.{below_end, below_zero}
use Rattle.lake_pages.proofs.ListingPrefixLemmas.{NotAbove, begins_parts, begins_from, not_above, between, Common, common_is, common_of, common_some, name_rest}
use Rattle.lake_pages.proofs.ListingPrefixLemmas.{not_both, and_then, otherwise, lifted, below_not_above, reaches}
use Rattle.lake_base.proofs.MapsLemmas.{turned}

-- ---- tests of the order

not_less : (a b : List ℕ) → is_lt (byte_order a b) ≡ false → NotAbove b a
not_less a b never = otherwise a b (byte_order a b) refl (λ e. cc (sym (ap is_lt e) ∙ never))

never_less : (a b : List ℕ) → NotAbove a b → is_lt (byte_order b a) ≡ false
never_less a b le = by (byte_order b a) refl
  where
    by : (o : Ordering) → byte_order b a ≡ o → is_lt o ≡ false
    by Less is = absurd (not_both b a is le)
    by Equal is = refl
    by Greater is = refl

turn : (b : Bool) → not b ≡ true → b ≡ false
turn false h = refl
turn true h = absurd cc

turn_back : (b : Bool) → not b ≡ false → b ≡ true
turn_back true h = refl
turn_back false h = absurd cc

above_is : (a b : List ℕ) → is_gt (byte_order a b) ≡ true → byte_order b a ≡ Less
above_is a b h = by (byte_order a b) refl h
  where
    by : (o : Ordering) → byte_order a b ≡ o → is_gt o ≡ true → byte_order b a ≡ Less
    by Less is h = absurd cc
    by Equal is h = absurd cc
    by Greater is h = turned a b Greater is

-- ---- names

module _ (prefix delimiter : List ℕ) where
  abbrev under : List ℕ → Type 0
  under key = starts_with nat_eq key prefix ≡ true

  abbrev name : List ℕ → EntryValue → List ℕ
  name key entry = item_name (item_of prefix delimiter key entry)

  name_low : (key : List ℕ) (entry : EntryValue) → under key → NotAbove (name key entry) key
  name_low key entry u =
      let r = name_rest prefix delimiter key entry u in
      ap (λ l. is_gt (byte_order (name key entry) l)) r.1 ∙ not_above (name key entry) r.0

  key_from : (key : List ℕ) → under key → NotAbove prefix key
  key_from key u = ap (λ l. is_gt (byte_order prefix l)) (begins_parts key prefix u) ∙ not_above prefix (drop (length prefix) key)

  name_from : (key : List ℕ) (entry : EntryValue) → under key → NotAbove prefix (name key entry)
  name_from key entry u = by (common_prefix prefix delimiter key) refl
    where
      by : (o : Option (List ℕ)) → common_prefix prefix delimiter key ≡ o → NotAbove prefix (item_name (item_from o key entry))
      by None is = key_from key u
      by (Some text) is =
          let c = common_is prefix delimiter key text u is in
          ap (λ l. is_gt (byte_order prefix l)) (c.ends ∙ append_assoc prefix c.before delimiter) ∙ not_above prefix (c.before ++ delimiter)

-- what a start promises
pub record IsStart (query : PageQuery) (start : List ℕ) : Type 0 where
  pub passed : (key : List ℕ) (entry : EntryValue) → is_lt (byte_order key start) ≡ true → starts_with nat_eq key query.prefix ≡ true
      → is_lt (byte_order query.after (item_name (item_of query.prefix query.delimiter key entry))) ≡ false
  pub due : (key : List ℕ) (entry : EntryValue) → is_lt (byte_order key start) ≡ false → IsDue query key entry

module _ (query : PageQuery) where
  -- `after` is below all items
  from_prefix : is_lt (byte_order query.after query.prefix) ≡ true → IsStart query query.prefix
  from_prefix low = record {
    passed = λ key entry lt u. absurd (not_both key query.prefix (lt_is _ lt) (key_from query.prefix query.delimiter key u));
    due = λ key entry never. record {
      from = not_less key query.prefix never;
      later = λ u. reaches query.after query.prefix _ (lt_is _ low) (name_from query.prefix query.delimiter key entry u);
    };
  }

  low_name : (key : List ℕ) (entry : EntryValue) → starts_with nat_eq key query.prefix ≡ true → NotAbove key query.after
      → is_lt (byte_order query.after (item_name (item_of query.prefix query.delimiter key entry))) ≡ false
  low_name key entry u le = never_less _ query.after (and_then _ key query.after (name_low query.prefix query.delimiter key entry u) le)

  -- `after` is above all items
  from_after : starts_with nat_eq query.after query.prefix ≡ false → is_lt (byte_order query.after query.prefix) ≡ false → IsStart query query.after
  from_after other high = record {
    passed = λ key entry lt u. low_name key entry u (below_not_above key query.after (lt_is _ lt));
    due = λ key entry never.
        let ge : NotAbove query.after key = not_less key query.after never in
        let from : NotAbove query.prefix query.after = not_less query.after query.prefix high in
        record {
          from = and_then query.prefix query.after key from ge;
          later = λ u.
              let r =
              between query.prefix (drop (length query.prefix) key) query.after from (subst (NotAbove query.after) (begins_parts key query.prefix u) ge) in
              absurd (cc (sym (ap (λ l. starts_with nat_eq l query.prefix) r.1 ∙ begins_from query.prefix r.0) ∙ other));
        };
  }

  -- `after` is the name of an object, or would be
  from_object : starts_with nat_eq query.after query.prefix ≡ true → common_prefix query.prefix query.delimiter query.after ≡ None
      → IsStart query (query.after ++ 0 ∷ [])
  from_object begins none = record {
    passed = λ key entry lt u. low_name key entry u (not_less query.after key (turn _ (sym (below_zero query.after key) ∙ lt)));
    due = λ key entry never.
        let lt : byte_order query.after key ≡ Less = lt_is _ (turn_back _ (sym (below_zero query.after key) ∙ never)) in
        record {
          from = and_then query.prefix query.after key (key_from query.prefix query.delimiter query.after begins) (below_not_above query.after key lt);
          later = λ u. lifted query.prefix query.delimiter query.after key entry u lt (λ text s c is.
              let again : common_prefix query.prefix query.delimiter query.after ≡ Some text = ap (common_prefix query.prefix query.delimiter) is ∙ c.again s in
              cc (sym none ∙ again));
        };
  }

  some_is : (x y : List ℕ) → Some x ≡ Some y → x ≡ y
  some_is x y e = cc

  -- `after` is at a common prefix, or among the keys that have it
  module _ (begins : starts_with nat_eq query.after query.prefix ≡ true) (text : List ℕ)
      (is : common_prefix query.prefix query.delimiter query.after ≡ Some text) where
    common : Common query.prefix query.delimiter query.after text
    common = common_is query.prefix query.delimiter query.after text begins is

    some : 0 < length text
    some = common_some query.prefix query.delimiter query.after text is

    text_low : NotAbove text query.after
    text_low = ap (λ l. is_gt (byte_order text l)) common.whole ∙ not_above text common.rest

    named : (key : List ℕ) (entry : EntryValue) → starts_with nat_eq key text ≡ true → item_name (item_of query.prefix query.delimiter key entry) ≡ text
    named key entry b = ap (λ o. item_name (item_from o key entry)) (common_of query.prefix query.delimiter query.after text key common b).1

    passed : (key : List ℕ) (entry : EntryValue) → is_lt (byte_order key (name_end text)) ≡ true → starts_with nat_eq key query.prefix ≡ true
        → is_lt (byte_order query.after (item_name (item_of query.prefix query.delimiter key entry))) ≡ false
    passed key entry lt u = by (is_gt (byte_order text key)) refl
      where
        by : (b : Bool) → is_gt (byte_order text key) ≡ b → is_lt (byte_order query.after (item_name (item_of query.prefix query.delimiter key entry))) ≡ false
        by false le = never_less _ query.after (subst (λ n. NotAbove n query.after) (sym (named key entry (sym (below_end text key some le) ∙ lt))) text_low)
        by true gt = low_name key entry u (and_then key text query.after (below_not_above key text (above_is text key gt)) text_low)

    from_common : IsStart query (name_end text)
    from_common = record {
      passed = passed;
      due = λ key entry never.
          let begins_text : starts_with nat_eq query.after text ≡ true = ap (λ l. starts_with nat_eq l text) common.whole ∙ begins_from text common.rest in
          let inside : byte_order query.after (name_end text) ≡ Less = lt_is _ (below_end text query.after some text_low ∙ begins_text) in
          let lt : byte_order query.after key ≡ Less = reaches query.after (name_end text) key inside (not_less key (name_end text) never) in
          let le : NotAbove text key = and_then text query.after key text_low (below_not_above query.after key lt) in
          let other : starts_with nat_eq key text ≡ false = sym (below_end text key some le) ∙ never in
          record {
            from = and_then query.prefix query.after key (key_from query.prefix query.delimiter query.after begins) (below_not_above query.after key lt);
            later = λ u. lifted query.prefix query.delimiter query.after key entry u lt (λ text' s d after_is.
                let two : Some text' ≡ Some text = sym (ap (common_prefix query.prefix query.delimiter) after_is ∙ d.again s) ∙ is in
                let same : text' ≡ text = some_is text' text two in
                let begins_key : starts_with nat_eq key text ≡ true =
                ap (λ l. starts_with nat_eq l text) (d.whole ∙ ap (λ l. l ++ d.rest) same) ∙ begins_from text d.rest in
                cc (sym begins_key ∙ other));
          };
    }

  start_by : (b c : Bool) (o : Option (List ℕ)) → starts_with nat_eq query.after query.prefix ≡ b → is_lt (byte_order query.after query.prefix) ≡ c
      → common_prefix query.prefix query.delimiter query.after ≡ o → IsStart query (cond b (item_end o query.after) (cond c query.prefix query.after))
  start_by false true o begins low is = from_prefix low
  start_by false false o begins low is = from_after begins low
  start_by true c None begins low is = from_object begins is
  start_by true c (Some text) begins low is = from_common begins text is

  pub start_is : IsStart query (page_start query)
  start_is = start_by _ _ _ refl refl refl
