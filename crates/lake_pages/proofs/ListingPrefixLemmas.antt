-- Byte lists that begin with others, and how they stand in byte order.
use Rattle.std.proofs.Common.{◌≡◌, ℕ, ◌+◌, ◌<◌, ◌≤◌, ◌&&◌, Bool, true, false, cond, eqb, ltb, List, [], ◌∷◌, ◌++◌, length, take, drop, get_or, Option, Some}
use Rattle.std.proofs.Common.{None, nat_eq, refl, sym, ap, subst, ◌∙◌, append_assoc, arith, eq-eqb, inl, inr}
use Rattle.std.specs.Option.{option_map}
use Rattle.std.specs.Cmp.Lexicographic.{pointwise}
use Rattle.std.specs.List.{starts_with}
use Rattle.std.specs.Ordering.{nat_cmp, is_gt, ordering_then}
use Rattle.std.specs.declared.cmp.Ordering.{Ordering}
use Rattle.std.specs.declared.cmp.Ordering.TheVariants.{Less, Equal, Greater}
use Rattle.std.proofs.lemmas.Bool.{and_parts, eqb-true, cases_lt, cases_eq, le-ltb, ne_eqb}
use Rattle.std.proofs.lemmas.Cmp.{nat_list_cmp_total, nat_cmp_total, upto, tied_itself}
use Rattle.std.proofs.lemmas.List.{take-append-le, length-append, length-take, append-nil, drop_at, take_at, take-append-drop, drop_more, take_more, drop_all}
use Rattle.std.specs.Str.{is_utf8, IsUtf8, IsCharBoundary}
use Rattle.std.proofs.lemmas.Str.{IsUtf8-from_is_utf8, is_utf8-from_IsUtf8, IsCharBoundary-start, IsUtf8-append, IsUtf8-take}
use Rattle.lake_base.specs.Maps.{byte_order}
use Rattle.lake_base.specs.Names.{path_fault}
use Rattle.lake_base.specs.declared.names.NameFault.TheVariants.{Empty, TooLong, NotUtf8}
use Rattle.lake_values.specs.Entry.{EntryValue}
use Rattle.lake_pages.specs.Listing.{front_through, common_prefix, item_from, item_of, item_name}
use Rattle.lake_base.proofs.MapsLemmas.{turned}

pub begins_parts : (key p : List ℕ) → starts_with nat_eq key p ≡ true → key ≡ p ++ drop (length p) key
begins_parts key [] h = refl
begins_parts [] (x ∷ p) h = absurd cc
begins_parts (y ∷ key) (x ∷ p) h =
    let both = and_parts (nat_eq x y) (starts_with nat_eq key p) h in
    let same : x ≡ y = eqb-true x y both.0 in
    λ i. sym same i ∷ begins_parts key p both.1 i

pub begins_from : (p t : List ℕ) → starts_with nat_eq (p ++ t) p ≡ true
begins_from [] t = refl
begins_from (x ∷ p) t = ap (λ b. b && starts_with nat_eq (p ++ t) p) (eq-eqb x x refl) ∙ begins_from p t

pub same_number : (x : ℕ) → nat_cmp x x ≡ Equal
same_number x = tied_itself nat_cmp_total x

-- no list is above one that begins with it
pub not_above : (p t : List ℕ) → is_gt (byte_order p (p ++ t)) ≡ false
not_above [] [] = refl
not_above [] (x ∷ t) = refl
not_above (x ∷ p) t = ap (λ o. is_gt (ordering_then o (byte_order p (p ++ t)))) (same_number x) ∙ not_above p t

both_ways : (x y : ℕ) (a b : Ordering) → is_gt (ordering_then (nat_cmp x y) a) ≡ false → is_gt (ordering_then (nat_cmp y x) b) ≡ false
    → (x ≡ y) × (is_gt a ≡ false) × (is_gt b ≡ false)
both_ways x y a b f g =
    elim (cases_lt x y) [
      | inl lt ↦
          let gt : nat_cmp y x ≡ Greater = ap (λ c. cond c Less (cond (eqb y x) Equal Greater)) (le-ltb _ _ (omega arith))
          ∙ ap (λ c. cond c Equal Greater) (ne_eqb y x (λ e. omega arith)) in
          absurd (cc (sym (ap (λ o. is_gt (ordering_then o b)) gt) ∙ g))
      | inr le ↦
          elim (cases_eq x y) [
            | inl e ↦
                let xy : nat_cmp x y ≡ Equal = ap (nat_cmp x) (sym e) ∙ same_number x in
                let yx : nat_cmp y x ≡ Equal = ap (nat_cmp y) e ∙ same_number y in
                (e, sym (ap (λ o. is_gt (ordering_then o a)) xy) ∙ f, sym (ap (λ o. is_gt (ordering_then o b)) yx) ∙ g)
            | inr ne ↦
                let gt : nat_cmp x y ≡ Greater =
                ap (λ c. cond c Less (cond (eqb x y) Equal Greater)) (le-ltb _ _ le) ∙ ap (λ c. cond c Equal Greater) (ne_eqb x y ne) in
                absurd (cc (sym (ap (λ o. is_gt (ordering_then o a)) gt) ∙ f))
          ]
    ]

-- what stands between a list and one that begins with it begins with it too
pub between : (p t k : List ℕ) → is_gt (byte_order p k) ≡ false → is_gt (byte_order k (p ++ t)) ≡ false → (s : List ℕ) × (k ≡ p ++ s)
between [] t k f g = (k, refl)
between (x ∷ p) t [] f g = absurd cc
between (x ∷ p) t (y ∷ k) f g =
    let b = both_ways x y (byte_order p k) (byte_order k (p ++ t)) f g in
    let r = between p t k b.1 b.2 in
    (r.0, λ i. sym b.0 i ∷ r.1 i)

-- ---- the first delimiter

pub record Through (d xs front : List ℕ) : Type 0 where
  pub before : List ℕ
  pub ends : front ≡ before ++ d
  pub rest : List ℕ
  pub whole : xs ≡ front ++ rest
  pub again : (s : List ℕ) → front_through d (front ++ s) ≡ Some front

some_is : {X : Type 0} (x y : X) → Some x ≡ Some y → x ≡ y
some_is x y e = cc

none_some : {X : Type 0} (x : X) → None ≡ Some x → ⊥
none_some x e = cc

same_start : (d a s t : List ℕ) → length d ≤ length a → starts_with nat_eq (a ++ s) d ≡ starts_with nat_eq (a ++ t) d
same_start d a s t le = ap (pointwise nat_eq d) (take-append-le (length d) a s le ∙ sym (take-append-le (length d) a t le))

through_step : (y : ℕ) (ys : List ℕ) (x : ℕ) (xs front : List ℕ) → ((f : List ℕ) → front_through (y ∷ ys) xs ≡ Some f → Through (y ∷ ys) xs f)
    → (b : Bool) → starts_with nat_eq (x ∷ xs) (y ∷ ys) ≡ b → (o : Option (List ℕ)) → front_through (y ∷ ys) xs ≡ o
    → cond b (Some (y ∷ ys)) (option_map (λ f. x ∷ f) o) ≡ Some front → Through (y ∷ ys) (x ∷ xs) front
through_step y ys x xs front rec true starts o is e =
    subst (λ f. Through (y ∷ ys) (x ∷ xs) f) (some_is (y ∷ ys) front e) (record {
      before = [];
      ends = refl;
      rest = drop (length (y ∷ ys)) (x ∷ xs);
      whole = begins_parts (x ∷ xs) (y ∷ ys) starts;
      again = λ s. ap (λ c. cond c (Some (y ∷ ys)) (option_map (λ f. y ∷ f) (front_through (y ∷ ys) (ys ++ s)))) (begins_from (y ∷ ys) s);
    })
through_step y ys x xs front rec false starts None is e = absurd (none_some front e)
through_step y ys x xs front rec false starts (Some f) is e =
    let t = rec f is in
    let long : length (y ∷ ys) ≤ length (x ∷ f) = omega (arith, ap length t.ends, length-append t.before (y ∷ ys)) in
    let here : x ∷ xs ≡ (x ∷ f) ++ t.rest = ap (λ l. x ∷ l) t.whole in
    subst (λ g. Through (y ∷ ys) (x ∷ xs) g) (some_is (x ∷ f) front e) (record {
      before = x ∷ t.before;
      ends = ap (λ l. x ∷ l) t.ends;
      rest = t.rest;
      whole = here;
      again = λ s.
          let never : starts_with nat_eq ((x ∷ f) ++ s) (y ∷ ys) ≡ false =
          same_start (y ∷ ys) (x ∷ f) s t.rest long ∙ ap (λ l. starts_with nat_eq l (y ∷ ys)) (sym here) ∙ starts in
          ap (λ c. cond c (Some (y ∷ ys)) (option_map (λ g. x ∷ g) (front_through (y ∷ ys) (f ++ s)))) never ∙ ap (option_map (λ g. x ∷ g)) (t.again s);
    })

pub through_is : (y : ℕ) (ys xs front : List ℕ) → front_through (y ∷ ys) xs ≡ Some front → Through (y ∷ ys) xs front
through_is y ys [] front e = absurd (none_some front e)
through_is y ys (x ∷ xs) front e = through_step y ys x xs front (through_is y ys xs) _ refl _ refl e

-- ---- common prefixes

-- a common prefix of a key, which each key that begins with it has
pub record Common (prefix delimiter key text : List ℕ) : Type 0 where
  pub before : List ℕ
  pub ends : text ≡ (prefix ++ before) ++ delimiter
  pub rest : List ℕ
  pub whole : key ≡ text ++ rest
  pub again : (s : List ℕ) → common_prefix prefix delimiter (text ++ s) ≡ Some text

mapped : (prefix : List ℕ) (o : Option (List ℕ)) (text : List ℕ) → option_map (λ f. prefix ++ f) o ≡ Some text
    → (f : List ℕ) × (o ≡ Some f) × (prefix ++ f ≡ text)
mapped prefix None text e = absurd (none_some text e)
mapped prefix (Some f) text e = (f, refl, some_is (prefix ++ f) text e)

pub common_is : (prefix delimiter key text : List ℕ) → starts_with nat_eq key prefix ≡ true → common_prefix prefix delimiter key ≡ Some text
    → Common prefix delimiter key text
common_is prefix [] key text under e = absurd (none_some text e)
common_is prefix (y ∷ ys) key text under e =
    let m = mapped prefix (front_through (y ∷ ys) (drop (length prefix) key)) text e in
    let t = through_is y ys (drop (length prefix) key) m.0 m.1 in
    subst (λ x. Common prefix (y ∷ ys) key x) m.2 (record {
      before = t.before;
      ends = ap (λ f. prefix ++ f) t.ends ∙ sym (append_assoc prefix t.before (y ∷ ys));
      rest = t.rest;
      whole = begins_parts key prefix under ∙ ap (λ l. prefix ++ l) t.whole ∙ sym (append_assoc prefix m.0 t.rest);
      again = λ s.
          let tail : drop (length prefix) ((prefix ++ m.0) ++ s) ≡ m.0 ++ s =
          ap (drop (length prefix)) (append_assoc prefix m.0 s) ∙ drop_at prefix (m.0 ++ s) (length prefix) refl in
          ap (option_map (λ f. prefix ++ f)) (ap (front_through (y ∷ ys)) tail ∙ t.again s);
    })

-- a key that begins with the common prefix of another has it too
pub common_of : (prefix delimiter key text other : List ℕ) → Common prefix delimiter key text → starts_with nat_eq other text ≡ true
    → (starts_with nat_eq other prefix ≡ true) × (common_prefix prefix delimiter other ≡ Some text)
common_of prefix delimiter key text other c begins =
    let parts : other ≡ text ++ drop (length text) other = begins_parts other text begins in
    let again : common_prefix prefix delimiter other ≡ Some text = ap (common_prefix prefix delimiter) parts ∙ c.again (drop (length text) other) in
    let front : other ≡ prefix ++ ((c.before ++ delimiter) ++ drop (length text) other) =
    parts ∙ ap (λ t. t ++ drop (length text) other) (c.ends ∙ append_assoc prefix c.before delimiter)
    ∙ append_assoc prefix (c.before ++ delimiter) (drop (length text) other) in
    (ap (λ l. starts_with nat_eq l prefix) front ∙ begins_from prefix _, again)

-- a common prefix isn't empty
pub common_some : (prefix delimiter key text : List ℕ) → common_prefix prefix delimiter key ≡ Some text → 0 < length text
common_some prefix [] key text e = absurd (none_some text e)
common_some prefix (y ∷ ys) key text e =
    let m = mapped prefix (front_through (y ∷ ys) (drop (length prefix) key)) text e in
    let t = through_is y ys (drop (length prefix) key) m.0 m.1 in
    omega (arith, ap length (sym m.2), length-append prefix m.0, ap length t.ends, length-append t.before (y ∷ ys))

-- a key that begins with its name
pub name_rest : (prefix delimiter key : List ℕ) (entry : EntryValue) → starts_with nat_eq key prefix ≡ true
    → (t : List ℕ) × (key ≡ item_name (item_of prefix delimiter key entry) ++ t)
name_rest prefix delimiter key entry under = by (common_prefix prefix delimiter key) refl
  where
    by : (o : Option (List ℕ)) → common_prefix prefix delimiter key ≡ o → (t : List ℕ) × (key ≡ item_name (item_from o key entry) ++ t)
    by None e = ([], sym (append-nil key))
    by (Some text) e = let c = common_is prefix delimiter key text under e in (c.rest, c.whole)

-- ---- the order of names

abbrev pub NotAbove : List ℕ → List ℕ → Type 0
NotAbove a b = is_gt (byte_order a b) ≡ false

pub below_not_above : (a b : List ℕ) → byte_order a b ≡ Less → NotAbove a b
below_not_above a b lt = ap is_gt lt

pub not_both : (a b : List ℕ) → byte_order a b ≡ Less → NotAbove b a → ⊥
not_both a b lt le = cc (sym (ap is_gt (turned a b Less lt)) ∙ le)

pub and_then : (a b c : List ℕ) → NotAbove a b → NotAbove b c → NotAbove a c
and_then a b c f g = upto nat_list_cmp_total a b c f g

-- what isn't below is not above the other way round
pub otherwise : (a b : List ℕ) (o : Ordering) → byte_order a b ≡ o → (o ≡ Less → ⊥) → NotAbove b a
otherwise a b Less e never = absurd (never refl)
otherwise a b Equal e never = ap is_gt (turned a b Equal e)
otherwise a b Greater e never = ap is_gt (turned a b Greater e)

pub reaches : (a b c : List ℕ) → byte_order a b ≡ Less → NotAbove b c → byte_order a c ≡ Less
reaches a b c lt le = by (byte_order a c) refl
  where
    by : (o : Ordering) → byte_order a c ≡ o → byte_order a c ≡ Less
    by Less is = is
    by Equal is = absurd (not_both a b lt (and_then b c a le (otherwise a c Equal is (λ x. cc))))
    by Greater is = absurd (not_both a b lt (and_then b c a le (otherwise a c Greater is (λ x. cc))))

-- a name above which another key's name can't be: the key would begin with it
pub lifted : (prefix delimiter : List ℕ) (low key : List ℕ) (entry : EntryValue) → starts_with nat_eq key prefix ≡ true → byte_order low key ≡ Less
    → ((text : List ℕ) (s : List ℕ) → Common prefix delimiter key text → low ≡ text ++ s → ⊥)
    → byte_order low (item_name (item_of prefix delimiter key entry)) ≡ Less
lifted prefix delimiter low key entry under lt never = by (common_prefix prefix delimiter key) refl
  where
    chosen : (text : List ℕ) → Common prefix delimiter key text → (o : Ordering) → byte_order low text ≡ o → byte_order low text ≡ Less
    chosen text c Less e = e
    chosen text c Equal e =
        let r = between text c.rest low (otherwise low text Equal e (λ x. cc)) (subst (NotAbove low) c.whole (below_not_above low key lt)) in
        absurd (never text r.0 c r.1)
    chosen text c Greater e =
        let r = between text c.rest low (otherwise low text Greater e (λ x. cc)) (subst (NotAbove low) c.whole (below_not_above low key lt)) in
        absurd (never text r.0 c r.1)

    by : (o : Option (List ℕ)) → common_prefix prefix delimiter key ≡ o → byte_order low (item_name (item_from o key entry)) ≡ Less
    by None e = lt
    by (Some text) e = chosen text (common_is prefix delimiter key text under e) _ refl

-- ---- a search for the first delimiter

pub through_here : (d bytes : List ℕ) (at : ℕ) → at < length bytes → starts_with nat_eq (drop at bytes) d ≡ true
    → front_through d bytes ≡ option_map (λ f. take at bytes ++ f) (front_through d (drop at bytes))
    → (at + length d ≤ length bytes) × (front_through d bytes ≡ Some (take (at + length d) bytes))
through_here d bytes at lt starts so_far =
    let x : ℕ = get_or bytes at 0 in
    let more : drop at bytes ≡ x ∷ drop (at + 1) bytes = drop_more bytes at 0 lt in
    let starts_x : starts_with nat_eq (x ∷ drop (at + 1) bytes) d ≡ true = ap (λ l. starts_with nat_eq l d) (sym more) ∙ starts in
    let found : front_through d (drop at bytes) ≡ Some d =
    ap (front_through d) more ∙ ap (λ b. cond b (Some d) (option_map (λ f. x ∷ f) (front_through d (drop (at + 1) bytes)))) starts_x in
    let tail : drop at bytes ≡ d ++ drop (length d) (drop at bytes) = begins_parts (drop at bytes) d starts in
    let t : List ℕ = drop (length d) (drop at bytes) in
    let whole : bytes ≡ (take at bytes ++ d) ++ t =
    sym (take-append-drop at bytes) ∙ ap (λ l. take at bytes ++ l) tail ∙ sym (append_assoc (take at bytes) d t) in
    let len : length (take at bytes ++ d) ≡ at + length d = length-append (take at bytes) d ∙ omega (arith, length-take at bytes) in
    let front : take (at + length d) bytes ≡ take at bytes ++ d = ap (take (at + length d)) whole ∙ take_at (take at bytes ++ d) t (at + length d) len in
    (omega (arith, ap length whole, length-append (take at bytes ++ d) t, len), so_far ∙ ap (option_map (λ f. take at bytes ++ f)) found ∙ ap Some (sym front))

pub through_on : (d bytes : List ℕ) (at : ℕ) → at < length bytes → starts_with nat_eq (drop at bytes) d ≡ false
    → front_through d bytes ≡ option_map (λ f. take at bytes ++ f) (front_through d (drop at bytes))
    → front_through d bytes ≡ option_map (λ f. take (at + 1) bytes ++ f) (front_through d (drop (at + 1) bytes))
through_on d bytes at lt starts so_far =
    let x : ℕ = get_or bytes at 0 in
    let more : drop at bytes ≡ x ∷ drop (at + 1) bytes = drop_more bytes at 0 lt in
    let starts_x : starts_with nat_eq (x ∷ drop (at + 1) bytes) d ≡ false = ap (λ l. starts_with nat_eq l d) (sym more) ∙ starts in
    so_far ∙ ap (option_map (λ f. take at bytes ++ f))
    (ap (front_through d) more ∙ ap (λ b. cond b (Some d) (option_map (λ f. x ∷ f) (front_through d (drop (at + 1) bytes)))) starts_x)
    ∙ joined (take at bytes) x (take (at + 1) bytes) (sym (take_more bytes at 0 lt)) (front_through d (drop (at + 1) bytes))
  where
    joined : (front : List ℕ) (x : ℕ) (longer : List ℕ) → front ++ x ∷ [] ≡ longer → (o : Option (List ℕ))
        → option_map (λ f. front ++ f) (option_map (λ f. x ∷ f) o) ≡ option_map (λ f. longer ++ f) o
    joined front x longer e None = refl
    joined front x longer e (Some f) = ap Some (sym (append_assoc front (x ∷ []) f) ∙ ap (λ l. l ++ f) e)

pub through_none : (d bytes : List ℕ) (at : ℕ) → length bytes ≤ at
    → front_through d bytes ≡ option_map (λ f. take at bytes ++ f) (front_through d (drop at bytes)) → front_through d bytes ≡ None
through_none d bytes at le so_far = so_far ∙ ap (λ l. option_map (λ f. take at bytes ++ f) (front_through d l)) (drop_all at bytes le)

-- ---- UTF-8

-- a front of a text that ends in a text is one
pub utf8_front : (bytes front d rest : List ℕ) → is_utf8 bytes ≡ true → is_utf8 d ≡ true → 0 < length d → bytes ≡ (front ++ d) ++ rest
    → is_utf8 (front ++ d) ≡ true
utf8_front bytes front d rest whole_utf8 d_utf8 some whole =
    let u : IsUtf8 bytes = IsUtf8-from_is_utf8 bytes whole_utf8 in
    let ud : IsUtf8 d = IsUtf8-from_is_utf8 d d_utf8 in
    let parts : bytes ≡ front ++ (d ++ rest) = whole ∙ append_assoc front d rest in
    let start = IsCharBoundary-start d ud in
    let first_byte : get_or bytes (length front) 0 ≡ get_or d 0 0 =
    ap (λ l. get_or l (length front) 0) parts ∙ at_front front (d ++ rest) ∙ first_of d rest some in
    let le : length front ≤ length bytes = omega (arith, ap length parts, length-append front (d ++ rest)) in
    let boundary : IsCharBoundary bytes (length front) =
    (le, λ lt high. subst (λ b. 192 ≤ b) (sym first_byte) (start.1 some (subst (λ b. 128 ≤ b) first_byte high))) in
    let cut : take (length front) bytes ≡ front = ap (take (length front)) parts ∙ take_at front (d ++ rest) (length front) refl in
    is_utf8-from_IsUtf8 (front ++ d) (IsUtf8-append front d (subst IsUtf8 cut (IsUtf8-take bytes (length front) u boundary)) ud)
  where
    at_front : (xs ys : List ℕ) → get_or (xs ++ ys) (length xs) 0 ≡ get_or ys 0 0
    at_front [] ys = refl
    at_front (x ∷ xs) ys = at_front xs ys

    first_of : (xs ys : List ℕ) → 0 < length xs → get_or (xs ++ ys) 0 0 ≡ get_or xs 0 0
    first_of [] ys lt = absurd (omega arith)
    first_of (x ∷ xs) ys lt = refl

-- the common prefix that a search found, by its end
pub common_end : (prefix delimiter key : List ℕ) (end : ℕ) → 0 < length delimiter → starts_with nat_eq key prefix ≡ true
    → end ≤ length (drop (length prefix) key) → front_through delimiter (drop (length prefix) key) ≡ Some (take end (drop (length prefix) key))
    → common_prefix prefix delimiter key ≡ Some (take (length prefix + end) key)
common_end prefix [] key end some u le found = absurd (omega arith)
common_end prefix (y ∷ ys) key end some u le found =
    let rest : List ℕ = drop (length prefix) key in
    let parts : key ≡ prefix ++ rest = begins_parts key prefix u in
    let whole : key ≡ (prefix ++ take end rest) ++ drop end rest =
    parts ∙ ap (λ l. prefix ++ l) (sym (take-append-drop end rest)) ∙ sym (append_assoc prefix (take end rest) (drop end rest)) in
    let len : length (prefix ++ take end rest) ≡ length prefix + end = length-append prefix (take end rest) ∙ omega (arith, length-take end rest) in
    let front : take (length prefix + end) key ≡ prefix ++ take end rest =
    ap (take (length prefix + end)) whole ∙ take_at (prefix ++ take end rest) (drop end rest) (length prefix + end) len in
    ap (option_map (λ f. prefix ++ f)) found ∙ ap Some (sym front)

pub common_none : (prefix delimiter key : List ℕ) → front_through delimiter (drop (length prefix) key) ≡ None → common_prefix prefix delimiter key ≡ None
common_none prefix [] key e = refl
common_none prefix (y ∷ ys) key e = ap (option_map (λ f. prefix ++ f)) e

pub common_empty : (prefix delimiter key : List ℕ) → length delimiter ≡ 0 → common_prefix prefix delimiter key ≡ None
common_empty prefix [] key e = refl
common_empty prefix (y ∷ ys) key e = absurd (omega arith)

pub common_utf8 : (prefix delimiter key text : List ℕ) → is_utf8 key ≡ true → is_utf8 delimiter ≡ true → 0 < length delimiter
    → starts_with nat_eq key prefix ≡ true → common_prefix prefix delimiter key ≡ Some text → is_utf8 text ≡ true
common_utf8 prefix delimiter key text key_utf8 d_utf8 some u e =
    let c = common_is prefix delimiter key text u e in
    ap is_utf8 c.ends ∙ utf8_front key (prefix ++ c.before) delimiter c.rest key_utf8 d_utf8 some (c.whole ∙ ap (λ l. l ++ c.rest) c.ends)

pub common_found : (prefix delimiter key start d rest text : List ℕ) (end : ℕ) → start ≡ prefix → d ≡ delimiter → rest ≡ drop (length start) key
    → text ≡ take (length start + end) key → 0 < length d → starts_with nat_eq key prefix ≡ true
    → end ≤ length rest → front_through d rest ≡ Some (take end rest) → common_prefix prefix delimiter key ≡ Some text
common_found prefix delimiter key start d rest text end start_is d_is rest_is text_is some u le found =
    let text_is2 : text ≡ take (length prefix + end) key = text_is ∙ ap (λ s. take (length s + end) key) start_is in
    let rest_is2 : rest ≡ drop (length prefix) key = rest_is ∙ ap (λ s. drop (length s) key) start_is in
    let found2 : front_through delimiter rest ≡ Some (take end rest) = subst (λ e. front_through e rest ≡ Some (take end rest)) d_is found in
    common_end prefix delimiter key end (subst (λ e. 0 < length e) d_is some) u (subst (λ r. end ≤ length r) rest_is2 le)
    (subst (λ r. front_through delimiter r ≡ Some (take end r)) rest_is2 found2) ∙ ap Some (sym text_is2)

pub not_empty : (d : List ℕ) → false ≡ eqb (length d) 0 → 0 < length d
not_empty [] e = cc
not_empty (x ∷ d) e = omega arith

both_none : {X : Type 0} (a b c : Bool) (x y z : X) → cond a (Some x) (cond b (Some y) (cond c None (Some z))) ≡ None → c ≡ true
both_none true b c x y z e = cc
both_none false true c x y z e = cc
both_none false false true x y z e = refl
both_none false false false x y z e = cc

pub path_utf8 : (path : List ℕ) → path_fault path ≡ None → is_utf8 path ≡ true
path_utf8 path e = both_none (eqb (length path) 0) (ltb 1024 (length path)) (is_utf8 path) Empty TooLong NotUtf8 e
