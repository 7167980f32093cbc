-- First places, and tokens that branches name.
use Rattle.std.proofs.Common.{◌≡◌, ℕ, zero, suc, ◌+◌, ◌<◌, Bool, true, false, cond, eqb, ◌||◌, List, [], ◌∷◌, length, get_or, take, Option, Some, None}
use Rattle.std.proofs.Common.{refl, sym, ap, subst, ◌∙◌, arith}
use Rattle.std.specs.BTreeMap.{get}
use Rattle.std.specs.List.{AllByRecursion, list_any, slice_get}
use Rattle.std.specs.Ordering.{nat_cmp}
use Rattle.std.proofs.lemmas.Bool.{eqb-true, eq-eqb}
use Rattle.std.proofs.lemmas.List.Folds.{list_any-append}
use Rattle.branch_record.specs.Record.{is_among}
use Rattle.pair_format.specs.declared.stored.Stored.{Stored}
use Rattle.pair_trees.specs.declared.tables.Tables.{Tables}
use Rattle.pair_trees.specs.Tables.{AreTablesOf, first_place, names}
use Rattle.pair_trees.specs.Things.{Spells, Things, tokens_in, tokens_named}
use Rattle.pair_trees.proofs.ThingsLemmas.{thing_here}

either_false : (a b : Bool) → a ≡ false → b ≡ false → (a || b) ≡ false
either_false false b e f = f
either_false true b e f = absurd cc

either_parts : (a b : Bool) → (a || b) ≡ false → (a ≡ false) × (b ≡ false)
either_parts false b e = (refl, e)
either_parts true b e = absurd cc

some_is : {X : Type 0} {x y : X} → Some x ≡ Some y → x ≡ y
some_is e = cc

-- ---- items

-- the item at a place within the list, whatever stands for others
any_item : {X : Type 0} (xs : List X) (i : ℕ) (d e : X) → i < length xs → get_or xs i d ≡ get_or xs i e
any_item [] i d e lt = absurd (omega (arith, lt))
any_item (x ∷ xs) zero d e lt = refl
any_item (x ∷ xs) (suc i) d e lt = any_item xs i d e (omega (arith, lt))

pub own_item : {X : Type 0} (xs : List X) (i : ℕ) (d : X) → i < length xs → get_or xs i d ≡ get_or xs i (get_or xs i d)
own_item xs i d lt = any_item xs i d (get_or xs i d) lt

-- ---- first places

-- where one passes, and none before it does, it is the first
pub first_is : (test : Option Stored → Bool) (i : ℕ) (things : Things) (k : ℕ) (thing : Option Stored) → slice_get things k ≡ Some thing → test thing ≡ true
    → list_any test (take k things) ≡ false → first_place test i things ≡ Some (i + k)
unfolding first_place
first_is test i [] k thing here passes before = absurd cc
first_is test i (x ∷ things) zero thing here passes before =
    let e : i ≡ i + 0 = omega arith in
    ap (λ b. cond b (Some i) (first_place test (suc i) things)) (ap test (some_is here) ∙ passes) ∙ ap (λ n. Some n) e
first_is test i (x ∷ things) (suc k) thing here passes before =
    let parts = either_parts (test x) (list_any test (take k things)) before in
    let e : suc i + k ≡ i + suc k = omega arith in
    ap (λ b. cond b (Some i) (first_place test (suc i) things)) parts.0 ∙ first_is test (suc i) things k thing here passes parts.1 ∙ ap (λ n. Some n) e

-- before the first none passes
pub first_free : (test : Option Stored → Bool) (i : ℕ) (things : Things) (k : ℕ) → first_place test i things ≡ Some (i + k) → list_any test (take k things)
    ≡ false
unfolding first_place
first_free test i [] k e = absurd cc
first_free test i (x ∷ things) zero e = refl
first_free test i (x ∷ things) (suc k) e = by (first_free test (suc i) things k) (test x) refl
  where
    by : (first_place test (suc i) things ≡ Some (suc i + k) → list_any test (take k things) ≡ false) → (b : Bool) → test x ≡ b
        → list_any test (take (suc k) (x ∷ things)) ≡ false
    by more true is =
        let same : i ≡ i + suc k = some_is (sym (ap (λ b. cond b (Some i) (first_place test (suc i) things)) is) ∙ e) in
        absurd (omega (arith, same))
    by more false is =
        let next : i + suc k ≡ suc i + k = omega arith in
        let rest : first_place test (suc i) things ≡ Some (suc i + k) =
        sym (ap (λ b. cond b (Some i) (first_place test (suc i) things)) is) ∙ e ∙ ap (λ n. Some n) next in
        either_false (test x) (list_any test (take k things)) is (more rest)

-- the first is there, and passes
pub first_passes : (test : Option Stored → Bool) (i : ℕ) (things : Things) (at : ℕ) → first_place test i things ≡ Some at
    → (k : ℕ) × (thing : Option Stored) × (at ≡ i + k) × (slice_get things k ≡ Some thing) × (test thing ≡ true)
unfolding first_place
first_passes test i [] at e = absurd cc
first_passes test i (x ∷ things) at e = by (first_passes test (suc i) things at) (test x) refl
  where
    by : (first_place test (suc i) things ≡ Some at
        → (k : ℕ) × (thing : Option Stored) × (at ≡ suc i + k) × (slice_get things k ≡ Some thing) × (test thing ≡ true))
        → (b : Bool) → test x ≡ b
        → (k : ℕ) × (thing : Option Stored) × (at ≡ i + k) × (slice_get (x ∷ things) k ≡ Some thing) × (test thing ≡ true)
    by more true is =
        let same : i ≡ at = some_is (sym (ap (λ b. cond b (Some i) (first_place test (suc i) things)) is) ∙ e) in
        (0, x, omega (arith, same), refl, is)
    by more false is =
        let rest = more (sym (ap (λ b. cond b (Some i) (first_place test (suc i) things)) is) ∙ e) in
        (suc rest.0, rest.1, omega (arith, rest.2), rest.3, rest.4)

-- where there is no first, none passes
pub first_none : (test : Option Stored → Bool) (i : ℕ) (things : Things) → first_place test i things ≡ None → list_any test things ≡ false
unfolding first_place
first_none test i [] e = refl
first_none test i (x ∷ things) e = by (first_none test (suc i) things) (test x) refl
  where
    by : (first_place test (suc i) things ≡ None → list_any test things ≡ false) → (b : Bool) → test x ≡ b → list_any test (x ∷ things) ≡ false
    by more true is = absurd (no (sym (ap (λ b. cond b (Some i) (first_place test (suc i) things)) is) ∙ e))
      where
        no : {n : ℕ} → Some n ≡ None → ⊥
        no h = cc
    by more false is =
        either_false (test x) (list_any test things) is
        (more (sym (ap (λ b. cond b (Some i) (first_place test (suc i) things)) is) ∙ e))

-- ---- tokens

-- the branches that name a token, and the tokens that branches name
pub named_any : (things : Things) (token : ℕ) → is_among (tokens_named things) token ≡ list_any (names token) things
named_any [] token = refl
named_any (thing ∷ things) token =
    list_any-append (λ named. eqb named token) (tokens_in thing) (tokens_named things) ∙ ap (λ b. names token thing || b) (named_any things token)

-- of tokens each is so where each that is among them is
pub all_among : (P : ℕ → Type 0) (tokens : List ℕ) → AllByRecursion P tokens → (token : ℕ) → is_among tokens token ≡ true → P token
all_among P [] all token e = absurd cc
all_among P (t ∷ tokens) all token e = by (all_among P tokens all.1 token) (eqb t token) refl
  where
    by : (is_among tokens token ≡ true → P token) → (b : Bool) → eqb t token ≡ b → P token
    by more true is = subst P (eqb-true t token is) all.0
    by more false is = more (sym (ap (λ b. b || is_among tokens token) is) ∙ e)

pub among_all : (P : ℕ → Type 0) (tokens : List ℕ) → ((token : ℕ) → is_among tokens token ≡ true → P token) → AllByRecursion P tokens
among_all P [] each = tt
among_all P (t ∷ tokens) each = (
  each t (ap (λ b. b || is_among tokens t) (eq-eqb t t refl)),
  among_all P tokens (λ token e. each token (ap (λ b. eqb t token || b) e ∙ or_true (eqb t token))),
)
  where
    or_true : (b : Bool) → (b || true) ≡ true
    or_true true = refl
    or_true false = refl

module _ (things : Things) (tables : Tables) (are : AreTablesOf things tables) (at : ℕ) (s : Stored) (here : Spells things at s) where
  none_more : 0 + at ≡ at
  none_more = omega arith

  -- the first branch that names a token of this one is this one, where no earlier one names it
  pub fresh_first : (token : ℕ) → is_among (tokens_in (Some s)) token ≡ true → is_among (tokens_named (take at things)) token ≡ false
      → get nat_cmp tables.tokens token ≡ Some at
  fresh_first token among free =
      are.tokens token
      ∙ first_is (names token) 0 things at (Some s) (thing_here things at s here) among (sym (named_any (take at things) token) ∙ free)
      ∙ ap (λ n. Some n) none_more

  pub first_fresh : (token : ℕ) → get nat_cmp tables.tokens token ≡ Some at → is_among (tokens_named (take at things)) token ≡ false
  first_fresh token first = named_any (take at things) token
      ∙ first_free (names token) 0 things at (sym (are.tokens token) ∙ first ∙ ap (λ n. Some n) (sym none_more))
