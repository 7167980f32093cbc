-- Changes that newer tokens hide.
use Rattle.std.proofs.Common.{◌≡◌, ◌↔◌, ℕ, zero, suc, ◌+◌, ◌<◌, ◌≤◌, Bool, true, false, eqb, ◌||◌, List, [], ◌∷◌, ◌++◌, length, get_or, take, drop, Option}
use Rattle.std.proofs.Common.{Some, None, Result, Ok, Err, IfOk, IfSome, IsTrue}
use Rattle.std.proofs.Common.{IsSomeAnd, refl, sym, ap, subst, ◌∙◌, inl, inr, arith, add-one}
use Rattle.std.specs.BTreeMap.{get}
use Rattle.std.specs.List.{AllByRecursion, Contains, IsDistinct, list_any, slice_get}
use Rattle.std.specs.Option.{option_and_then}
use Rattle.std.specs.Ordering.{nat_cmp}
use Rattle.std.proofs.lemmas.Bool.{eq-eqb}
use Rattle.std.proofs.lemmas.List.{take_all, take_more}
use Rattle.std.proofs.lemmas.List.Elements.{Contains-append_left, Contains-push, Contains-push_cases}
use Rattle.std.proofs.lemmas.List.Folds.{list_any-append}
use Rattle.lake_base.specs.declared.digest.Digest.{Digest}
use Rattle.lake_values.specs.declared.entry.Change.{Change}
use Rattle.lake_model.specs.Uncommitted.{put_number}
use Rattle.lake_format.specs.declared.cut.Cut.{Cut}
use Rattle.branch_record.specs.Record.{AreDistinct, is_among}
use Rattle.pair_format.specs.declared.key.OwnedKey.TheVariants as key
use Rattle.pair_format.specs.declared.pair.Pair.{Pair}
use Rattle.pair_format.specs.declared.stored.Stored.{Stored}
use Rattle.pair_format.specs.declared.stored.Stored.TheVariants as stored
use Rattle.pair_trees.specs.declared.tables.Tables.{Tables}
use Rattle.pair_ties.specs.Hidden.{IsHiddenIn, sealed_in}
use Rattle.pair_ties.specs.BrokenPairs.{AreBlamelessBefore, HasPair, IsBlameless, IsRightBranch, IsRightStaged, IsSealedOver}
use Rattle.pair_trees.specs.Tables.{AreTablesOf, first_place, names}
use Rattle.pair_trees.specs.Things.{IsGivenNumber, IsGone, Spells, Things, is_branch, is_staged, thing_at, tokens_named}
use Rattle.pair_trees.proofs.ThingsLemmas.{spells_there, there_spells, thing_here}
use Rattle.pair_ties.proofs.TokensLemmas.{first_is, first_none, first_passes, named_any}

some_is : {X : Type 0} {x y : X} → Some x ≡ Some y → x ≡ y
some_is e = cc

either_parts : (a b : Bool) → (a || b) ≡ false → (a ≡ false) × (b ≡ false)
either_parts false b e = (refl, e)
either_parts true b e = absurd cc

-- a token is among those that have it
among_split : (newer older : List ℕ) (token : ℕ) → is_among (newer ++ token ∷ older) token ≡ true
among_split [] older token = ap (λ b. b || is_among older token) (eq-eqb token token refl)
among_split (t ∷ newer) older token = ap (λ b. eqb t token || b) (among_split newer older token) ∙ or_true (eqb t token)
  where
    or_true : (b : Bool) → (b || true) ≡ true
    or_true true = refl
    or_true false = refl

-- two splits at the first place of a token are one
first_split : (newer some older others : List ℕ) (token : ℕ) → is_among newer token ≡ false → is_among some token ≡ false
    → newer ++ token ∷ older ≡ some ++ token ∷ others → newer ≡ some
first_split [] [] older others token one two e = refl
first_split [] (t ∷ some) older others token one two e =
    absurd (no (sym (eq-eqb t token (heads (sym e))) ∙ (either_parts (eqb t token) (is_among some token) two).0))
  where
    no : true ≡ false → ⊥
    no h = cc

    heads : {a b : ℕ} {x y : List ℕ} → a ∷ x ≡ b ∷ y → a ≡ b
    heads h = cc
first_split (t ∷ newer) [] older others token one two e =
    absurd (no (sym (eq-eqb t token (heads e)) ∙ (either_parts (eqb t token) (is_among newer token) one).0))
  where
    no : true ≡ false → ⊥
    no h = cc

    heads : {a b : ℕ} {x y : List ℕ} → a ∷ x ≡ b ∷ y → a ≡ b
    heads h = cc
first_split (t ∷ newer) (u ∷ some) older others token one two e =
    ap (λ h. h ∷ newer) (heads e)
    ∙ ap (λ l. u ∷ l) (first_split newer some older others token (either_parts (eqb t token) (is_among newer token) one).1
    (either_parts (eqb u token) (is_among some token) two).1 (tails e))
  where
    heads : {a b : ℕ} {x y : List ℕ} → a ∷ x ≡ b ∷ y → a ≡ b
    heads h = cc

    tails : {a b : ℕ} {x y : List ℕ} → a ∷ x ≡ b ∷ y → x ≡ y
    tails h = cc

-- ---- one list

-- a pair has the key of a change of the path under one of these tokens
abbrev pub HasChange : List Pair → List ℕ → List ℕ → Type 0
HasChange pairs tokens path = (over : ℕ) × Contains tokens over × HasPair pairs (key.Staged over path)

-- the tokens so far aren't this one, and whether one of them has a change is told
pub record IsLookedAt (pairs : List Pair) (tokens : List ℕ) (token : ℕ) (path : List ℕ) (found : Bool) : Type 0 where
  pub fresh : is_among tokens token ≡ false
  pub told : (found ≡ true) ↔ HasChange pairs tokens path

pub none_looked : (pairs : List Pair) (token : ℕ) (path : List ℕ) → IsLookedAt pairs [] token path false
none_looked pairs token path = record { fresh = refl; told = (λ e. absurd (no e), λ has. absurd (omega (arith, has.1.1))) }
  where
    no : false ≡ true → ⊥
    no e = cc

whole : (sealed : List ℕ) (i newer : ℕ) → i < length sealed → newer ≡ get_or sealed i newer → take (i + 1) sealed ≡ take i sealed ++ newer ∷ []
whole sealed i newer lt is = take_more sealed i newer lt ∙ ap (λ t. take i sealed ++ t ∷ []) (sym is)

split_next : (sealed : List ℕ) (i token : ℕ) → i < length sealed → token ≡ get_or sealed i token → sealed ≡ take i sealed ++ token ∷ drop (suc i) sealed
split_next [] i token lt is = absurd (omega (arith, lt))
split_next (t ∷ sealed) zero token lt is = ap (λ h. h ∷ sealed) (sym is)
split_next (t ∷ sealed) (suc i) token lt is = ap (λ l. t ∷ l) (split_next sealed i token (omega (arith, lt)) is)

split_at : (sealed : List ℕ) (i token : ℕ) → i < length sealed → token ≡ get_or sealed i token → sealed ≡ take i sealed ++ token ∷ drop (i + 1) sealed
split_at sealed i token lt is = split_next sealed i token lt is ∙ ap (λ n. take i sealed ++ token ∷ drop n sealed) (sym (add-one i))

module _ (pairs : List Pair) (sealed : List ℕ) (token : ℕ) (path : List ℕ) (i : ℕ) (newer : ℕ) (lt : i < length sealed) (is : newer ≡ get_or sealed i newer)
    (found : Bool)
    (looked : IsLookedAt pairs (take i sealed) token path found) where
  pub looked_more : (there : Bool) → (eqb newer token ≡ false) → (there ≡ true) ↔ HasPair pairs (key.Staged newer path)
      → IsLookedAt pairs (take (i + 1) sealed) token path (there || found)
  looked_more there apart told =
      subst (λ l. IsLookedAt pairs l token path (there || found)) (sym (whole sealed i newer lt is)) (record {
        fresh = list_any-append (λ named. eqb named token) (take i sealed) (newer ∷ [])
            ∙ neither (is_among (take i sealed) token) (eqb newer token) looked.fresh apart;
        told = (λ e. forth there found e told.0 looked.told.0, λ has. back has);
      })
    where
      neither : (a b : Bool) → a ≡ false → b ≡ false → (a || (b || false)) ≡ false
      neither false false e f = refl
      neither true b e f = absurd cc
      neither false true e f = absurd cc

      forth : (a b : Bool) → (a || b) ≡ true → (a ≡ true → HasPair pairs (key.Staged newer path)) → (b ≡ true → HasChange pairs (take i sealed) path)
          → HasChange pairs (take i sealed ++ newer ∷ []) path
      forth true b e one two = (newer, Contains-push (take i sealed) newer, one refl)
      forth false b e one two = let has = two e in (has.0, Contains-append_left (take i sealed) (newer ∷ []) has.0 has.1, has.2)

      or_true : (b : Bool) → (b || true) ≡ true
      or_true true = refl
      or_true false = refl

      back : HasChange pairs (take i sealed ++ newer ∷ []) path → (there || found) ≡ true
      back has = elim (Contains-push_cases (take i sealed) newer has.0 has.1) [
        | inl before ↦ ap (λ b. there || b) (looked.told.1 (has.0, before, has.2)) ∙ or_true there
        | inr last ↦ ap (λ b. b || found) (told.1 (subst (λ t. HasPair pairs (key.Staged t path)) (sym last) has.2))
      ]

  -- at the token it is told
  pub looked_here : newer ≡ token → (found ≡ true) ↔ IsHiddenIn pairs sealed token path
  looked_here same = (
    λ e.
        let has = looked.told.0 e in
        record { newer = take i sealed; older = drop (i + 1) sealed; is = split; fresh = looked.fresh; over = has.0; among = has.1; changed = has.2 },
    λ hidden. looked.told.1 (
      hidden.over,
      subst (λ l. Contains l hidden.over)
          (first_split hidden.newer (take i sealed) hidden.older (drop (i + 1) sealed) token hidden.fresh looked.fresh (sym hidden.is ∙ split)) hidden.among,
      hidden.changed,
    ),
  )
    where
      split : sealed ≡ take i sealed ++ token ∷ drop (i + 1) sealed
      split = split_at sealed i newer lt is ∙ ap (λ t. take i sealed ++ t ∷ drop (i + 1) sealed) same

-- where the token isn't among them, nothing is hidden
pub looked_all : (pairs : List Pair) (sealed : List ℕ) (token : ℕ) (path : List ℕ) (i : ℕ) (found : Bool) → length sealed ≤ i
    → IsLookedAt pairs (take i sealed) token path found → IsHiddenIn pairs sealed token path → ⊥
looked_all pairs sealed token path i found le looked hidden =
    no (sym (ap (λ l. is_among l token) hidden.is ∙ among_split hidden.newer hidden.older token)
    ∙ ap (λ l. is_among l token) (sym (take_all i sealed le)) ∙ looked.fresh)
  where
    no : true ≡ false → ⊥
    no e = cc

pub none_hidden : (pairs : List Pair) (token : ℕ) (path : List ℕ) → IsHiddenIn pairs [] token path → ⊥
none_hidden pairs token path hidden = no (ap (λ l. is_among l token) hidden.is ∙ among_split hidden.newer hidden.older token)
  where
    no : false ≡ true → ⊥
    no e = cc

-- ---- the branch that names the token

-- what names a token is a branch
names_branch : (token : ℕ) (thing : Option Stored) → names token thing ≡ true
    → (repo : List ℕ) × (branch : List ℕ) × (version : ℕ) × (head : Digest) × (staging : ℕ) × (sealed : List ℕ)
    × (thing ≡ Some (stored.Branch repo branch version head staging sealed))
names_branch token (Some (stored.Branch repo branch version head staging sealed)) e = (repo, branch, version, head, staging, sealed, refl)
names_branch token None e = absurd cc
names_branch token (Some (stored.Repository repo created default_branch settings)) e = absurd cc
names_branch token (Some (stored.Tag repo tag commit)) e = absurd cc
names_branch token (Some (stored.Commit repo id expired commit)) e = absurd cc
names_branch token (Some (stored.MetaRange name bytes)) e = absurd cc
names_branch token (Some (stored.Range name bytes)) e = absurd cc
names_branch token (Some (stored.Staged t path change)) e = absurd cc
names_branch token (Some (stored.Note repo name text)) e = absurd cc
names_branch token (Some (stored.Gone number)) e = absurd cc
names_branch token (Some (stored.Counts number version t)) e = absurd cc

-- of distinct tokens none before one is the same
distinct_before : (newer older : List ℕ) (token : ℕ) → AreDistinct (newer ++ token ∷ older) → is_among newer token ≡ false
unfolding IsDistinct
distinct_before [] older token h = refl
distinct_before (t ∷ newer) older token h =
    ap (λ b. b || is_among newer token) (apart newer h.0) ∙ distinct_before newer older token h.1
  where
    apart : (xs : List ℕ) → AllByRecursion (λ y. eqb t y ≡ false) (xs ++ token ∷ older) → eqb t token ≡ false
    apart [] all = all.0
    apart (x ∷ xs) all = apart xs all.1

-- a pair has the key of a change of the path under a token that a branch sealed later
abbrev pub IsHiddenThere : List Pair → Things → ℕ → List ℕ → Type 0
IsHiddenThere pairs things token path = (over : ℕ) × IsSealedOver things over token × HasPair pairs (key.Staged over path)

rest_distinct : (staging : ℕ) (sealed : List ℕ) → AreDistinct (staging ∷ sealed) → AreDistinct sealed
unfolding IsDistinct
rest_distinct staging sealed h = h.1

module _ (cut : Cut) (pairs : List Pair) (things : Things)
    (order : (n m : ℕ) (s t : Stored) → Spells things n s → Spells things m t → is_branch s ≡ true → is_staged t ≡ true → n < m)
    (at : ℕ) (before : AreBlamelessBefore cut pairs things at) (s : Stored) (here : Spells things at s) (staged : is_staged s ≡ true)
    (token : ℕ) (path : List ℕ) (first : ℕ) (named : first_place (names token) 0 things ≡ Some first) where
  pub hidden_forth : IsHiddenIn pairs (sealed_in (thing_at things first)) token path → IsHiddenThere pairs things token path
  hidden_forth hidden =
      let passes = first_passes (names token) 0 things first named in
      let b = names_branch token passes.1 passes.4 in
      let place : passes.0 ≡ first = omega (arith, passes.2) in
      let spells : Spells things first (stored.Branch b.0 b.1 b.2 b.3 b.4 b.5) =
      ap (thing_at things) (sym place) ∙ ap (option_and_then (λ thing. thing)) (passes.3 ∙ ap (λ x. Some x) b.6) in
      let sealed : b.5 ≡ hidden.newer ++ token ∷ hidden.older = sym (ap sealed_in spells) ∙ hidden.is in (
        hidden.over,
        record {
          repo = b.0;
          branch = b.1;
          version = b.2;
          head = b.3;
          staging = b.4;
          newer = hidden.newer;
          older = hidden.older;
          there = spells_there things first (stored.Branch b.0 b.1 b.2 b.3 b.4 (hidden.newer ++ token ∷ hidden.older))
              (spells ∙ ap (λ l. Some (stored.Branch b.0 b.1 b.2 b.3 b.4 l)) sealed);
          among = hidden.among;
        },
        hidden.changed,
      )

  pub hidden_back : IsHiddenThere pairs things token path → IsHiddenIn pairs (sealed_in (thing_at things first)) token path
  hidden_back (over, hidden, changed) =
      let sealed = hidden.newer ++ token ∷ hidden.older in
      let branch = stored.Branch hidden.repo hidden.branch hidden.version hidden.head hidden.staging sealed in
      let place = there_spells things branch hidden.there in
      let lt = order place.0 at branch s place.1 here refl staged in
      let blameless : IsBlameless cut pairs things place.0 branch =
      subst (λ o. IsSomeAnd o (IsBlameless cut pairs things place.0)) place.1 (before place.0 lt) in
      let right : IsRightBranch things place.0 hidden.repo hidden.version hidden.head (hidden.staging ∷ sealed) = blameless.right in
      let among : is_among (hidden.staging ∷ sealed) token ≡ true = ap (λ b. eqb hidden.staging token || b) (among_split hidden.newer hidden.older token)
      ∙ or_true (eqb hidden.staging token) in
      let free = sym (named_any (take place.0 things) token) ∙ right.fresh token among in
      let same : first ≡ 0 + place.0 = some_is (sym named ∙ first_is (names token) 0 things place.0 (Some branch)
      (thing_here things place.0 branch place.1) among free) in
      let at_first : place.0 ≡ first = omega (arith, same) in
      record {
        newer = hidden.newer;
        older = hidden.older;
        is = ap sealed_in (ap (thing_at things) (sym at_first) ∙ place.1);
        fresh = distinct_before hidden.newer hidden.older token (rest_distinct hidden.staging sealed right.distinct);
        over = over;
        among = hidden.among;
        changed = changed;
      }
    where
      or_true : (b : Bool) → (b || true) ≡ true
      or_true true = refl
      or_true false = refl

  pub hidden_same : IsHiddenIn pairs (sealed_in (thing_at things first)) token path ↔ IsHiddenThere pairs things token path
  hidden_same = (hidden_forth, hidden_back)

-- ---- a change is right

any_true : (test : Option Stored → Bool) (things : Things) (k : ℕ) (thing : Option Stored) → slice_get things k ≡ Some thing → test thing ≡ true
    → list_any test things ≡ true
any_true test [] k thing h e = absurd cc
any_true test (x ∷ things) zero thing h e = ap (λ b. b || list_any test things) (ap test (some_is h) ∙ e)
any_true test (x ∷ things) (suc k) thing h e = ap (λ b. test x || b) (any_true test things k thing h e) ∙ or_true (test x)
  where
    or_true : (b : Bool) → (b || true) ≡ true
    or_true true = refl
    or_true false = refl

module _ (pairs : List Pair) (things : Things) (tables : Tables) (are : AreTablesOf things tables) (token : ℕ) (path : List ℕ) (change : Change) where
  -- where no branch names the token, it isn't
  pub not_held : get nat_cmp tables.tokens token ≡ None → IsTrue false ↔ IsRightStaged pairs things token path change
  not_held none = (
    λ e. absurd cc,
    λ right. absurd (no (sym right.held ∙ named_any things token ∙ first_none (names token) 0 things (sym (are.tokens token) ∙ none))),
  )
    where
      no : true ≡ false → ⊥
      no e = cc

  module _ (first : ℕ) (is : get nat_cmp tables.tokens token ≡ Some first) where
    named_first : first_place (names token) 0 things ≡ Some first
    named_first = sym (are.tokens token) ∙ is

    held : is_among (tokens_named things) token ≡ true
    held = let passes = first_passes (names token) 0 things first named_first in
        named_any things token ∙ any_true (names token) things passes.0 passes.1 passes.3 passes.4

    -- a change that puts no number
    pub no_number : put_number change ≡ None → IsTrue true ↔ IsRightStaged pairs things token path change
    no_number none = (
      λ e. record {
        held = held;
        given = subst (λ o. IfSome o (λ number. IsGivenNumber things number)) (sym none) tt;
        apart = subst (λ o. IfSome o (λ number. IsGone things number → IsHiddenThere pairs things token path)) (sym none) tt;
      },
      λ right. refl,
    )

    module _ (number : ℕ) (puts : put_number change ≡ Some number) (given : IsGivenNumber things number) where
      right_with : (IsGone things number → IsHiddenThere pairs things token path) → IsRightStaged pairs things token path change
      right_with hides = record {
        held = held;
        given = subst (λ o. IfSome o (λ n. IsGivenNumber things n)) (sym puts) given;
        apart = subst (λ o. IfSome o (λ n. IsGone things n → IsHiddenThere pairs things token path)) (sym puts) hides;
      }

      pub not_gone : (IsGone things number → ⊥) → IsTrue true ↔ IsRightStaged pairs things token path change
      not_gone never = (λ e. right_with (λ gone. absurd (never gone)), λ right. refl)

      pub gone_hidden : {E : Type 0} (Q : Type 0) → IsGone things number → Q ↔ IsHiddenThere pairs things token path → (r : Result Bool E)
          → IfOk r (λ hidden. IsTrue hidden ↔ Q) → IfOk r (λ right. IsTrue right ↔ IsRightStaged pairs things token path change)
      gone_hidden Q gone same (Ok b) h = (
        λ e. right_with (λ _. same.0 (h.0 e)),
        λ right. h.1 (same.1 (subst (λ o. IfSome o (λ n. IsGone things n → IsHiddenThere pairs things token path)) puts right.apart gone)),
      )
      gone_hidden Q gone same (Err fault) h = tt
