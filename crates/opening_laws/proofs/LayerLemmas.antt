-- The first of the sealed tokens under which a change of a path stands, and those before it.
use Rattle.std.proofs.Common.{◌≡◌, ◌⊎◌, inl, inr, ℕ, zero, suc, ◌<◌, true, false, List, [], ◌∷◌, ◌++◌, length, get_or, Option, Some}
use Rattle.std.proofs.Common.{None, refl, sym, ap, subst, ◌∙◌, arith}
use Rattle.std.specs.Prelude.{nat_eq}
use Rattle.std.specs.List.{Contains, cons_option, filter_map}
use Rattle.std.specs.Option.{option_or}
use Rattle.std.specs.FinMap.{contains_key, get}
use Rattle.std.proofs.lemmas.Bool.{cases_Bool, eq-eqb}
use Rattle.std.proofs.lemmas.List.Elements.{Contains-append_left, Contains-append_right}
use Rattle.std.proofs.lemmas.List.Folds.{list_any_at}
use Rattle.lake_values.proofs.OrderLemmas.{first_or_later}
use Rattle.lake_values.specs.declared.entry.Change.{Change}
use Rattle.byte_map.proofs.ByteMapLemmas.{get_empty}
use Rattle.branch_record.specs.Looking.{first_change}
use Rattle.branch_record.specs.Overlay.{layers_of}
use Rattle.branch_record.specs.Record.{AreDistinct, is_among}
use Rattle.branch_record.specs.Tokens.{TokenMap, changes_under}
use Rattle.branch_record.proofs.LayersLemmas.{get_layered, said_next, said_none}
use Rattle.branch_record.proofs.TokensLemmas.{first_apart, rest_distinct, under_none}

no : true ≡ false → ⊥
no e = cc

nothing : {X : Type 0} {x : X} → Some x ≡ None → ⊥
nothing e = cc

same : {x y : Change} → Some x ≡ Some y → x ≡ y
same e = cc

-- ---- lists

pub behind : {X : Type 0} (y : X) (xs : List X) (x : X) → Contains xs x → Contains (y ∷ xs) x
behind y xs x has = (suc has.0, omega (arith, has.1), has.2)

-- what h gives of one of these is among what it gives
module _ {X Y : Type 0} (h : X → Option Y) (x : X) (y : Y) (e : h x ≡ Some y) where
  passed : (o : Option Y) (ys : List Y) → Contains ys y → Contains (cons_option o ys) y
  passed None ys more = more
  passed (Some w) ys more = behind w ys y more

  filtered_at : (xs : List X) (k : ℕ) → k < length xs → get_or xs k x ≡ x → Contains (filter_map h xs) y
  filtered_at [] k lt is = absurd (omega (arith, lt))
  filtered_at (z ∷ zs) zero lt is = subst (λ o. Contains (cons_option o (filter_map h zs)) y) (sym (ap h is ∙ e)) (0, omega arith, refl)
  filtered_at (z ∷ zs) (suc k) lt is = passed (h z) (filter_map h zs) (filtered_at zs k (omega (arith, lt)) is)

  pub filtered : (xs : List X) → Contains xs x → Contains (filter_map h xs) y
  filtered xs has = filtered_at xs has.0 has.1 has.2

-- ---- tokens

pub among_those : (tokens : List ℕ) (token : ℕ) → Contains tokens token → is_among tokens token ≡ true
among_those tokens token has =
    list_any_at (λ named. nat_eq named token) tokens has.0 token has.1 (ap (λ t. nat_eq t token) has.2 ∙ eq-eqb token token refl)

-- a token between others is one of them, and so is each before it
pub in_middle : (newer older : List ℕ) (token : ℕ) → Contains (newer ++ token ∷ older) token
in_middle newer older token = Contains-append_right newer (token ∷ older) token (0, omega arith, refl)

pub in_front : (newer older : List ℕ) (token over : ℕ) → Contains newer over → Contains (newer ++ token ∷ older) over
in_front newer older token over has = Contains-append_left newer (token ∷ older) over has

-- those before a token are the same, wherever it is found: it is found once
pub before_it : (newer other older rest : List ℕ) (token over : ℕ) → newer ++ token ∷ older ≡ other ++ token ∷ rest → AreDistinct (newer ++ token ∷ older)
    → Contains other over → Contains newer over
before_it newer [] older rest token over e distinct has = absurd (omega (arith, has.1))
before_it [] (y ∷ other) older rest token over e distinct has =
    let all : token ∷ older ≡ y ∷ (other ++ token ∷ rest) = e in
    let tail : older ≡ other ++ token ∷ rest = cc in
    let within : is_among older token ≡ true = ap (λ l. is_among l token) tail ∙ among_those (other ++ token ∷ rest) token (in_middle other rest token) in
    absurd (no (sym within ∙ first_apart token older distinct))
before_it (x ∷ newer) (y ∷ other) older rest token over e distinct has =
    let all : x ∷ (newer ++ token ∷ older) ≡ y ∷ (other ++ token ∷ rest) = e in
    let head : x ≡ y = cc in
    let tail : newer ++ token ∷ older ≡ other ++ token ∷ rest = cc in
    by head (before_it newer other older rest token over tail (rest_distinct x (newer ++ token ∷ older) distinct)) (first_or_later y over other has)
  where
    by : x ≡ y → (Contains other over → Contains newer over) → (y ≡ over) ⊎ Contains other over → Contains (x ∷ newer) over
    by head more (inl is) = (0, omega arith, head ∙ is)
    by head more (inr later) = behind x newer over (more later)

-- ---- changes

-- where a change stands under a token, the token is there
pub held : (tokens : TokenMap) (token : ℕ) (path : List ℕ) (change : Change) → get (changes_under tokens token) path ≡ Some change
    → contains_key tokens token ≡ true
held tokens token path change at =
    elim (cases_Bool (contains_key tokens token)) [
      | inl there ↦ there
      | inr none ↦ absurd (nothing (sym at ∙ ap (λ c. get c path) (under_none tokens token none) ∙ get_empty path))
    ]

-- the change of a path stands under the first of these tokens that has one
pub record IsFirstUnder (tokens : TokenMap) (these : List ℕ) (path : List ℕ) (change : Change) : Type 0 where
  pub newer : List ℕ
  pub token : ℕ
  pub older : List ℕ
  pub is : these ≡ newer ++ token ∷ older
  pub at : get (changes_under tokens token) path ≡ Some change
  pub none : (over : ℕ) → Contains newer over → get (changes_under tokens over) path ≡ None

first_found : (tokens : TokenMap) (these : List ℕ) (path : List ℕ) (change : Change) → first_change tokens these path ≡ Some change
    → IsFirstUnder tokens these path change
first_found tokens [] path change e = absurd (nothing (sym e ∙ said_none tokens path))
first_found tokens (token ∷ older) path change e =
    by (get (changes_under tokens token) path) refl (sym (said_next tokens token older path) ∙ e) (first_found tokens older path change)
  where
    by : (o : Option Change) → get (changes_under tokens token) path ≡ o → option_or o (first_change tokens older path) ≡ Some change
        → (first_change tokens older path ≡ Some change → IsFirstUnder tokens older path change) → IsFirstUnder tokens (token ∷ older) path change
    by (Some c) at is more = record {
      newer = [];
      token = token;
      older = older;
      is = refl;
      at = at ∙ is;
      none = λ over has. absurd (omega (arith, has.1));
    }
    by None at is more =
        let rest = more is in
        record {
          newer = token ∷ rest.newer;
          token = rest.token;
          older = rest.older;
          is = ap (λ l. token ∷ l) rest.is;
          at = rest.at;
          none = λ over has. none_of rest over (first_or_later token over rest.newer has);
        }
      where
        none_of : (rest : IsFirstUnder tokens older path change) (over : ℕ) → (token ≡ over) ⊎ Contains rest.newer over
            → get (changes_under tokens over) path ≡ None
        none_of rest over (inl same) = subst (λ t. get (changes_under tokens t) path ≡ None) same at
        none_of rest over (inr later) = rest.none over later

pub first_layered : (tokens : TokenMap) (these : List ℕ) (path : List ℕ) (change : Change) → get (layers_of tokens these) path ≡ Some change
    → IsFirstUnder tokens these path change
first_layered tokens these path change e = first_found tokens these path change (sym (get_layered tokens these path) ∙ e)
