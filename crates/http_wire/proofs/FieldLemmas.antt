-- What fields and their values say.
use Rattle.std.proofs.Common.{◌≡◌, ◌≤◌, ◌<◌, ◌+◌, ◌*◌, ◌^◌, ◌||◌, ℕ, Bool, true, false, List, [], ◌∷◌, length, take, drop, get_or, filter, Some, None}
use Rattle.std.proofs.Common.{refl, sym, ap, ◌∙◌, arith, rules, map, true≢false, inl, inr, if◌then◌else◌}
use Rattle.std.specs.Char.{is_ascii_digit, digit_value}
use Rattle.std.specs.List.{list_any, list_all}
use Rattle.std.specs.Str.{is_utf8}
use Rattle.std.specs.Str.Parse.{digits_value}
use Rattle.std.proofs.lemmas.Bool.{cases_Bool}
use Rattle.std.proofs.lemmas.List.{drop_more, drop_all}
use Rattle.http_wire.specs.declared.message.Field.{Field}
use Rattle.std.proofs.lemmas.Bool.Decides.{nat_tests}
use Rattle.std.proofs.lemmas.List.Folds.{list_all_at}
use Rattle.std.proofs.lemmas.Int.Digits.{digits_value_more}
use Rattle.std.proofs.lemmas.Str.Parse.{IsNumeralModel, numerals_by_value, digits_value_short, digits_value-take-le}
use Rattle.http_wire.specs.MessageFields.{is_length, is_named, values_of, stated_number, stated_length}
use Rattle.http_wire.specs.Messages.{first_text}

pub own : IsNumeralModel (λ (ds : List ℕ). list_all is_ascii_digit ds ≡ true) (digits_value 10)
own = numerals_by_value _ (search rules)

digits_all : (ds : List ℕ) → is_length ds ≡ true → list_all is_ascii_digit ds ≡ true
digits_all ds is = grind (arith, nat_tests)

short : (ds : List ℕ) → is_length ds ≡ true → length ds ≤ 19
short ds is = grind (arith, nat_tests)

pub digit_at : (ds : List ℕ) (i : ℕ) → is_length ds ≡ true → i < length ds → is_ascii_digit (get_or ds i 0) ≡ true
digit_at ds i is h =
    elim (cases_Bool (is_ascii_digit (get_or ds i 0))) [
      | inl is_so ↦ is_so
      | inr not_so ↦ absurd (true≢false (sym (digits_all ds is) ∙ list_all_at is_ascii_digit ds i 0 h not_so))
    ]

-- the number so far and the next digit stay below the limit
pub number_fits : (ds : List ℕ) (i : ℕ) → is_length ds ≡ true → i < length ds → digits_value 10 (take i ds) * 10 + digit_value (get_or ds i 0) < 10 ^ 19
number_fits ds i is h =
    omega (
      arith,
      digits_value_more 10 ds i h,
      digits_value-take-le 10 ds (i + 1) (omega arith),
      digits_value_short own ds 19 (digits_all ds is)
          (short ds is),
    )

pub digit_is : (b : ℕ) → is_ascii_digit b ≡ true → (digit_value b + 48 ≡ b) × (48 ≤ b)
digit_is b is = (grind (arith, nat_tests), grind (arith, nat_tests))

module _ {X : Type 0} (p : X → Bool) where
  filter_fails : (x : X) (xs : List X) → p x ≡ false → filter p (x ∷ xs) ≡ filter p xs
  filter_fails x xs fails = rw fails refl

  filter_passes : (x : X) (xs : List X) → p x ≡ true → filter p (x ∷ xs) ≡ x ∷ filter p xs
  filter_passes x xs passes = rw passes refl

  -- an item that fails is passed over
  pub filter_passed : (x : X) (xs ys zs : List X) → filter p zs ≡ filter p ys → ys ≡ x ∷ xs → p x ≡ false → filter p zs ≡ filter p xs
  filter_passed x xs ys zs was is fails = was ∙ ap (filter p) is ∙ filter_fails x xs fails

  -- an item that passes comes first
  pub filter_found : (x : X) (xs ys zs : List X) → filter p zs ≡ filter p ys → ys ≡ x ∷ xs → p x ≡ true → filter p zs ≡ x ∷ filter p xs
  filter_found x xs ys zs was is passes = was ∙ ap (filter p) is ∙ filter_passes x xs passes

  -- none passes
  pub filter_none : (xs : List X) → list_any p xs ≡ false → filter p xs ≡ []
  filter_none [] none = refl
  filter_none (x ∷ xs) none =
      elim (cases_Bool (p x)) [
        | inl is_so ↦ absurd (true≢false (sym (or_left (p x) (list_any p xs) is_so) ∙ none))
        | inr not_so ↦ filter_fails x xs not_so ∙ (filter_none xs (sym (or_none (p x) (list_any p xs) not_so) ∙ none))
      ]
    where
      or_left : (a b : Bool) → a ≡ true → (a || b) ≡ true
      or_left a b is = rw is refl

      or_none : (a b : Bool) → a ≡ false → (a || b) ≡ b
      or_none a b is = rw is refl

  -- one passes
  pub filter_some : (xs : List X) → list_any p xs ≡ true → (y : X) × (ys : List X) × (filter p xs ≡ y ∷ ys)
  filter_some [] some = absurd (true≢false (sym some))
  filter_some (x ∷ xs) some =
      elim (cases_Bool (p x)) [
        | inl is_so ↦ (x, filter p xs, filter_passes x xs is_so)
        | inr not_so ↦ let more = filter_some xs (sym (or_none (p x) (list_any p xs) not_so) ∙ some) in (more.0, more.1, filter_fails x xs not_so ∙ more.2)
      ]
    where
      or_none : (a b : Bool) → a ≡ false → (a || b) ≡ b
      or_none a b is = rw is refl

-- the length that fields state, from the first that is one and those behind it
module _ (fields : List Field) (at : ℕ) (field : Field) (name : List ℕ) (h : at < length fields) (is : field ≡ get_or fields at field)
    (named : is_named name field ≡ true)
    (was : filter (is_named name) fields ≡ filter (is_named name) (drop at fields)) where
  found : filter (is_named name) fields ≡ field ∷ filter (is_named name) (drop (at + 1) fields)
  found = filter_found (is_named name) field (drop (at + 1) fields) (drop at fields) fields was
      (drop_more fields at field h ∙ ap (λ (f : Field). f ∷ drop (at + 1) fields) (sym is)) named

  pub stated_twice : list_any (is_named name) (drop (at + 1) fields) ≡ true → stated_length (values_of name fields) ≡ None
  stated_twice more =
      let next = filter_some (is_named name) (drop (at + 1) fields) more in
      ap (λ (l : List Field). stated_length (map (λ (f : Field). f.value) l)) (found ∙ ap (λ (l : List Field). field ∷ l) next.2)

  pub stated_once : list_any (is_named name) (drop (at + 1) fields) ≡ false → stated_length (values_of name fields) ≡ stated_number field.value
  stated_once none =
      ap (λ (l : List Field). stated_length (map (λ (f : Field). f.value) l))
      (found ∙ ap (λ (l : List Field). field ∷ l) (filter_none (is_named name) (drop (at + 1) fields) none))

  pub first_here : first_text (values_of name fields) ≡ (if is_utf8 field.value then field.value else [])
  first_here = ap (λ (l : List Field). first_text (map (λ (f : Field). f.value) l)) found

-- no field has the name
pub first_none : (name : List ℕ) (fields : List Field) (at : ℕ) → length fields ≤ at
    → filter (is_named name) fields ≡ filter (is_named name) (drop at fields) → first_text (values_of name fields) ≡ []
first_none name fields at h was =
    ap (λ (l : List Field). first_text (map (λ (f : Field). f.value) l)) (was ∙ ap (filter (is_named name)) (drop_all at fields h))

pub stated_none : (name : List ℕ) (fields : List Field) (at : ℕ) → length fields ≤ at
    → filter (is_named name) fields ≡ filter (is_named name) (drop at fields) → stated_length (values_of name fields) ≡ Some 0
stated_none name fields at h was =
    ap (λ (l : List Field). stated_length (map (λ (f : Field). f.value) l)) (was ∙ ap (filter (is_named name)) (drop_all at fields h))
