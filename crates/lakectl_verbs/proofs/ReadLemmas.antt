-- Steps of the loops over arguments and over values.
use Rattle.std.proofs.Common.{◌≡◌, ◌<◌, ◌≤◌, ◌+◌, ℕ, Bool, true, false, List, [], ◌∷◌, ◌++◌}
use Rattle.std.proofs.Common.{length, drop, map, get_or, Option, Some, None, refl, sym, ap, ◌∙◌, append_assoc, arith}
use Rattle.std.specs.List.{fold, filter_map, cons_option}
use Rattle.std.specs.Str.{bytes_eq}
use Rattle.std.specs.Option.{option_map}
use Rattle.std.proofs.lemmas.List.{map-append}
use Rattle.clap.specs.Words.{App, Rule, with_rule}
use Rattle.lakectl_verbs.specs.declared.argument.Argument.{Argument}
use Rattle.lakectl_verbs.specs.declared.read.Value.{Value}
use Rattle.lakectl_verbs.specs.ArgumentForms.{ArgumentForm, form_of}
use Rattle.lakectl_verbs.specs.VerbCommands.{GivenValue, rule_of_form, value_found}
use Rattle.lakectl_verbs.specs.ReadWords.{value_seen, text_in}
use Rattle.lakectl_verbs.proofs.RestLemmas.{rest_is, rest_none}

-- one more argument of a command
pub command_step : (xs : List Argument) (i : ℕ) (d : Argument) (before after all : App) (rule : Rule) → i < length xs
    → rule ≡ rule_of_form (form_of (get_or xs i d)) → after ≡ with_rule before rule
    → fold with_rule before (map rule_of_form (map form_of (drop i xs))) ≡ all
    → fold with_rule after (map rule_of_form (map form_of (drop (i + 1) xs))) ≡ all
command_step xs i d before after all rule lt is more left =
    let rest : List Rule = map rule_of_form (map form_of (drop (i + 1) xs)) in
    ap (λ (app : App). fold with_rule app rest) (more ∙ ap (with_rule before) is)
    ∙ sym (ap (λ (l : List Argument). fold with_rule before (map rule_of_form (map form_of l))) (rest_is xs i d lt))
    ∙ left

-- no argument is left
pub command_done : (xs : List Argument) (i : ℕ) (app all : App) → length xs ≤ i
    → fold with_rule app (map rule_of_form (map form_of (drop i xs))) ≡ all → app ≡ all
command_done xs i app all end left =
    sym (ap (λ (l : List Argument). fold with_rule app (map rule_of_form (map form_of l))) (rest_none xs i end)) ∙ left

-- the value at this place has another name
pub text_next : (xs : List Value) (i : ℕ) (d : Value) (name : List ℕ) (same : Bool) → i < length xs
    → same ≡ bytes_eq (get_or xs i d).argument.now.name.now name → same ≡ false
    → text_in (map value_seen (drop (i + 1) xs)) name ≡ text_in (map value_seen (drop i xs)) name
text_next xs i d name same lt is other =
    let e : bytes_eq (get_or xs i d).argument.now.name.now name ≡ false = sym is ∙ other in
    sym (ap (λ (l : List Value). text_in (map value_seen l) name) (rest_is xs i d lt) ∙ rw e refl)

-- it has this name
pub text_here : (xs : List Value) (i : ℕ) (d : Value) (name : List ℕ) (same : Bool) → i < length xs
    → same ≡ bytes_eq (get_or xs i d).argument.now.name.now name → same ≡ true
    → Some (get_or xs i d).text.now ≡ text_in (map value_seen (drop i xs)) name
text_here xs i d name same lt is this =
    let e : bytes_eq (get_or xs i d).argument.now.name.now name ≡ true = sym is ∙ this in
    sym (ap (λ (l : List Value). text_in (map value_seen l) name) (rest_is xs i d lt) ∙ rw e refl)

-- none is left
pub text_none : (xs : List Value) (i : ℕ) (name : List ℕ) → length xs ≤ i → None ≡ text_in (map value_seen (drop i xs)) name
text_none xs i name end = sym (ap (λ (l : List Value). text_in (map value_seen l) name) (rest_none xs i end))

-- the values of the arguments from this place on
pub found_step : (xs : List Argument) (i : ℕ) (d : Argument) (found : ArgumentForm → Option GivenValue) → i < length xs
    → filter_map found (map form_of (drop i xs)) ≡ cons_option (found (form_of (get_or xs i d))) (filter_map found (map form_of (drop (i + 1) xs)))
found_step xs i d found lt = ap (λ (l : List Argument). filter_map found (map form_of l)) (rest_is xs i d lt)

module _ (xs : List Argument) (i : ℕ) (d : Argument) (found : List ℕ → Option (List ℕ)) (values : List Value) (all : List GivenValue)
    (lt : i < length xs)
    (left : map value_seen values ++ filter_map (value_found found) (map form_of (drop i xs)) ≡ all) where
  abbrev rest : List GivenValue
  rest = filter_map (value_found found) (map form_of (drop (i + 1) xs))

  -- nothing is found of the argument
  pub found_none : (o : Option (List ℕ)) → o ≡ found (get_or xs i d).name.now → o ≡ None
      → map value_seen values ++ filter_map (value_found found) (map form_of (drop (i + 1) xs)) ≡ all
  found_none o is none =
      let e : value_found found (form_of (get_or xs i d)) ≡ None = ap (option_map (λ (text : List ℕ). (form_of (get_or xs i d), text))) (sym is ∙ none) in
      ap (λ (l : List GivenValue). map value_seen values ++ l)
      (sym (found_step xs i d (value_found found) lt ∙ ap (λ (o : Option GivenValue). cons_option o rest) e)) ∙ left

  -- a value is found
  pub found_some : (after : List Value) (v : Value) (o : Option (List ℕ)) → o ≡ found (get_or xs i d).name.now → o ≡ Some v.text.now
      → v.argument.now ≡ get_or xs i d → after ≡ values ++ v ∷ []
      → map value_seen after ++ filter_map (value_found found) (map form_of (drop (i + 1) xs)) ≡ all
  found_some after v o is some of more =
      let e : value_found found (form_of (get_or xs i d)) ≡ Some (value_seen v) =
      ap (option_map (λ (text : List ℕ). (form_of (get_or xs i d), text))) (sym is ∙ some) ∙ ap (λ (a : Argument). Some (form_of a, v.text.now)) (sym of) in
      ap (λ (l : List Value). map value_seen l ++ rest) more
      ∙ ap (λ (l : List GivenValue). l ++ rest) (map-append value_seen values (v ∷ []))
      ∙ append_assoc (map value_seen values) (value_seen v ∷ []) rest
      ∙ ap (λ (l : List GivenValue). map value_seen values ++ l)
      (sym (found_step xs i d (value_found found) lt ∙ ap (λ (o : Option GivenValue). cons_option o rest) e)) ∙ left
