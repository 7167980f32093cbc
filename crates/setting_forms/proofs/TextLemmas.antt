-- The compact text of a list of rules reads back as the list.
use Rattle.std.proofs.Common.{◌≡◌, ℕ, ◌≤◌, ◌<◌, ◌^◌, List, [], ◌∷◌, map, false, ◌||◌, Some, option_map, option_and_then, refl, sym, ap, ◌∙◌, arith, append-nil}
use Rattle.std.specs.List.{AllByRecursion}
use Rattle.json.specs.Json as json
use Rattle.json.specs.Lex.{tokens}
use Rattle.json.specs.Tree as tree
use Rattle.json.proofs.Printed.Decimals.{IsNumber-decimal}
use Rattle.json.proofs.Printed.Tokens.{tokens-print}
use Rattle.json.proofs.Printed.Trees.{value-json_tokens, ArePrintable-json_tokens}
use Rattle.serde_json.specs.Data.{Data, number, unsigned, array, item, depth, items_depth}
use Rattle.serde_json.specs.Read.{read, max_depth, of_json, of_items}
use Rattle.serde_json.specs.View.{items_of}
use Rattle.serde_json.specs.Written.{outline, items_outline, compact_text, has_float, items_have_float}
use Rattle.serde_json.proofs.Texts.{print-outline}

pub read-compact_text : (d : Data) → tree.HasNumbers (outline d) → of_json (outline d) ≡ Some d → tree.depth (outline d) ≤ 127 → read (compact_text d) ≡ Some d
read-compact_text d numbers again shallow =
    let given : tokens (compact_text d) ≡ tree.json_tokens (outline d) =
    ap tokens (sym (print-outline d)) ∙ tokens-print (tree.json_tokens (outline d)) (ArePrintable-json_tokens (outline d) numbers) in
    ap (λ ts. option_and_then of_json (option_and_then (λ p. json.if_last p.0 p.1) (json.value max_depth ts)))
    (given ∙ sym (append-nil (tree.json_tokens (outline d))))
    ∙ ap (λ r. option_and_then of_json (option_and_then (λ p. json.if_last p.0 p.1) r)) (value-json_tokens (outline d) max_depth [] shallow)
    ∙ again

pub number_flat : (n : ℕ) → n < 2 ^ 64 → tree.HasNumbers (outline (number (unsigned n)))
number_flat n small = IsNumber-decimal n small

-- ---- lists of what was written

module _ {X : Type 0} (write : X → Data) where
  pub record IsFlat (x : X) : Type 0 where
    pub numbers : tree.HasNumbers (outline (write x))
    pub again : of_json (outline (write x)) ≡ Some (write x)
    pub shallow : tree.depth (outline (write x)) ≤ 1

  pub no_floats : ((x : X) → has_float (write x) ≡ false) → (xs : List X) → items_have_float (items_of (map write xs)) ≡ false
  no_floats each [] = refl
  no_floats each (x ∷ xs) = ap (λ b. b || items_have_float (items_of (map write xs))) (each x) ∙ no_floats each xs

  pub flat : ((x : X) → depth (write x) ≤ 1) → (xs : List X) → items_depth (items_of (map write xs)) ≤ 1
  flat each [] = omega arith
  flat each (x ∷ xs) = omega (arith, each x, flat each xs)

  all_numbers : (xs : List X) → AllByRecursion IsFlat xs → tree.ItemsHaveNumbers (items_outline (items_of (map write xs)))
  all_numbers [] each = tt
  all_numbers (x ∷ xs) each = (each.0.numbers, all_numbers xs each.1)

  all_again : (xs : List X) → AllByRecursion IsFlat xs → of_items (items_outline (items_of (map write xs))) ≡ Some (items_of (map write xs))
  all_again [] each = refl
  all_again (x ∷ xs) each =
      ap (option_and_then (λ d. option_map (item d) (of_items (items_outline (items_of (map write xs)))))) each.0.again
      ∙ ap (option_map (item (write x))) (all_again xs each.1)

  flat_outline : (xs : List X) → AllByRecursion IsFlat xs → tree.items_depth (items_outline (items_of (map write xs))) ≤ 1
  flat_outline [] each = omega arith
  flat_outline (x ∷ xs) each = omega (arith, each.0.shallow, flat_outline xs each.1)

  pub read-list : (xs : List X) → AllByRecursion IsFlat xs → read (compact_text (array (items_of (map write xs)))) ≡ Some (array (items_of (map write xs)))
  read-list xs each =
      read-compact_text (array (items_of (map write xs))) (all_numbers xs each) (ap (option_map array) (all_again xs each))
      (omega (arith, flat_outline xs each))
