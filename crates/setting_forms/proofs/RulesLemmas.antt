-- What rules that were read are: each of its form, and at most 256; and that rules which were written are read back.
use Rattle.std.proofs.Common.{◌≡◌, ℕ, suc, ◌+◌, ◌≤◌, length, List, [], ◌∷◌, map, Option, Some, None, Result, Ok, Err, cond, Bool, true, false, nat_lt, refl, ap}
use Rattle.std.proofs.Common.{◌∙◌, subst}
use Rattle.std.specs.List.{AllByRecursion}
use Rattle.std.specs.Prelude.{ok_or}
use Rattle.std.proofs.lemmas.Bool.{le-ltb, ltb-false}
use Rattle.serde_json.specs.Data.{Data, array, Items, no_items, item}
use Rattle.serde_json.specs.Events.{items_len}
use Rattle.serde_json.specs.Find.{as_array}
use Rattle.serde_json.specs.View.{items_of}
use Rattle.setting_forms.specs.Forms.{in_turn, few_of, list_of, rules_from, rules_of}
use Rattle.setting_forms.specs.declared.fault.RuleFault.{RuleFault}
use Rattle.setting_forms.specs.declared.fault.RuleFault.TheVariants.{NotList, TooMany}

-- ---- at most 256

few_at : (b : Bool) (given items : Items) → nat_lt 256 (items_len given) ≡ b → cond b (Err (TooMany (items_len given))) (Ok given) ≡ Ok items
    → items_len items ≤ 256
few_at true given items is e = absurd (cc)
few_at false given items is e = let same : given ≡ items = cc in subst (λ i. items_len i ≤ 256) same (ltb-false 256 (items_len given) is)

few_listed : (list : Option Items) (items : Items) → in_turn (ok_or list NotList) few_of ≡ Ok items → items_len items ≤ 256
few_listed None items e = absurd (cc)
few_listed (Some given) items e = few_at _ given items refl e

pub few_of-list_of : (value : Data) (items : Items) → list_of value ≡ Ok items → items_len items ≤ 256
few_of-list_of value items e = few_listed (as_array value) items e

-- ---- each of its form

module _ {X : Type 0} (form : ℕ → Data → Result X RuleFault) (P : X → Type 0) (gives : (rule : ℕ) (value : Data) (x : X) → form rule value ≡ Ok x → P x) where
  pub record Keeps (items : Items) (xs : List X) : Type 0 where
    pub each : AllByRecursion P xs
    pub count : length xs ≡ items_len items

  kept : (rule : ℕ) (value : Data) (rest : Items) (r : Result X RuleFault) (s : Result (List X) RuleFault) (xs : List X) → form rule value ≡ r
      → ((ys : List X) → s ≡ Ok ys → Keeps rest ys)
      → in_turn r (λ x. in_turn s (λ ys. Ok (x ∷ ys))) ≡ Ok xs → Keeps (item value rest) xs
  kept rule value rest (Err fault) s xs is later e = absurd (cc)
  kept rule value rest (Ok x) (Err fault) xs is later e = absurd (cc)
  kept rule value rest (Ok x) (Ok ys) xs is later e =
      let same : x ∷ ys ≡ xs = cc in
      let tail = later ys refl in
      subst (Keeps (item value rest)) same (record { each = (gives rule value x is, tail.each); count = ap suc tail.count })

  pub Keeps-rules_from : (rule : ℕ) (items : Items) (xs : List X) → rules_from form rule items ≡ Ok xs → Keeps items xs
  Keeps-rules_from rule no_items xs e = let same : [] ≡ xs = cc in subst (Keeps no_items) same (record { each = tt; count = refl })
  Keeps-rules_from rule (item value rest) xs e =
      kept rule value rest (form rule value) (rules_from form (rule + 1) rest) xs refl (Keeps-rules_from (rule + 1) rest) e

-- ---- written and read back

items_len-items_of : {X : Type 0} (write : X → Data) (xs : List X) → items_len (items_of (map write xs)) ≡ length xs
items_len-items_of write [] = refl
items_len-items_of write (x ∷ xs) = ap suc (items_len-items_of write xs)

module _ {X : Type 0} (form : ℕ → Data → Result X RuleFault) (write : X → Data) (P : X → Type 0)
    (again : (rule : ℕ) (x : X) → P x → form rule (write x) ≡ Ok x) where
  read_from : (rule : ℕ) (xs : List X) → AllByRecursion P xs → rules_from form rule (items_of (map write xs)) ≡ Ok xs
  read_from rule [] each = refl
  read_from rule (x ∷ xs) each =
      ap (λ r. in_turn r (λ y. in_turn (rules_from form (rule + 1) (items_of (map write xs))) (λ ys. Ok (y ∷ ys)))) (again rule x each.0)
      ∙ ap (λ r. in_turn r (λ ys. Ok (x ∷ ys))) (read_from (rule + 1) xs each.1)

  few_again : (n : ℕ) (items : Items) → items_len items ≡ n → n ≤ 256 → few_of items ≡ Ok items
  few_again n items e few = rw (e, le-ltb 256 n few)

  pub rules_of-written : (xs : List X) → length xs ≤ 256 → AllByRecursion P xs → rules_of form (array (items_of (map write xs))) ≡ Ok xs
  rules_of-written xs few each =
      ap (λ r. in_turn r (rules_from form 0)) (few_again (length xs) (items_of (map write xs)) (items_len-items_of write xs) few) ∙ read_from 0 xs each
