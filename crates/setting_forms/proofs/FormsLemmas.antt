-- Lists of rules as values: how many they are, and what is read of them rule by rule.
use Rattle.std.proofs.Common.{◌≡◌, ℕ, ◌+◌, ◌<◌, ◌≤◌, ◌&&◌, Bool, true, false, cond, nat_le, length, List, [], ◌∷◌, ◌++◌, Option, Some, None, option_and_then}
use Rattle.std.proofs.Common.{Result, Ok, Err, drop, refl, sym, ap, ◌∙◌, append_assoc, append-nil}
use Rattle.std.specs.Prelude.{ok_or}
use Rattle.std.proofs.lemmas.Bool.{lt-ltb, le-ltb, le-leb, leb-true, and_parts}
use Rattle.serde_json.specs.Data.{Data, string, Items}
use Rattle.serde_json.specs.Events.{items_len}
use Rattle.serde_json.specs.Find.{get, as_str}
use Rattle.serde_json.specs.View.{view, items_view}
use Rattle.serde_json.specs.declared.value.Value.{Value}
use Rattle.serde_json.proofs.Views.{items_len-items_view}
use Rattle.setting_forms.specs.Forms.{in_turn, option_filter, is_within, text_within, field_of, few_of, rules_from}
use Rattle.setting_forms.specs.declared.fault.RuleFault.{RuleFault}
use Rattle.setting_forms.specs.declared.fault.RuleFault.TheVariants.{Field, TooMany}

-- ---- how many

too_many : (n : ℕ) (items : Items) → items_len items ≡ n → 256 < n → few_of items ≡ Err (TooMany n)
too_many n items e many = rw (e, lt-ltb 256 n many)

not_many : (n : ℕ) (items : Items) → items_len items ≡ n → n ≤ 256 → few_of items ≡ Ok items
not_many n items e few = rw (e, le-ltb 256 n few)

pub few_of-many : (list : List Value) → 256 < length list → few_of (items_view list) ≡ Err (TooMany (length list))
few_of-many list many = too_many (length list) (items_view list) (items_len-items_view list) many

pub few_of-few : (list : List Value) → length list ≤ 256 → few_of (items_view list) ≡ Ok (items_view list)
few_of-few list few = not_many (length list) (items_view list) (items_len-items_view list) few

-- ---- rule by rule

module _ {X : Type 0} (form : ℕ → Data → Result X RuleFault) where
  -- the rules before this place have been read, and make these
  pub record AreRead (list : List Value) (rule : ℕ) (done : List X) : Type 0 where
    pub whole : rules_from form 0 (items_view list) ≡ in_turn (rules_from form rule (items_view (drop rule list))) (λ xs. Ok (done ++ xs))

  unchanged : (r : Result (List X) RuleFault) → r ≡ in_turn r (λ xs. Ok xs)
  unchanged (Ok xs) = refl
  unchanged (Err fault) = refl

  pub none_read : (list : List Value) → AreRead list 0 []
  none_read list = record { whole = unchanged (rules_from form 0 (items_view list)) }

  longer : (r : Result (List X) RuleFault) (done : List X) (x : X)
      → in_turn (in_turn r (λ xs. Ok (x ∷ xs))) (λ xs. Ok (done ++ xs)) ≡ in_turn r (λ xs. Ok ((done ++ x ∷ []) ++ xs))
  longer (Ok xs) done x = ap Ok (sym (append_assoc done (x ∷ []) xs))
  longer (Err fault) done x = refl

  module _ (list : List Value) (rule : ℕ) (done : List X) (read : AreRead list rule done) (value : Value) (rest : List Value)
      (is : drop rule list ≡ value ∷ rest) where
    one_more : rules_from form 0 (items_view list)
        ≡ in_turn (in_turn (form rule (view value)) (λ x. in_turn (rules_from form (rule + 1) (items_view rest)) (λ xs. Ok (x ∷ xs)))) (λ xs. Ok (done ++ xs))
    one_more = read.whole ∙ ap (λ left. in_turn (rules_from form rule (items_view left)) (λ xs. Ok (done ++ xs))) is

    pub read_one : (x : X) → drop (rule + 1) list ≡ rest → form rule (view value) ≡ Ok x → AreRead list (rule + 1) (done ++ x ∷ [])
    read_one x left e = record {
      whole =
          one_more ∙ ap (λ r. in_turn (in_turn r (λ x. in_turn (rules_from form (rule + 1) (items_view rest)) (λ xs. Ok (x ∷ xs)))) (λ xs. Ok (done ++ xs))) e
          ∙ longer (rules_from form (rule + 1) (items_view rest)) done x
          ∙ ap (λ left. in_turn (rules_from form (rule + 1) (items_view left)) (λ xs. Ok ((done ++ x ∷ []) ++ xs))) (sym left);
    }

    pub refuse_one : (fault : RuleFault) → form rule (view value) ≡ Err fault → rules_from form 0 (items_view list) ≡ Err fault
    refuse_one fault e =
        one_more ∙ ap (λ r. in_turn (in_turn r (λ x. in_turn (rules_from form (rule + 1) (items_view rest)) (λ xs. Ok (x ∷ xs)))) (λ xs. Ok (done ++ xs))) e

  pub all_read : (list : List Value) (rule : ℕ) (done : List X) → AreRead list rule done → drop rule list ≡ [] → rules_from form 0 (items_view list) ≡ Ok done
  all_read list rule done read is =
      read.whole ∙ ap (λ left. in_turn (rules_from form rule (items_view left)) (λ xs. Ok (done ++ xs))) is ∙ ap Ok (append-nil done)

-- ---- one thing after another

module _ {X Y : Type 0} (next : X → Result Y RuleFault) (y : Y) where
  pub in_turn-Ok : (r : Result X RuleFault) → in_turn r next ≡ Ok y → (x : X) × (r ≡ Ok x) × (next x ≡ Ok y)
  in_turn-Ok (Ok x) e = (x, refl, e)
  in_turn-Ok (Err fault) e = absurd (cc)

is_some_of : {X : Type 0} (x : X) (fault : RuleFault) (o : Option X) → ok_or o fault ≡ Ok x → o ≡ Some x
is_some_of x fault None e = absurd (cc)
is_some_of x fault (Some y) e = let same : y ≡ x = cc in ap Some same

found : {X : Type 0} (form : Data → Option X) (x : X) (fault : RuleFault) (o : Option Data) → ok_or (option_and_then form o) fault ≡ Ok x
    → (value : Data) × (form value ≡ Some x)
found form x fault None e = absurd (cc)
found form x fault (Some value) e = (value, is_some_of x fault (form value) e)

-- a field that was read is of its form
pub field_of-Ok : {X : Type 0} (form : Data → Option X) (name : List ℕ) (rule : ℕ) (from : Data) (x : X) → field_of form name rule from ≡ Ok x
    → (value : Data) × (form value ≡ Some x)
field_of-Ok form name rule from x e = found form x (Field rule name) (get name from) e

passed : {X : Type 0} (test : X → Bool) (x y : X) (b : Bool) → test y ≡ b → cond b (Some y) None ≡ Some x → (y ≡ x) × (test x ≡ true)
passed test x y true is e = let same : y ≡ x = cc in (same, ap test (sym same) ∙ is)
passed test x y false is e = absurd (cc)

pub option_filter-Some : {X : Type 0} (test : X → Bool) (o : Option X) (x : X) → option_filter test o ≡ Some x → (o ≡ Some x) × (test x ≡ true)
option_filter-Some test None x e = absurd (cc)
option_filter-Some test (Some y) x e = let p = passed test x y (test y) refl e in (ap Some p.0, p.1)

pub option_filter-here : {X : Type 0} (test : X → Bool) (x : X) → test x ≡ true → option_filter test (Some x) ≡ Some x
option_filter-here test x e = ap (λ b. cond b (Some x) None) e

pub is_within-true : (least most n : ℕ) → is_within least most n ≡ true → (least ≤ n) × (n ≤ most)
is_within-true least most n e = let p = and_parts (nat_le least n) (nat_le n most) e in (leb-true least n p.0, leb-true n most p.1)

pub within : (least most n : ℕ) → least ≤ n → n ≤ most → is_within least most n ≡ true
within least most n low high = ap (λ b. b && nat_le n most) (le-leb least n low) ∙ le-leb n most high

pub text_within-Some : (least most : ℕ) (value : Data) (text : List ℕ) → text_within least most value ≡ Some text → (least ≤ length text) × (length text ≤ most)
text_within-Some least most value text e =
    is_within-true least most (length text) (option_filter-Some (λ t. is_within least most (length t)) (as_str value) text e).1

pub text_within-string : (least most : ℕ) (text : List ℕ) → least ≤ length text → length text ≤ most → text_within least most (string text) ≡ Some text
text_within-string least most text low high = option_filter-here (λ t. is_within least most (length t)) text (within least most (length text) low high)
