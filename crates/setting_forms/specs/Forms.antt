-- What a JSON value of a setting is: a list of rules, each an object with named fields (this project's profile).
-- A form says what a value is under it, and None where it isn't of the form.
use Rattle.std.specs.Prelude.{◌≡◌, ◌⊎◌, ◌+◌, ◌&&◌, ℕ, Bool, nat_lt, nat_le, if◌then◌else◌, is_some, List, [], ◌∷◌, length, Option, Some, None, option_and_then}
use Rattle.std.specs.Prelude.{ok_or, Result, Ok, Err}
use Rattle.serde_json.specs.Data.{Data, Items, no_items, item}
use Rattle.serde_json.specs.Events.{items_len}
use Rattle.serde_json.specs.Find.{get, as_array, as_object, as_str, as_number, as_u64}
use Rattle.setting_forms.specs.declared.fault.RuleFault.{RuleFault}
use Rattle.setting_forms.specs.declared.fault.RuleFault.TheVariants.{NotList, NotObject, Field, TooMany, NoMemory}

-- What a reader answers: what is due, of which contracts see this much, unless memory ran out.
abbrev pub IsReadAs : {X Y : Type 0} → (X → Y) → Result X RuleFault → Result Y RuleFault → Type 0
IsReadAs seen (Ok x) due = due ≡ Ok (seen x)
IsReadAs seen (Err fault) due = (fault ≡ NoMemory) ⊎ (due ≡ Err fault)

-- the first, and then what it leads to; or the fault of the first
abbrev pub in_turn : {X Y : Type 0} → Result X RuleFault → (X → Result Y RuleFault) → Result Y RuleFault
in_turn (Ok x) next = next x
in_turn (Err fault) next = Err fault

-- the value, where it passes a test
abbrev pub option_filter : {X : Type 0} → (X → Bool) → Option X → Option X
option_filter test value = option_and_then (λ x. if test x then Some x else None) value

-- a number between two, both included
abbrev pub is_within : ℕ → ℕ → ℕ → Bool
is_within least most n = nat_le least n && nat_le n most

-- a text of so many bytes
abbrev pub text_within : ℕ → ℕ → Data → Option (List ℕ)
text_within least most value = option_filter (λ text. is_within least most (length text)) (as_str value)

-- a whole number of 64 bits, written without a sign, a fraction and an exponent
abbrev pub whole_number : Data → Option ℕ
whole_number value = option_and_then as_u64 (as_number value)

-- a whole number between these
abbrev pub number_within : ℕ → ℕ → Data → Option ℕ
number_within least most value = option_filter (is_within least most) (whole_number value)

-- the field of this name; or its fault: it is missing, of another kind or out of range
abbrev pub field_of : {X : Type 0} → (Data → Option X) → List ℕ → ℕ → Data → Result X RuleFault
field_of form name rule value = ok_or (option_and_then form (get name value)) (Field rule name)

-- an object, which other values aren't
abbrev pub object_of : ℕ → Data → Result Data RuleFault
object_of rule value = if is_some (as_object value) then Ok value else Err (NotObject rule)

-- at most 256 rules
abbrev pub few_of : Items → Result Items RuleFault
few_of items = if nat_lt 256 (items_len items) then Err (TooMany (items_len items)) else Ok items

-- a list of at most 256, of which the length is tested before the members
abbrev pub list_of : Data → Result Items RuleFault
list_of value = in_turn (ok_or (as_array value) NotList) few_of

-- the list of this name, empty where it is missing
abbrev pub list_field_of : List ℕ → ℕ → Data → Result Items RuleFault
list_field_of name rule value = in_turn (list_here (get name value)) few_of
  where
    list_here : Option Data → Result Items RuleFault
    list_here None = Ok no_items
    list_here (Some list) = ok_or (as_array list) (Field rule name)

-- the rules of these values, which have the numbers from `rule` on; or the fault of the first that has one
abbrev pub rules_from : {X : Type 0} → (ℕ → Data → Result X RuleFault) → ℕ → Items → Result (List X) RuleFault
rules_from form rule no_items = Ok []
rules_from form rule (item value rest) = in_turn (form rule value) (λ x. in_turn (rules_from form (rule + 1) rest) (λ xs. Ok (x ∷ xs)))

-- the rules of a list, numbered from 0
abbrev pub rules_of : {X : Type 0} → (ℕ → Data → Result X RuleFault) → Data → Result (List X) RuleFault
rules_of form value = in_turn (list_of value) (rules_from form 0)
