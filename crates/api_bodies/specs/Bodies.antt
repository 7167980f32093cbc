-- What a body is as JSON, and what the fields of an object are. A field that is null is there.
use Rattle.std.specs.Prelude.{ℕ, nat_le, List, length, is_some, if◌then◌else◌, Option, Some, None, ok_or, Result, Ok, Err}
use Rattle.std.specs.Str.{is_utf8}
use Rattle.serde_json.specs.Data.{Data}
use Rattle.serde_json.specs.Find.{get, as_object, as_str}
use Rattle.serde_json.specs.Read.{read}
use Rattle.setting_forms.specs.Forms.{whole_number}
use Rattle.lake_calls.specs.declared.reply.FormRefusal.{FormRefusal}
use Rattle.lake_calls.specs.declared.reply.FormRefusal.TheVariants.{BadBody, BadValue, Missing}
use Rattle.api_routes.specs.FormNames.{checked}
use Rattle.api_routes.specs.FormSteps.{in_turn}

-- the value of a text of JSON (RFC 8259, nested at most 127 deep)
abbrev pub json_text : List ℕ → Result Data FormRefusal
json_text text = ok_or (read text) BadBody

-- the value of a body, which is such a text in UTF-8
abbrev pub json_of : List ℕ → Result Data FormRefusal
json_of body = if is_utf8 body then json_text body else Err BadBody

-- the object that a body is
abbrev pub object_of_body : List ℕ → Result Data FormRefusal
object_of_body body = in_turn (json_of body) (λ value. if is_some (as_object value) then Ok value else Err BadBody)

-- what a form says of the value of a field, where it is there; else a bad value of its name
abbrev pub read_field : {X : Type 0} → (Data → Option X) → (name : List ℕ) → Option Data → Result (Option X) FormRefusal
read_field form name None = Ok None
read_field form name (Some value) = in_turn (ok_or (form value) (BadValue name)) (λ x. Ok (Some x))

-- the field of this name under a form, where it is there
abbrev pub field_as : {X : Type 0} → (Data → Option X) → (name : List ℕ) → Data → Result (Option X) FormRefusal
field_as form name given = read_field form name (get name given)

-- the field of this name under a form, which must be there
abbrev pub needed_as : {X : Type 0} → (Data → Option X) → (name : List ℕ) → Data → Result X FormRefusal
needed_as form name given = in_turn (field_as form name given) (λ x. ok_or x (Missing name))

-- a text
abbrev pub text_field : (name : List ℕ) → Data → Result (Option (List ℕ)) FormRefusal
text_field = field_as as_str

abbrev pub needed_text : (name : List ℕ) → Data → Result (List ℕ) FormRefusal
needed_text = needed_as as_str

-- a whole number of 64 bits, written without a sign, a fraction and an exponent
abbrev pub whole_field : (name : List ℕ) → Data → Result (Option ℕ) FormRefusal
whole_field = field_as whole_number

abbrev pub needed_whole : (name : List ℕ) → Data → Result ℕ FormRefusal
needed_whole = needed_as whole_number

-- what is read of the value of a field, where it is there
abbrev pub where_given : {X Y : Type 0} → (X → Result Y FormRefusal) → Option X → Result (Option Y) FormRefusal
where_given form None = Ok None
where_given form (Some x) = in_turn (form x) (λ y. Ok (Some y))

-- a text of at most so many bytes
abbrev pub short_text : (name : List ℕ) (most : ℕ) → Data → Result (Option (List ℕ)) FormRefusal
short_text name most given = in_turn (text_field name given) (where_given (λ text. checked (nat_le (length text) most) name text))
