-- The values of a query, an `application/x-www-form-urlencoded` text (URL Standard, section 5).
use Rattle.std.specs.Prelude.{◌≡◌, ◌==◌, ◌&&◌, ◌+◌, ◌*◌, ◌-◌, ℕ, Bool, false, nat_le, List, [], ◌∷◌, length, codes, if◌then◌else◌}
use Rattle.std.specs.Prelude.{Option, Some, None, option_map, option_and_then, ok_or, Result, Ok, Err}
use Rattle.std.specs.Option.{unwrap_or}
use Rattle.std.specs.List.{find}
use Rattle.std.specs.Str.{is_utf8, bytes_eq}
use Rattle.form_urlencoded.specs.Form.{decode, raw_pairs}
use Rattle.lake_base.specs.Names.{is_digit}
use Rattle.lake_base.specs.declared.digest.Digest.{Digest}
use Rattle.lake_calls.specs.declared.reply.FormRefusal.{FormRefusal}
use Rattle.lake_calls.specs.declared.reply.FormRefusal.TheVariants.{BadValue, Missing}
use Rattle.api_routes.specs.FormSteps.{in_turn}
use Rattle.api_routes.specs.FormNames.{checked, path_of, digest_of, moment_of}

-- the value of this key as it was sent: of the first pair whose name stands for it
abbrev pub value_at : (key query : List ℕ) → Option (List ℕ)
value_at key query = option_map (λ pair. pair.1) (find (λ pair. bytes_eq (decode pair.0) key) (raw_pairs query))

-- the text of this key, where it is there: a `+` is a blank, escapes are decoded, and then the bytes are UTF-8
abbrev pub text_at : (key query : List ℕ) → Result (Option (List ℕ)) FormRefusal
text_at key query = text_of (value_at key query)
  where
    text_of : Option (List ℕ) → Result (Option (List ℕ)) FormRefusal
    text_of None = Ok None
    text_of (Some value) = checked (is_utf8 (decode value)) key (Some (decode value))

-- the text of this key, empty where it isn't there
abbrev pub text_or_empty : (key query : List ℕ) → Result (List ℕ) FormRefusal
text_or_empty key query = in_turn (text_at key query) (λ text. Ok (unwrap_or text []))

-- the path of this key
abbrev pub path_at_key : (key query : List ℕ) → Result (List ℕ) FormRefusal
path_at_key key query = in_turn (text_at key query) (λ text. in_turn (ok_or text (Missing key)) (path_of key))

-- the number that decimal digits make, behind those that made the number before
abbrev pub number_in : (before : ℕ) → List ℕ → Option ℕ
number_in before [] = Some before
number_in before (digit ∷ digits) = if is_digit digit then number_in (before * 10 + (digit - 48)) digits else None

-- 1 to 4 bytes, the first of them not below the digit 1
abbrev pub begins_amount : List ℕ → Bool
begins_amount [] = false
begins_amount (first ∷ digits) = nat_le (length (first ∷ digits)) 4 && nat_le 49 first

-- an amount: decimal digits, the first of them not 0, that make 1 to 1,000
abbrev pub amount_in : List ℕ → Option ℕ
amount_in digits = if begins_amount digits then option_and_then (λ n. if nat_le n 1000 then Some n else None) (number_in 0 digits) else None

-- the amount of a page, 100 where there is none
abbrev pub amount_of : (query : List ℕ) → Result ℕ FormRefusal
amount_of query = in_turn (text_at (codes "amount") query) amount_from
  where
    amount_from : Option (List ℕ) → Result ℕ FormRefusal
    amount_from None = Ok 100
    amount_from (Some text) = ok_or (amount_in text) (BadValue (codes "amount"))

-- what is read of the text of a key, where it is there
abbrev pub where_there : {X : Type 0} → (List ℕ → Result X FormRefusal) → Option (List ℕ) → Result (Option X) FormRefusal
where_there form None = Ok None
where_there form (Some text) = in_turn (form text) (λ x. Ok (Some x))

-- the commit's id of this key
abbrev pub digest_at : (key query : List ℕ) → Result (Option Digest) FormRefusal
digest_at key query = in_turn (text_at key query) (where_there (digest_of key))

-- the moment of this key
abbrev pub moment_at : (key query : List ℕ) → Result (Option ℕ) FormRefusal
moment_at key query = in_turn (text_at key query) (where_there (moment_of key))
