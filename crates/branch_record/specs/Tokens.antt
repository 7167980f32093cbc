-- Uncommitted changes under tokens.
use Rattle.std.specs.Prelude.{◌≡◌, ◌≢◌, ◌==◌, ℕ, true, List, [], ◌∷◌, if◌then◌else◌, refl}
use Rattle.std.specs.Option.{unwrap_or}
use Rattle.std.specs.Ordering.{nat_cmp}
use Rattle.std.specs.FinMap.{FinMap, contains_key, empty, get, insert, remove, len, code}
use Rattle.std.specs.Coded.{Coded, code_by, coded×, coded_ℕ, coded_list}
use Rattle.lake_values.specs.KeyMap.{ChangesValue}
use Rattle.lake_values.specs.declared.entry.Change.{Change}
use Rattle.lake_values.specs.contracts.entry.Change.{the_row}

-- a finite map from token to its changes, without the tokens that have none
abbrev pub TokenMap : Type 0
TokenMap = FinMap nat_cmp ChangesValue

-- tokens as contracts see them: the changes under each, and for how many changes more there is room
pub record TokensValue : Type 0 where
  pub changes : TokenMap
  pub spare : ℕ

-- the code of a value is that of its fields
abbrev pub tokens_code : Coded TokensValue
tokens_code =
    code_by (TokenMap × ℕ) (coded× (code coded_ℕ (code (coded_list coded_ℕ) the_row.coded)) coded_ℕ)
    (λ t. (t.changes, t.spare)) (λ p. record { changes = p.0; spare = p.1 }) (λ _. refl)

-- the changes under a token: none where it isn't there
unfoldable pub changes_under : TokenMap → ℕ → ChangesValue
changes_under tokens token = unwrap_or (get tokens token) empty

-- no token is there without changes
abbrev pub HasNoEmptyToken : TokenMap → Type 0
HasNoEmptyToken tokens = (token : ℕ) → contains_key tokens token ≡ true → changes_under tokens token ≢ empty

-- the tokens with these changes under one of them, and the others as they are
unfoldable pub with_changes : TokenMap → ℕ → ChangesValue → TokenMap
with_changes tokens token changes = if len changes == 0 then remove tokens token else insert tokens token changes

-- the tokens with this change over those under one of them, and the others as they are
unfoldable pub with_change : TokenMap → ℕ → List ℕ → Change → TokenMap
with_change tokens token path change = with_changes tokens token (insert (changes_under tokens token) path change)

-- the tokens with what f makes of the changes under each of these, and the others as they are
unfoldable pub with_each : List ℕ → (ChangesValue → ChangesValue) → TokenMap → TokenMap
with_each [] f tokens = tokens
with_each (token ∷ others) f tokens = with_changes (with_each others f tokens) token (f (changes_under tokens token))
