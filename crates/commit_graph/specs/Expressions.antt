-- Expressions of commits: which texts they are, and where a text stops being one.
use Rattle.std.specs.Prelude.{◌≡◌, ◌+◌, ◌-◌, ◌*◌, ◌<◌, ◌≤◌, ◌^◌, ℕ, Bool, true, false, List, [], ◌∷◌, ◌++◌, length, take, None}
use Rattle.std.specs.List.{AllByRecursion}
use Rattle.lake_base.specs.Names.{ref_fault, is_digit}
use Rattle.commit_graph.specs.declared.expression.Move.{Move}
use Rattle.commit_graph.specs.declared.expression.Move.TheVariants.{Back, Parent}

-- an expression as contracts see it
pub record RefExprValue : Type 0 where
  pub name : List ℕ
  pub at : Bool
  pub moves : List Move

-- the number that decimal digits make, behind those that made the number before
abbrev pub decimal : ℕ → List ℕ → ℕ
decimal before [] = before
decimal before (digit ∷ digits) = decimal (before * 10 + (digit - 48)) digits

-- at most 10 decimal digits that make this number, which is below 2^32
pub record AreDigits (number : ℕ) (digits : List ℕ) : Type 0 where
  pub each : AllByRecursion (λ digit. is_digit digit ≡ true) digits
  pub few : length digits ≤ 10
  pub value : decimal 0 digits ≡ number
  pub wide : number < 2 ^ 32

-- how the number of a move is written: in digits, or not at all where it is 1
abbrev pub IsNumber : ℕ → List ℕ → Type 0
IsNumber number [] = number ≡ 1
IsNumber number (digit ∷ digits) = AreDigits number (digit ∷ digits)

-- `~` or `^`
abbrev pub sign : Move → ℕ
sign (Back steps) = 126
sign (Parent number) = 94

-- the number of a move
abbrev pub number_of : Move → ℕ
number_of (Back steps) = steps
number_of (Parent number) = number

-- moves, one after the other
abbrev pub AreMoves : List Move → List ℕ → Type 0
AreMoves [] text = text ≡ []
AreMoves (one ∷ moves) text =
    (digits : List ℕ) × (rest : List ℕ) × (text ≡ sign one ∷ (digits ++ rest)) × IsNumber (number_of one) digits × AreMoves moves rest

-- `@`, where it stands
abbrev pub at_sign : Bool → List ℕ
at_sign true = 64 ∷ []
at_sign false = []

-- no `@` stands at the front
abbrev pub NoAt : List ℕ → Type 0
NoAt rest = (more : List ℕ) → rest ≡ 64 ∷ more → ⊥

-- the text of an expression: a name, at most one `@`, and moves
pub record IsExpression (e : RefExprValue) (text : List ℕ) : Type 0 where
  pub tail : List ℕ
  pub parts : text ≡ e.name ++ (at_sign e.at ++ tail)
  pub named : ref_fault e.name ≡ None
  pub moves : AreMoves e.moves tail

-- an expression begins so
abbrev pub Begins : List ℕ → Type 0
Begins text = (e : RefExprValue) × ((more : List ℕ) × IsExpression e (text ++ more))

-- the least place at which no expression goes on: some begin like the text before it; none goes on with the byte
-- there, or the text ends there and is none
pub record IsStray (text : List ℕ) (place : ℕ) : Type 0 where
  pub within : place ≤ length text
  pub before : Begins (take place text)
  pub stops : Begins (take (place + 1) text) → length text ≤ place
  pub none : (e : RefExprValue) → IsExpression e text → ⊥
