-- Which expression a text is, and what is due where one is asked for.
use Rattle.std.specs.Prelude.{◌==◌, ℕ, zero, suc, nat_lt, Bool, true, false, List, [], ◌∷◌, length, take, drop, if◌then◌else◌}
use Rattle.std.specs.Prelude.{Option, Some, None, option_map, option_and_then, ok_or, Result, Ok, Err}
use Rattle.commit_graph.specs.declared.expression.Move.{Move}
use Rattle.commit_graph.specs.Expressions.{RefExprValue}
use Rattle.commit_graph.specs.Scanning.{read_move, name_len}
use Rattle.lake_calls.specs.Calls.{ExpressionValue}
use Rattle.lake_calls.specs.declared.reply.FormRefusal.{FormRefusal}
use Rattle.lake_calls.specs.declared.reply.FormRefusal.TheVariants.{BadValue}
use Rattle.api_routes.specs.FormSteps.{in_turn}

-- the moves that a text is, at most so many
abbrev pub moves_of : (most : ℕ) → List ℕ → Option (List Move)
moves_of most [] = Some []
moves_of zero (byte ∷ text) = None
moves_of (suc most) (byte ∷ text) =
    option_and_then (λ front. option_map (λ moves. front.0 ∷ moves) (moves_of most front.1)) (read_move (byte ∷ text))

-- the expression of a name, whether `@` follows it, and moves
abbrev pub with_moves : (name : List ℕ) → Bool → List ℕ → Option RefExprValue
with_moves name at text = option_map (λ moves. record { name = name; at = at; moves = moves }) (moves_of (length text) text)

-- the expression of a name and what stands behind it
abbrev pub behind_name : (name rest : List ℕ) → Option RefExprValue
behind_name name [] = with_moves name false []
behind_name name (byte ∷ rest) = if byte == 64 then with_moves name true rest else with_moves name false (byte ∷ rest)

-- the expression that a text is: the longest name, at most one `@`, and moves. A law of this crate says that it is that one.
abbrev pub expression_of : List ℕ → Option RefExprValue
expression_of text = if name_len text == 0 then None else behind_name (take (name_len text) text) (drop (name_len text) text)

-- the expression of a text of at most 67,108,864 bytes; else a bad value of this name
abbrev pub expression_at : (name text : List ℕ) → Result ExpressionValue FormRefusal
expression_at name text =
    if nat_lt 67108864 (length text) then Err (BadValue name)
    else in_turn (ok_or (expression_of text) (BadValue name)) (λ e. Ok (record { e = e; text = text }))
