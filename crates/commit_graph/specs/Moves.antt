-- Where moves lead from a commit.
use Rattle.std.specs.Prelude.{◌+◌, ℕ, zero, suc, List, [], ◌∷◌, slice_get, Option, Some, Result, Ok, Err}
use Rattle.std.specs.Option.{option_map_or}
use Rattle.lake_base.specs.declared.digest.Digest.{Digest}
use Rattle.lake_values.specs.Ancestry.{Graph, parents, back}
use Rattle.commit_graph.specs.declared.expression.Move.{Move}
use Rattle.commit_graph.specs.declared.expression.Move.TheVariants.{Back, Parent}

-- where one move leads: so many first parents back, or to the parent of a number, which counts from 1; the parent 0
-- is the commit itself
abbrev pub move_target : Graph → Move → Digest → Option Digest
move_target graph (Back steps) id = back graph steps id
move_target graph (Parent zero) id = Some id
move_target graph (Parent (suc place)) id = slice_get (parents graph id) place

-- where the moves lead, the first of which has this number; else the number of the first that leads nowhere
abbrev pub moves_target : Graph → ℕ → Digest → List Move → Result Digest ℕ
moves_target graph number id [] = Ok id
moves_target graph number id (one ∷ moves) =
    option_map_or (λ next. moves_target graph (number + 1) next moves) (move_target graph one id) (Err number)
