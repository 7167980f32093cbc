-- Reading an expression from the left: the longest name, and the longest number of each move.
use Rattle.std.specs.Prelude.{◌≡◌, ◌+◌, ◌-◌, ◌*◌, ◌==◌, ◌&&◌, ◌≤◌, ℕ, zero, suc, Bool, List, [], ◌∷◌, ◌++◌, length, nat_lt, Option, Some, None, if◌then◌else◌}
use Rattle.lake_base.specs.Names.{begins_ref, continues_ref, is_digit}
use Rattle.commit_graph.specs.declared.expression.Move.{Move}
use Rattle.commit_graph.specs.declared.expression.Move.TheVariants.{Back, Parent}
use Rattle.commit_graph.specs.declared.expression.ExprFault.{ExprFault}
use Rattle.commit_graph.specs.declared.expression.ExprFault.TheVariants.{Bad, NoMemory}
use Rattle.commit_graph.specs.Expressions.{AreMoves}

-- a number goes on with this byte
abbrev pub takes_digit : ℕ → ℕ → Bool
takes_digit before byte = is_digit byte && nat_lt (before * 10 + (byte - 48)) 4294967296

-- the number behind the digits before, with at most so many more of them, and the bytes after it
unfoldable pub number_from : ℕ → ℕ → List ℕ → ℕ × List ℕ
number_from zero before bytes = (before, bytes)
number_from (suc more) before [] = (before, [])
number_from (suc more) before (byte ∷ bytes) =
    if takes_digit before byte then number_from more (before * 10 + (byte - 48)) bytes else (before, byte ∷ bytes)

-- the number at the front, which is 1 where there is no digit, and the bytes after it
unfoldable pub read_number : List ℕ → ℕ × List ℕ
read_number [] = (1, [])
read_number (byte ∷ bytes) = if is_digit byte then number_from 10 0 (byte ∷ bytes) else (1, byte ∷ bytes)

-- the move at the front, and the bytes after it
unfoldable pub read_move : List ℕ → Option (Move × List ℕ)
read_move [] = None
read_move (byte ∷ bytes) =
    if byte == 126 then Some (Back (read_number bytes).0, (read_number bytes).1)
    else if byte == 94 then Some (Parent (read_number bytes).0, (read_number bytes).1)
    else None

-- it begins like the other: both are empty, or have the same first byte
abbrev pub BeginsLike : List ℕ → List ℕ → Type 0
BeginsLike [] other = other ≡ []
BeginsLike (byte ∷ bytes) other = (more : List ℕ) × (other ≡ byte ∷ more)

-- The moves stand at the front of the bytes, before the rest, and whatever moves begin with that front and go on
-- like the rest begin with these moves.
pub record IsScanned (bytes : List ℕ) (moves : List Move) (rest : List ℕ) : Type 0 where
  pub front : List ℕ
  pub parts : bytes ≡ front ++ rest
  pub spelled : AreMoves moves front
  pub forced : (others : List Move) (y : List ℕ) → BeginsLike rest y → AreMoves others (front ++ y)
      → (later : List Move) × (others ≡ moves ++ later) × AreMoves later y

-- Moves can't go on in an input of n bytes, at this place: so far they are scanned, and no move stands before the rest.
pub record IsStopped (n : ℕ) (bytes : List ℕ) (place : ℕ) : Type 0 where
  pub moves : List Move
  pub rest : List ℕ
  pub scanned : IsScanned bytes moves rest
  pub no_move : read_move rest ≡ None
  pub some : 1 ≤ length rest
  pub at : place ≡ n - length rest

-- why the reading of moves ended
abbrev pub StopsMoves : ℕ → List ℕ → ExprFault → Type 0
StopsMoves n bytes NoMemory = Unit {0}
StopsMoves n bytes (Bad place) = IsStopped n bytes place

-- how many bytes of the front a name may go on with, and at most so many
unfoldable pub tail_len : ℕ → List ℕ → ℕ
tail_len zero bytes = 0
tail_len (suc more) [] = 0
tail_len (suc more) (byte ∷ bytes) = if continues_ref byte then suc (tail_len more bytes) else 0

-- how long the longest name at the front is
unfoldable pub name_len : List ℕ → ℕ
name_len [] = 0
name_len (byte ∷ bytes) = if begins_ref byte then suc (tail_len 254 bytes) else 0
