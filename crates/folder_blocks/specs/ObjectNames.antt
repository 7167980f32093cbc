-- The names of objects' files.
use Rattle.std.specs.Prelude.{ℕ, List}
use Rattle.std.specs.Int.{w64, to_be_bytes}
use Rattle.hex.specs.Hex.{encode_lower}

-- a number of 64 bits as 16 lower-case hex digits
abbrev pub object_name : ℕ → List ℕ
object_name number = encode_lower (to_be_bytes w64 number)
