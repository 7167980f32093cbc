-- What is told of the lines.
use Rattle.std.specs.Prelude.{ℕ, List, ◌++◌, codes}
use Rattle.std.specs.Fmt.{decimal}
use Rattle.hex.specs.Hex.{encode_lower}
use Rattle.lake_base.specs.declared.digest.Digest.{Digest}

-- THE FOUR LINES
abbrev pub told_text : (uploads heads paths : ℕ) → (id : Digest) → List ℕ
told_text uploads heads paths id =
    codes "objects: " ++ decimal uploads ++ codes "\ncommits: " ++ decimal heads
    ++ codes "\npaths: " ++ decimal paths ++ codes "\nmetarange: " ++ encode_lower id.0 ++ codes "\n"
