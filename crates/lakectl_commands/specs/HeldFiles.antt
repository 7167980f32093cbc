-- The files that commands read and write.
use Rattle.std.specs.Prelude.{◌≡◌, ◌≢◌, List, ℕ}
use Rattle.std.specs.FinMap.{get}
use Rattle.lake_base.specs.Maps.{ByteMap}

-- the bytes of files, under their names
abbrev pub HeldFiles : Type 0
HeldFiles = ByteMap (List ℕ)

-- no file but that of this name changed
abbrev pub KeepsOthers : (name : List ℕ) → (before after : HeldFiles) → Type 0
KeepsOthers name before after = (other : List ℕ) → other ≢ name → get after other ≡ get before other
