-- Where the paths stand that a reset drops.
use Rattle.std.specs.Prelude.{ℕ, List, []}
use Rattle.lake_values.specs.declared.commit.ResetWhat.{ResetWhat}
use Rattle.lake_values.specs.declared.commit.ResetWhat.TheVariants.{All, Object, Prefix}

-- the bytes from which on they stand, one after the other
abbrev pub reset_start : ResetWhat → List ℕ
reset_start All = []
reset_start (Object path) = path
reset_start (Prefix prefix) = prefix
