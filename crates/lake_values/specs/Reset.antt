-- What a reset leaves of changes.
use Rattle.std.specs.Prelude.{ℕ, Bool, true, not, nat_eq, List}
use Rattle.std.specs.FinMap.{retain_keys}
use Rattle.std.specs.List.{starts_with}
use Rattle.std.specs.Str.{bytes_eq}
use Rattle.lake_values.specs.KeyMap.{ChangesValue}
use Rattle.lake_values.specs.declared.commit.ResetWhat.{ResetWhat}
use Rattle.lake_values.specs.declared.commit.ResetWhat.TheVariants.{All, Object, Prefix}

-- whether a reset drops the change of a path: of every path, of the one, or of those that begin with the prefix
abbrev pub drops_path : ResetWhat → List ℕ → Bool
drops_path All path = true
drops_path (Object one) path = bytes_eq path one
drops_path (Prefix prefix) path = starts_with nat_eq path prefix

-- what a reset leaves of changes: those at the paths that it does not drop
unfoldable pub changes_after_reset : ResetWhat → ChangesValue → ChangesValue
changes_after_reset what changes = retain_keys changes (λ path. not (drops_path what path))
