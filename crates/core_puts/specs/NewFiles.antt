-- The puts of files that aren't kept yet, in the hands of the code.
use Rattle.std.specs.Prelude.{ℕ, not, List, [], ◌∷◌, map, filter, Option, if◌then◌else◌}
use Rattle.lake_base.specs.Maps.{ByteMap}
use Rattle.core_state.specs.declared.file_place.FilePlace.{FilePlace}
use Rattle.keeper.specs.declared.put.Put.{Put}
use Rattle.core_puts.specs.Puts.{is_kept_metarange, is_kept_range, metarange_put, range_put}

-- of a metarange, where it isn't kept as one
unfoldable pub new_metarange_puts : ByteMap (Option FilePlace) → List ℕ → List Put
new_metarange_puts kept metarange = if is_kept_metarange kept metarange then [] else metarange_put metarange ∷ []

-- of those of these ranges that aren't kept as such
unfoldable pub new_range_puts : ByteMap (Option FilePlace) → List (List ℕ) → List Put
new_range_puts kept ranges = map range_put (filter (λ range. not (is_kept_range kept range)) ranges)
