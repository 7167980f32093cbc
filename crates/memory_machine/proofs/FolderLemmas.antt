-- Pairs without entries.
use Rattle.std.proofs.Common.{◌≡◌, ℕ, List, [], ◌∷◌, length, refl, sym, ◌∙◌, arith}
use Rattle.std.specs.FinMap.{entries, empty, len-empty, len-entries, same_entries_map, slice_cmp-IsAntisymmetric}
use Rattle.keeper.specs.Keepers.{KeptPairs}
use Rattle.lake_base.specs.Maps.{byte_order}

nothing : {X : Type 0} (es : List X) → length es ≡ 0 → es ≡ []
nothing [] e = refl
nothing (x ∷ es) e = absurd (omega arith)

-- they are none
pub no_pairs : (pairs : KeptPairs) → entries pairs ≡ [] → pairs ≡ empty
no_pairs pairs is = same_entries_map pairs empty (is ∙ sym (nothing _ (sym (len-entries empty) ∙ len-empty byte_order (List ℕ))))
