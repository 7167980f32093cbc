-- Files that are kept in trees.
use Rattle.std.specs.Prelude.{ℕ, Bool, List, refl}
use Rattle.std.specs.Coded.{Coded, code_by, coded×, coded_bool, coded_list, coded_ℕ}

-- a file that is kept: its bytes, and whether it is kept as a metarange, and not as a range
pub record FilePlaceValue : Type 0 where
  pub bytes : List ℕ
  pub is_metarange : Bool

-- it is stored as its fields
abbrev pub file_place_code : Coded FilePlaceValue
file_place_code =
    code_by (List ℕ × Bool) (coded× (coded_list coded_ℕ) coded_bool) (λ p. (p.bytes, p.is_metarange))
    (λ p. record { bytes = p.0; is_metarange = p.1 }) (λ _. refl)
