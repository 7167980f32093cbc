-- A store in memory that never fails.
use Rattle.std.specs.Prelude.{ℕ, refl}
use Rattle.std.specs.FinMap as map
use Rattle.std.specs.Coded.{Coded, code_by, coded×, coded_ℕ, coded_list}
use Rattle.block_store.specs.Blocks.{HeldObjects}

-- the objects held, how often a number was missed, and the number missed last
pub record SureBlocksValue : Type 0 where
  pub held : HeldObjects
  pub misses : ℕ
  pub missed : ℕ

-- it is stored as its fields
abbrev pub sure_blocks_code : Coded SureBlocksValue
sure_blocks_code =
    code_by (HeldObjects × (ℕ × ℕ)) (coded× (map.code coded_ℕ (coded_list coded_ℕ)) (coded× coded_ℕ coded_ℕ)) (λ s. (s.held, (s.misses, s.missed)))
    (λ p. record { held = p.0; misses = p.1.0; missed = p.1.1 }) (λ _. refl)
