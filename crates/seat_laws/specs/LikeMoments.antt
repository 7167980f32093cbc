-- Readings of two clocks.
use Rattle.std.specs.Prelude.{◌≡◌, ⊤, ℕ, List, [], ◌∷◌}

-- as far as both go, they are the same
abbrev pub Agree : List ℕ → List ℕ → Type 0
Agree [] others = ⊤
Agree (reading ∷ taken) [] = ⊤
Agree (reading ∷ taken) (other ∷ others) = (reading ≡ other) × Agree taken others
