-- The files of a map that has one.
use Rattle.std.proofs.Common.{◌∷◌, [], ap, arith, length, length-append}
use Rattle.lake_model.specs.Commits.{StandsBefore}

-- of one alone none stands before another
pub alone : {X : Type 0} (only one other : X) → StandsBefore (only ∷ []) one other → ⊥
alone only one other stands =
    let sizes = simp length-append at (ap length stands.parts) in omega (arith, sizes, stands.among.1)
