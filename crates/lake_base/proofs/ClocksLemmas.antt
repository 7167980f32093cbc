-- The readings of a clock that gives moments in turn, one reading on.
use Rattle.std.proofs.Common.{◌≡◌, ◌++◌, ◌∷◌, [], ℕ, zero, suc, ◌+◌, List, length, length-append, refl, ap, ◌∙◌, add-one}
use Rattle.lake_base.specs.Clocks.{first_moments, moment_after}

-- one reading more is the moment after the readings so far
pub first_moments-next : (moments : List ℕ) (given : ℕ) → first_moments moments (given + 1) ≡ first_moments moments given ++ moment_after moments given ∷ []
first_moments-next moments given = rw add-one refl

-- so many readings there are
pub first_moments-length : (moments : List ℕ) (given : ℕ) → length (first_moments moments given) ≡ given
first_moments-length moments zero = refl
first_moments-length moments (suc given) =
    length-append (first_moments moments given) (moment_after moments given ∷ [])
    ∙ (add-one (length (first_moments moments given)) ∙ ap suc (first_moments-length moments given))
