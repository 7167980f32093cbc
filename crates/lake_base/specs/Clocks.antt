-- Clocks that give fixed moments.
use Rattle.std.specs.Prelude.{◌-◌, ◌++◌, ◌∷◌, [], ℕ, zero, suc, List, Option, Some, None, length, slice_index, replicate, min, nat_lt, if◌then◌else◌}
use Rattle.lake_base.specs.Outside.{last_count}

-- a clock that always gives one moment, and how many readings it gave
pub record FixedClockValue : Type 0 where
  pub at : ℕ
  pub given : ℕ

-- a clock that gives moments in turn, and how many readings it gave
pub record ScriptClockValue : Type 0 where
  pub moments : List ℕ
  pub given : ℕ

-- the reading after so many: the moments in turn, then the last again, 0 where there is none
abbrev pub moment_after : List ℕ → ℕ → ℕ
moment_after moments given = slice_index moments (min given (length moments - 1))

-- the first readings of a clock that gives moments in turn, so many
abbrev pub first_moments : List ℕ → ℕ → List ℕ
first_moments moments zero = []
first_moments moments (suc given) = first_moments moments given ++ moment_after moments given ∷ []

-- readings are told as long as their count isn't at its end
abbrev pub readings_told : ℕ → List ℕ → Option (List ℕ)
readings_told given readings = if nat_lt given last_count then Some readings else None

-- the readings that a still clock tells
abbrev pub fixed_readings : FixedClockValue → Option (List ℕ)
fixed_readings clock = readings_told clock.given (replicate clock.given clock.at)

-- the readings that a clock of moments tells
abbrev pub script_readings : ScriptClockValue → Option (List ℕ)
script_readings clock = readings_told clock.given (first_moments clock.moments clock.given)
