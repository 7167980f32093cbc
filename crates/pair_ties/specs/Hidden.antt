-- Changes that a newer sealed token of one list hides.
use Rattle.std.specs.Prelude.{◌≡◌, ◌∷◌, ◌++◌, [], false, ℕ, List, Option, Some}
use Rattle.std.specs.List.{Contains}
use Rattle.branch_record.specs.Record.{is_among}
use Rattle.pair_format.specs.declared.key.OwnedKey.TheVariants as key
use Rattle.pair_format.specs.declared.pair.Pair.{Pair}
use Rattle.pair_format.specs.declared.stored.Stored.{Stored}
use Rattle.pair_format.specs.declared.stored.Stored.TheVariants as stored
use Rattle.pair_ties.specs.BrokenPairs.{HasPair}

-- the sealed tokens of a branch
abbrev pub sealed_in : Option Stored → List ℕ
sealed_in (Some (stored.Branch repo branch version head staging sealed)) = sealed
sealed_in _ = []

-- a pair has the key of a change of the path under one of these tokens that is before the first that is this token
pub record IsHiddenIn (pairs : List Pair) (sealed : List ℕ) (token : ℕ) (path : List ℕ) : Type 0 where
  pub newer : List ℕ
  pub older : List ℕ
  pub is : sealed ≡ newer ++ token ∷ older
  pub fresh : is_among newer token ≡ false
  pub over : ℕ
  pub among : Contains newer over
  pub changed : HasPair pairs (key.Staged over path)
