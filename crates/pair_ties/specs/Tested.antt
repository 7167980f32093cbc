-- What is tested of a number and of a token.
use Rattle.std.specs.Prelude.{◌≡◌, true, ℕ, Bool, Some, IfSome}
use Rattle.std.specs.Ordering.{nat_cmp}
use Rattle.std.specs.BTreeMap.{get}
use Rattle.lake_values.specs.declared.entry.Place.{Place}
use Rattle.lake_model.specs.Uncommitted.{own_number}
use Rattle.pair_trees.specs.Things.{IsGivenNumber, IsGivenToken, IsGone, Things}
use Rattle.pair_trees.specs.declared.tables.Tables.{Tables}

-- ---- numbers

-- a number was given out, and where a live commit has it, it isn't gone
pub record IsSoundNumber (things : Things) (live : Bool) (number : ℕ) : Type 0 where
  pub given : IsGivenNumber things number
  pub apart : live ≡ true → IsGone things number → ⊥

-- so it is with the number of a place, where that is the lake's own
abbrev pub IsSound : Things → Bool → Place → Type 0
IsSound things live place = IfSome (own_number place) (IsSoundNumber things live)

-- ---- tokens

-- a token of the branch at a place was given out, and that branch is the first that names it
pub record IsFreshToken (things : Things) (tables : Tables) (at token : ℕ) : Type 0 where
  pub given : IsGivenToken things token
  pub first : get nat_cmp tables.tokens token ≡ Some at
