-- What reading a lake from its pairs comes to.
use Rattle.std.specs.Prelude.{ℕ, List}
use Rattle.lake_format.specs.declared.cut.Cut.{Cut}
use Rattle.pair_format.specs.declared.pair.Pair.{Pair}
use Rattle.pair_trees.specs.PairTrees.{AreTreesRead, IsFirstUnread}
use Rattle.pair_trees.specs.Things.{things_of}
use Rattle.pair_ties.specs.BrokenPairs.{IsFirstBroken}
use Rattle.pair_ties.specs.PairTies.{AreTied}
use Rattle.core_state.specs.Index.{HasIndex}
use Rattle.core_state.specs.LakeStates.{lake_value}
use Rattle.core_state.specs.declared.lake.LakeState.{LakeState}
use Rattle.core_pairs.specs.KeptPlaces.{HasPlaces}
use Rattle.core_pairs.specs.LakePairs.{AreTokensApart}
use Rattle.opening_laws.specs.ReadLakes.{IsReadFrom}
use Rattle.core_opening.specs.declared.fault.OpeningFault.{OpeningFault}
use Rattle.core_opening.specs.declared.fault.OpeningFault.TheVariants.{BadPair, NoMemory, Tree}

-- no pair is broken, and each commit's tree is read
pub record AreWhole (cut : Cut) (pairs : List Pair) : Type 0 where
  pub tied : AreTied cut (things_of pairs)
  pub trees : AreTreesRead cut (things_of pairs)

-- A lake was read of pairs, of which none is broken and each commit's tree is read; its index tells of just what is kept, of
-- the kind that a file has there; and its tokens are apart.
pub record IsWholeLake (cut : Cut) (pairs : List Pair) (lake : LakeState) : Type 0 where
  pub whole : AreWhole cut pairs
  pub read : IsReadFrom cut pairs (lake_value lake)
  pub index : HasIndex (lake_value lake)
  pub places : HasPlaces lake.names.files (lake_value lake)
  pub tokens : AreTokensApart (lake_value lake)

-- the cause of a fault: the first broken pair; or none is broken, and this is the first commit whose tree isn't read
abbrev pub HasCause : Cut → List Pair → OpeningFault → Type 0
HasCause cut pairs (BadPair number) = IsFirstBroken cut pairs number
HasCause cut pairs (Tree commit fault) = AreTied cut (things_of pairs) × IsFirstUnread cut (things_of pairs) commit fault
HasCause cut pairs NoMemory = Unit {0}
