-- A lake whose pairs are tied, and whose parts can be read, can be read.
use Rattle.std.proofs.Common.{◌≡◌, ℕ, List, true, Some, refl, sym, ap, subst, ◌∙◌}
use Rattle.std.specs.Prelude.{IsSome, is_some}
use Rattle.std.specs.FinMap.{contains_key, get}
use Rattle.byte_map.proofs.ValuesLemmas.{get_map_values}
use Rattle.lake_base.specs.Maps.{HasAscendingKeys}
use Rattle.lake_format.specs.declared.cut.Cut.{Cut}
use Rattle.meta_range.specs.Ranges.{TreeValue}
use Rattle.pair_format.specs.declared.pair.Pair.{Pair}
use Rattle.keeper.specs.Keepers.{entries_of}
use Rattle.pair_trees.specs.Things.{kept_of, things_of}
use Rattle.pair_ties.specs.PairTies.{AreTied as AreTiedPairs}
use Rattle.branch_record.specs.Record.{is_among}
use Rattle.core_state.specs.BranchStates.{BranchStateValue, tokens_of}
use Rattle.core_state.specs.RepositoryStates.{RepositoryStateValue}
use Rattle.core_state.specs.LakeStates.{LakeStateValue}
use Rattle.core_pairs.specs.LakePairs.{StandFor, at_rest}
use Rattle.core_pairs.proofs.ChangeLemmas.{follow_none}
use Rattle.core_pairs.proofs.ThingLemmas.{branch_closed, branch_opened}
use Rattle.core_standing.specs.Ties.{AreTied}
use Rattle.opening_laws.specs.ReadLakes.{IsReadFrom}
use Rattle.opening_laws.proofs.PairLemmas.{some_is}
use Rattle.opening_laws.proofs.SoundRepositoryLemmas.{some_mapped}
use Rattle.reading_again.specs.ReadableLakes.{CanBeRead, HasReadableParts, IsInOrder}
use Rattle.reading_again.proofs.LakeTreeLemmas.{has_some_tree, sound_here, tree_read}
use Rattle.reading_again.proofs.ReadNumberLemmas.{read_given}

module _ (cut : Cut) (pairs : List Pair) (l : LakeStateValue) (ascend : HasAscendingKeys (entries_of pairs)) (stand : StandFor (kept_of pairs) l)
    (order : IsInOrder l) (cut_is : l.cut ≡ cut) (parts : HasReadableParts l) where
  named_token : (repo : List ℕ) (r : RepositoryStateValue) (branch : List ℕ) (b : BranchStateValue) (token : ℕ) → get l.repositories repo ≡ Some r
      → get r.branches branch ≡ Some b → contains_key b.tokens token ≡ true → is_among (tokens_of b) token ≡ true
  named_token repo r branch b token in_lake on used =
      let other = branch_opened l repo branch (λ b. is_among (tokens_of b) token ≡ true)
      (order.apart.named token repo branch (branch_closed l repo branch (λ b. contains_key b.tokens token ≡ true) r b in_lake on used)) in
      let home : other.r ≡ r = some_is (sym other.in_lake ∙ in_lake) in
      let one : other.b ≡ b = some_is (sym other.in_it ∙ ap (λ (r : RepositoryStateValue). get r.branches branch) home ∙ on) in
      subst (λ (b : BranchStateValue). is_among (tokens_of b) token ≡ true) one other.holds

  -- put to rest, it is as one that was read of its pairs
  pub rest_is_read : IsReadFrom cut pairs (at_rest l)
  rest_is_read = record {
    stand =
        follow_none (kept_of pairs) l (at_rest l) (record { repositories = refl; gone = refl; numbers = refl; versions = refl; tokens = refl }) stand;
    rest = refl;
    cut_is = cut_is;
    trees = λ repo r id commit in_lake is.
        let tree = has_some_tree cut pairs l ascend stand order cut_is parts.fits repo r in_lake id (ap is_some is) in
        (tree.one, (tree.is, tree_read cut pairs l ascend stand order cut_is parts.fits repo r in_lake id tree.one tree.is commit is));
    only_trees = λ repo r id in_lake there.
        (sound_here cut pairs l ascend stand order cut_is parts.fits repo r in_lake).maps id
        (subst IsSome (sym (get_map_values (λ (t : TreeValue). t.map) r.trees id.0)) (some_mapped (λ (t : TreeValue). t.map) (get r.trees id.0) there));
    only_expired = λ repo r id in_lake expired. (sound_here cut pairs l ascend stand order cut_is parts.fits repo r in_lake).expired id expired;
    named = named_token;
  }

  pub can_again : AreTiedPairs cut (things_of pairs) → AreTied (at_rest l) → CanBeRead cut l
  can_again tied ties = record {
    cut_is = cut_is;
    small_number = ties.numbers;
    small_version = ties.versions;
    small_token = ties.tokens;
    numbers = read_given cut pairs (at_rest l) ascend tied rest_is_read;
    parts = parts;
  }
