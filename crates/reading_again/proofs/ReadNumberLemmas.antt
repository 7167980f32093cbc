-- The own numbers of a lake that was read from tied pairs were given out.
use Rattle.std.proofs.Common.{◌≡◌, ℕ, List, Some, Ok, IfSome, refl, sym, ap, subst, ◌∙◌}
use Rattle.std.specs.Prelude.{is_some}
use Rattle.std.specs.FinMap.{contains_key, get}
use Rattle.lake_base.specs.Maps.{HasAscendingKeys}
use Rattle.lake_base.specs.declared.digest.Digest.{Digest}
use Rattle.lake_values.specs.Ancestry.{commit_of, id_of}
use Rattle.lake_values.specs.Commit.{CommitRecordValue}
use Rattle.lake_format.specs.Spelling.{file_name}
use Rattle.lake_format.specs.declared.cut.Cut.{Cut}
use Rattle.meta_range.specs.Ranges.{TreeValue}
use Rattle.pair_format.specs.declared.pair.Pair.{Pair}
use Rattle.pair_format.specs.declared.stored.Stored.TheVariants as stored
use Rattle.keeper.specs.Keepers.{entries_of}
use Rattle.pair_trees.specs.PairTrees.{IsReadRange}
use Rattle.pair_trees.specs.Things.{IsGivenNumber, Things, things_of}
use Rattle.pair_trees.proofs.ProvenanceLemmas.{range_there, row_there}
use Rattle.pair_ties.specs.PairTies.{AreTied, IsTiedRange, IsTiedStaged}
use Rattle.core_state.specs.BranchStates.{BranchStateValue}
use Rattle.core_state.specs.RepositoryStates.{RepositoryStateValue}
use Rattle.core_state.specs.LakeStates.{LakeStateValue}
use Rattle.opening_laws.specs.ReadLakes.{IsReadFrom}
use Rattle.opening_laws.proofs.GraphLemmas.{commit_stands}
use Rattle.opening_laws.proofs.NumberLemmas.{number_in}
use Rattle.opening_laws.proofs.PairLemmas.{limits, some_is, stands_there, tied_there}
use Rattle.opening_laws.proofs.SoundRepositoryLemmas.{some_there}
use Rattle.opening_laws.proofs.TieLemmas.{change_stands, number_given, tie_of}
use Rattle.reading_again.specs.GivenNumbers.{AreChangesBelow, AreNumbersGiven, IsMapBelow}

module _ (cut : Cut) (pairs : List Pair) (l : LakeStateValue) (ascend : HasAscendingKeys (entries_of pairs)) (tied : AreTied cut (things_of pairs))
    (read : IsReadFrom cut pairs l) (repo : List ℕ) (r : RepositoryStateValue) (in_lake : get l.repositories repo ≡ Some r) where
  abbrev things : Things
  things = things_of pairs

  changes_given : (name : List ℕ) (b : BranchStateValue) → get r.branches name ≡ Some b → AreChangesBelow l.next_number b
  changes_given name b in_it token path change number at names =
      let tie : IsTiedStaged things token path change =
      (tie_of cut pairs l ascend tied read (stored.Staged token path change)
      (change_stands cut pairs l ascend tied read repo r in_lake name b in_it token path change at)).tie in
      number_given cut pairs l ascend tied read number (subst (λ o. IfSome o (λ n. IsGivenNumber things n)) names tie.given)

  -- the map of a commit
  map_given : (id : Digest) (commit : CommitRecordValue) → commit_of r.commits id ≡ Some commit → (tree : TreeValue) → get r.trees id.0 ≡ Some tree
      → IsMapBelow l.next_number tree.map
  map_given id commit is tree at number inside =
      let known = limits pairs l ascend read.stand in
      let own = read.trees repo r id commit in_lake is in
      let reads = own.1.1 ∙ ap (λ t. Ok t) (some_is (sym own.1.0 ∙ at)) in
      let row = row_there cut things known commit tree reads inside.path inside.entry inside.stands in
      let range : IsReadRange cut things (contains_key r.expired id.0) (file_name row.0) row.0 = record {
        repo = repo;
        id = id;
        commit = commit;
        there =
            stands_there pairs l ascend read.stand (stored.Commit repo id (contains_key r.expired id.0) commit)
            (commit_stands pairs l ascend read.stand repo r in_lake id commit is);
        tree = tree;
        read = reads;
        among = row.2;
        named = refl;
      } in
      let tie : IsTiedRange cut things (file_name row.0) row.0 =
      (tied_there cut things tied (stored.Range (file_name row.0) row.0) (range_there cut things known commit tree reads row.0 row.2)).tie in
      number_given cut pairs l ascend tied read number
      (tie.given (contains_key r.expired id.0) number range (number_in row.0 row.1 inside.path inside.entry number row.3 row.4 inside.names))

  maps_given : (id : List ℕ) (tree : TreeValue) → get r.trees id ≡ Some tree → IsMapBelow l.next_number tree.map
  maps_given id tree at =
      let commit = some_there (commit_of r.commits (id_of id)) (read.only_trees repo r (id_of id) in_lake (ap is_some at)) in
      map_given (id_of id) commit.one commit.is tree at

pub read_given : (cut : Cut) (pairs : List Pair) (l : LakeStateValue) → HasAscendingKeys (entries_of pairs) → AreTied cut (things_of pairs)
    → IsReadFrom cut pairs l → AreNumbersGiven l
read_given cut pairs l ascend tied read repo r in_lake = record {
  changes = changes_given cut pairs l ascend tied read repo r in_lake;
  maps = maps_given cut pairs l ascend tied read repo r in_lake;
}
