-- The trees of a lake in order are those that its pairs spell, and its files are tied.
use Rattle.std.proofs.Common.{◌≡◌, inl, ℕ, Bool, true, false, List, drop, Some, Result, Ok}
use Rattle.std.proofs.Common.{sym, ap, subst, ◌∙◌, arith}
use Rattle.std.specs.Prelude.{is_some, option_map}
use Rattle.std.specs.List.{Contains}
use Rattle.std.specs.FinMap.{contains_key, get}
use Rattle.lake_base.specs.Maps.{HasAscendingKeys}
use Rattle.lake_base.specs.declared.digest.Digest.{Digest}
use Rattle.lake_values.specs.Ancestry.{commit_of}
use Rattle.lake_values.specs.Commit.{CommitRecordValue}
use Rattle.lake_format.specs.Cutting.{files}
use Rattle.lake_format.specs.Spelling.{file_name}
use Rattle.lake_format.specs.declared.cut.Cut.{Cut}
use Rattle.meta_range.specs.Ranges.{TreeValue, first_file}
use Rattle.meta_range.specs.declared.fault.TreeFault.{TreeFault}
use Rattle.byte_map.proofs.ValuesLemmas.{get_map_values}
use Rattle.lake_model.specs.Naming.{IsInMap, IsNamed}
use Rattle.pair_format.specs.declared.pair.Pair.{Pair}
use Rattle.pair_format.specs.declared.stored.Stored.TheVariants as stored
use Rattle.keeper.specs.Keepers.{entries_of}
use Rattle.pair_trees.specs.PairTrees.{numbers_in, tree_named}
use Rattle.pair_trees.specs.Things.{IsGone, IsThere, Things, kept_of, things_of}
use Rattle.pair_ties.specs.PairTies.{IsTiedMetaRange, IsTiedRange}
use Rattle.core_state.specs.RepositoryStates.{RepositoryStateValue, repository_of}
use Rattle.core_state.specs.LakeStates.{LakeStateValue, state_of}
use Rattle.core_pairs.specs.LakePairs.{StandFor}
use Rattle.core_pairs.proofs.ThingLemmas.{HasCommitOf, opened}
use Rattle.opening_laws.proofs.KeyLemmas.{gone_of_key}
use Rattle.opening_laws.proofs.LayerLemmas.{behind}
use Rattle.opening_laws.proofs.PairLemmas.{some_is, there_stands}
use Rattle.reading_again.specs.ReadableLakes.{CanBeRead, IsInOrder}
use Rattle.reading_again.proofs.KindLemmas.{number_told}
use Rattle.reading_again.proofs.LakeTreeLemmas.{cut_so, files_so, has_some_tree, map_so, tree_read}
use Rattle.reading_again.proofs.TreeAgainLemmas.{number_back}

abbrev done : TreeValue → Result TreeValue TreeFault
done tree = Ok tree

module _ (cut : Cut) (pairs : List Pair) (l : LakeStateValue) (ascend : HasAscendingKeys (entries_of pairs)) (stand : StandFor (kept_of pairs) l)
    (order : IsInOrder l) (can : CanBeRead cut l) where
  abbrev things : Things
  things = things_of pairs

  -- ---- what is read of the pairs

  -- the tree of a commit that is there, and whose tree is read, is that of the lake
  pub record IsTreeOfLake (repo : List ℕ) (id : Digest) (expired : Bool) (commit : CommitRecordValue) (tree : TreeValue) : Type 0 where
    pub r : RepositoryStateValue
    pub in_lake : get l.repositories repo ≡ Some r
    pub commit_is : commit_of r.commits id ≡ Some commit
    pub expired_is : contains_key r.expired id.0 ≡ expired
    pub at : get r.trees id.0 ≡ Some tree

  -- each commit that is there has a tree, which is read
  pub record HasReadTree (repo : List ℕ) (id : Digest) (expired : Bool) (commit : CommitRecordValue) : Type 0 where
    pub tree : TreeValue
    pub of_lake : IsTreeOfLake repo id expired commit tree
    pub read : tree_named cut things commit ≡ Ok tree

  pub has_tree : (repo : List ℕ) (id : Digest) (expired : Bool) (commit : CommitRecordValue) → IsThere things (stored.Commit repo id expired commit)
      → HasReadTree repo id expired commit
  has_tree repo id expired commit there =
      let x = opened (get l.repositories repo) (HasCommitOf id expired commit)
      (there_stands pairs l ascend stand (stored.Commit repo id expired commit) (λ file. file) there) in
      let tree = has_some_tree cut pairs l ascend stand order can.cut_is can.parts.fits repo x.one x.is id (ap is_some x.holds.0) in
      record {
        tree = tree.one;
        of_lake = record { r = x.one; in_lake = x.is; commit_is = x.holds.0; expired_is = x.holds.1; at = tree.is };
        read = tree_read cut pairs l ascend stand order can.cut_is can.parts.fits repo x.one x.is id tree.one tree.is commit x.holds.0;
      }

  of_read : (repo : List ℕ) (id : Digest) (expired : Bool) (commit : CommitRecordValue) (tree : TreeValue)
      → IsThere things (stored.Commit repo id expired commit) → tree_named cut things commit ≡ Ok tree → IsTreeOfLake repo id expired commit tree
  of_read repo id expired commit tree there read =
      let has = has_tree repo id expired commit there in
      subst (IsTreeOfLake repo id expired commit) (one_tree has.tree tree (sym has.read ∙ read)) has.of_lake
    where
      one_tree : (a b : TreeValue) → done a ≡ done b → a ≡ b
      one_tree a b e = cc

  -- a file of a tree of the lake is indexed under its name
  indexed : (repo : List ℕ) (id : Digest) (expired : Bool) (commit : CommitRecordValue) (tree : TreeValue) → IsTreeOfLake repo id expired commit tree
      → (bytes : List ℕ) → Contains tree.files bytes → get l.names.files (file_name bytes).0 ≡ Some bytes
  indexed repo id expired commit tree of bytes among =
      order.index.files repo of.r id bytes of.in_lake (ap is_some of.commit_is)
      (subst (λ fs. Contains fs bytes)
      (order.index.trees repo of.r id tree of.in_lake of.at ∙ ap (files l.cut) (sym (map_so cut pairs l ascend stand order can.cut_is can.parts.fits repo of.r
      of.in_lake id tree of.at))) among)

  pub metarange_tied : (name : Digest) (bytes : List ℕ) → IsTiedMetaRange cut things name bytes
  metarange_tied name bytes = record {
    same = λ expired other meta range.
        let one = of_read meta.repo meta.id meta.expired meta.commit meta.tree meta.there meta.read in
        let two = of_read range.repo range.id expired range.commit range.tree range.there range.read in
        let first = indexed meta.repo meta.id meta.expired meta.commit meta.tree one bytes
        (subst (λ fs. Contains fs bytes) (sym (files_so cut pairs l ascend stand order can.cut_is can.parts.fits meta.repo one.r one.in_lake
        meta.id meta.tree one.at)) (0, omega arith, meta.first)) in
        let second = indexed range.repo range.id expired range.commit range.tree two other
        (subst (λ fs. Contains fs other) (sym (files_so cut pairs l ascend stand order can.cut_is can.parts.fits range.repo two.r two.in_lake
        range.id range.tree two.at))
        (behind (first_file range.tree.files) (drop 1 range.tree.files) other range.among)) in
        let named : file_name bytes ≡ file_name other = meta.named ∙ sym range.named in
        some_is (sym second ∙ ap (λ (d : Digest). get l.names.files d.0) (sym named) ∙ first);
  }

  -- ---- numbers

  pub gone_is : (number : ℕ) → IsGone things number → contains_key l.gone number ≡ true
  gone_is number has =
      there_stands pairs l ascend stand (stored.Gone number) (λ file. file)
      (subst (IsThere things) (gone_of_key has.thing number has.under) has.there)

  in_map : (repo : List ℕ) (id : Digest) (expired : Bool) (commit : CommitRecordValue) (tree : TreeValue) (of : IsTreeOfLake repo id expired commit tree)
      → (bytes : List ℕ) (number : ℕ) → Contains (drop 1 tree.files) bytes → Contains (numbers_in bytes) number → IsInMap tree.map number
  in_map repo id expired commit tree of bytes number among names =
      number_back cut tree.map bytes number (can.parts.fits repo of.r id.0 tree of.in_lake of.at)
      (subst (λ fs. Contains (drop 1 fs) bytes) (cut_so cut pairs l ascend stand order can.cut_is can.parts.fits repo of.r of.in_lake id tree of.at) among)
      names

  -- a number of the map of a live commit is named
  named_live : (repo : List ℕ) (id : Digest) (commit : CommitRecordValue) (tree : TreeValue) (of : IsTreeOfLake repo id false commit tree) (number : ℕ)
      → IsInMap tree.map number → IsNamed (state_of l) number
  named_live repo id commit tree of number inside = inl (record {
    name = repo;
    repository = repository_of of.r;
    stands = get_map_values repository_of l.repositories repo ∙ ap (option_map repository_of) of.in_lake;
    names = inl (record {
      id = id;
      live = (ap is_some of.commit_is, of.expired_is);
      names = subst (λ m. IsInMap m number) (sym (map_so cut pairs l ascend stand order can.cut_is can.parts.fits repo of.r of.in_lake id tree of.at)) inside;
    });
  })

  pub range_tied : (name : Digest) (bytes : List ℕ) → IsTiedRange cut things name bytes
  range_tied name bytes = record {
    given = λ expired number range names.
        let of = of_read range.repo range.id expired range.commit range.tree range.there range.read in
        number_told cut pairs l ascend stand order can number
        ((can.numbers range.repo of.r of.in_lake).maps range.id.0 range.tree of.at number
        (in_map range.repo range.id expired range.commit range.tree of bytes number range.among names));
    apart = λ number range names gone.
        let of = of_read range.repo range.id false range.commit range.tree range.there range.read in
        order.sound.apart number (gone_is number gone)
        (named_live range.repo range.id range.commit range.tree of number
        (in_map range.repo range.id false range.commit range.tree of bytes number range.among names));
  }
