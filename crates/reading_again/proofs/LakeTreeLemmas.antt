-- The trees of a lake, whose maps trees can hold, are those that its pairs spell.
use Rattle.std.proofs.Common.{◌≡◌, ℕ, List, ◌∷◌, drop, Some, Ok, IsSome}
use Rattle.std.proofs.Common.{refl, sym, ap, subst, ◌∙◌}
use Rattle.std.specs.Prelude.{option_map}
use Rattle.std.specs.List.{Contains}
use Rattle.std.specs.Option.{unwrap_or}
use Rattle.std.specs.FinMap.{empty, get}
use Rattle.lake_base.specs.Maps.{HasAscendingKeys}
use Rattle.lake_base.specs.declared.digest.Digest.{Digest}
use Rattle.lake_values.specs.Ancestry.{commit_of}
use Rattle.lake_values.specs.Commit.{CommitRecordValue}
use Rattle.lake_format.specs.Cutting.{files, tree_id}
use Rattle.lake_format.specs.Spelling.{file_name}
use Rattle.lake_format.specs.declared.cut.Cut.{Cut}
use Rattle.meta_range.specs.Files.{FitsTree, bytes_named}
use Rattle.meta_range.specs.Ranges.{TreeValue, first_file}
use Rattle.byte_map.proofs.ValuesLemmas.{get_map_values}
use Rattle.lake_model.specs.Soundness.{IsSoundRepository}
use Rattle.lake_model.specs.State.{map_of}
use Rattle.pair_format.specs.declared.pair.Pair.{Pair}
use Rattle.pair_format.specs.declared.stored.Stored.TheVariants as stored
use Rattle.keeper.specs.Keepers.{entries_of}
use Rattle.pair_trees.specs.Found.{IsOnlyMetaRange, IsOnlyRange}
use Rattle.pair_trees.specs.PairTrees.{metaranges_in, ranges_in, tree_named}
use Rattle.pair_trees.specs.Things.{Things, kept_of, things_of}
use Rattle.pair_trees.proofs.TreesLemmas.{metarange_named, range_named}
use Rattle.core_state.specs.RepositoryStates.{RepositoryStateValue, repository_of}
use Rattle.core_state.specs.LakeStates.{LakeStateValue}
use Rattle.core_pairs.specs.LakePairs.{IsTreeIn, StandFor}
use Rattle.core_pairs.proofs.ThingLemmas.{closed}
use Rattle.opening_laws.proofs.PairLemmas.{stands_there}
use Rattle.opening_laws.proofs.SoundRepositoryLemmas.{IsThereSome, mapped_some, some_there}
use Rattle.reading_again.specs.ReadableLakes.{IsInOrder}
use Rattle.reading_again.proofs.PlaceLemmas.{one_thing}
use Rattle.reading_again.proofs.TreeAgainLemmas.{among_again}

-- the first file of a tree stands before its ranges
files_are : (cut : Cut) (tree : TreeValue) → tree.files ≡ files cut tree.map → tree.files ≡ first_file tree.files ∷ drop 1 tree.files
unfolding files
files_are cut tree is = is ∙ ap (λ fs. first_file fs ∷ drop 1 fs) (sym is)

module _ (cut : Cut) (pairs : List Pair) (l : LakeStateValue) (ascend : HasAscendingKeys (entries_of pairs)) (stand : StandFor (kept_of pairs) l)
    (order : IsInOrder l) (cut_is : l.cut ≡ cut)
    (fits : (repo : List ℕ) (r : RepositoryStateValue) (id : List ℕ) (tree : TreeValue) → get l.repositories repo ≡ Some r → get r.trees id ≡ Some tree
    → FitsTree tree.map) where
  abbrev things : Things
  things = things_of pairs

  -- a repository of the lake is sound
  pub sound_here : (repo : List ℕ) (r : RepositoryStateValue) → get l.repositories repo ≡ Some r → IsSoundRepository l.cut (repository_of r)
  sound_here repo r in_lake =
      order.sound.repositories repo (repository_of r)
      (get_map_values repository_of l.repositories repo ∙ ap (option_map repository_of) in_lake)

  -- a commit of it has a tree
  pub has_some_tree : (repo : List ℕ) (r : RepositoryStateValue) (in_lake : get l.repositories repo ≡ Some r) (id : Digest)
      → IsSome (commit_of r.commits id) → IsThereSome (get r.trees id.0)
  has_some_tree repo r in_lake id there =
      some_there (get r.trees id.0)
      (mapped_some (λ (t : TreeValue). t.map) (get r.trees id.0)
      (subst IsSome (get_map_values (λ (t : TreeValue). t.map) r.trees id.0) ((sound_here repo r in_lake).mapped id there)))

  -- a tree of the lake
  module _ (repo : List ℕ) (r : RepositoryStateValue) (in_lake : get l.repositories repo ≡ Some r) (id : Digest) (tree : TreeValue)
      (at : get r.trees id.0 ≡ Some tree) where
    tree_in : IsTreeIn l tree
    tree_in = (repo, (id.0, closed (get l.repositories repo) (λ r. get r.trees id.0 ≡ Some tree) r in_lake at))

    pub cut_so : tree.files ≡ files cut tree.map
    cut_so = order.index.trees repo r id tree in_lake at ∙ ap (λ c. files c tree.map) cut_is

    pub files_so : tree.files ≡ first_file tree.files ∷ drop 1 tree.files
    files_so = files_are cut tree cut_so

    metarange_only : IsOnlyMetaRange things (file_name (first_file tree.files)) (first_file tree.files)
    metarange_only =
        let there = stands_there pairs l ascend stand (stored.MetaRange (file_name (first_file tree.files)) (first_file tree.files))
        (refl, (tree, (tree_in, (drop 1 tree.files, files_so)))) in
        record {
          there = there;
          only = λ other also.
              same_metarange (one_thing pairs l ascend stand (stored.MetaRange (file_name (first_file tree.files)) other)
              (stored.MetaRange (file_name (first_file tree.files)) (first_file tree.files)) also there refl);
        }
      where
        same_metarange : {name : Digest} {a b : List ℕ} → stored.MetaRange name a ≡ stored.MetaRange name b → a ≡ b
        same_metarange e = cc

    range_only : (bytes : List ℕ) → Contains (drop 1 tree.files) bytes → IsOnlyRange things (file_name bytes) bytes
    range_only bytes among =
        let there = stands_there pairs l ascend stand (stored.Range (file_name bytes) bytes)
        (refl, (tree, (tree_in, (first_file tree.files, (drop 1 tree.files, (files_so, among)))))) in
        record {
          there = there;
          only = λ other also.
              same_range (one_thing pairs l ascend stand (stored.Range (file_name bytes) other) (stored.Range (file_name bytes) bytes) also there refl);
        }
      where
        same_range : {name : Digest} {a b : List ℕ} → stored.Range name a ≡ stored.Range name b → a ≡ b
        same_range e = cc

    pub map_so : map_of (repository_of r) id ≡ tree.map
    map_so = ap (λ o. unwrap_or o empty) (get_map_values (λ (t : TreeValue). t.map) r.trees id.0 ∙ ap (option_map (λ (t : TreeValue). t.map)) at)

    -- it is read again
    pub tree_read : (commit : CommitRecordValue) → commit_of r.commits id ≡ Some commit → tree_named cut things commit ≡ Ok tree
    unfolding tree_named
    tree_read commit is =
        let named : commit.meta_range ≡ tree_id cut tree.map =
        (sound_here repo r in_lake).trees id commit is
        ∙ ap (λ c. tree_id c (map_of (repository_of r) id)) cut_is ∙ ap (tree_id cut) map_so in
        among_again commit.meta_range (metaranges_in things) (ranges_in things) cut tree.map (fits repo r id.0 tree in_lake at) named
        (subst (λ fs. bytes_named (file_name (first_file fs)) (metaranges_in things) ≡ Some (first_file fs)) cut_so
        (metarange_named things (file_name (first_file tree.files)) (first_file tree.files) metarange_only))
        (λ bytes among.
        let here : Contains (drop 1 tree.files) bytes = subst (λ fs. Contains (drop 1 fs) bytes) (sym cut_so) among in
        range_named things (file_name bytes) bytes (range_only bytes here))
        ∙ ap (λ fs. Ok (record { map = tree.map; files = fs })) (sym cut_so)
