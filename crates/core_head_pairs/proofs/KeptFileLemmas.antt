-- Files of trees of a lake, and those of a new commit.
use Rattle.std.proofs.Common.{◌≡◌, inr, not, ℕ, Bool, true, false, List, Option, Some, None, IsSome, refl, sym, ap, subst, ◌∙◌}
use Rattle.std.specs.Prelude.{is_some, option_and_then, option_map}
use Rattle.std.specs.Option.{option_map_or, unwrap_or}
use Rattle.std.specs.FinMap.{empty, get}
use Rattle.std.specs.List.{Contains}
use Rattle.lake_base.specs.Maps.{ByteMap}
use Rattle.lake_values.specs.Ancestry.{commit_of, id_of}
use Rattle.lake_values.specs.Commit.{CommitRecordValue}
use Rattle.lake_values.specs.KeyMap.{KeyMapValue}
use Rattle.lake_values.proofs.OrderLemmas.{Contains-first, Contains-later}
use Rattle.lake_format.specs.Cutting.{files}
use Rattle.lake_format.specs.Spelling.{file_name}
use Rattle.meta_range.specs.Ranges.{TreeValue}
use Rattle.byte_map.specs.Values.{map_values}
use Rattle.byte_map.proofs.ValuesLemmas.{get_map_values}
use Rattle.lake_model.specs.Commits.{AreKept}
use Rattle.lake_model.specs.Soundness.{IsSound}
use Rattle.lake_model.specs.State.{map_of}
use Rattle.pair_format.specs.declared.key.OwnedKey.TheVariants as key
use Rattle.pair_format.specs.declared.stored.Stored.{Stored}
use Rattle.pair_format.specs.declared.stored.Stored.TheVariants as stored
use Rattle.pair_format.specs.PairSpelling.{key_of}
use Rattle.core_state.specs.Index.{HasIndex}
use Rattle.core_state.specs.RepositoryStates.{RepositoryStateValue, repository_of}
use Rattle.core_state.specs.declared.file_place.FilePlace.{FilePlace}
use Rattle.core_state.specs.LakeStates.{LakeStateValue, state_of}
use Rattle.core_changes.proofs.IndexLemmas.{in_state}
use Rattle.core_pairs.specs.PutWords.{is_kept_metarange, is_kept_range}
use Rattle.core_pairs.specs.KeptPlaces.{HasPlaces, IsFileAs}
use Rattle.core_pairs.specs.LakePairs.{IsTreeIn, StandsIn}
use Rattle.core_pairs.proofs.ThingLemmas.{opened}
use Rattle.core_head_pairs.proofs.FilePutLemmas.{file_thing}

module _ (l : LakeStateValue) (index : HasIndex l) (sound : IsSound (state_of l)) where
  module _ (repo : List ℕ) (r : RepositoryStateValue) (in_lake : get l.repositories repo ≡ Some r) (id : List ℕ) (tree : TreeValue)
      (at : get r.trees id ≡ Some tree) where
    map_at : get (map_values (λ tree. tree.map) r.trees) id ≡ Some tree.map
    map_at = get_map_values (λ tree. tree.map) r.trees id ∙ ap (option_map (λ tree. tree.map)) at

    -- a tree is that of a commit
    pub its_commit : IsSome (commit_of r.commits (id_of id))
    its_commit =
        (sound.repositories repo (repository_of r) (get_map_values repository_of l.repositories repo ∙ ap (option_map repository_of) in_lake)).maps
        (id_of id) (ap is_some map_at)

    -- whose map it has
    pub its_map : map_of (repository_of r) (id_of id) ≡ tree.map
    its_map = ap (λ (o : Option KeyMapValue). unwrap_or o empty) map_at

    -- a file of it is kept
    pub kept_file : (bytes : List ℕ) → Contains tree.files bytes → AreKept (state_of l) bytes
    kept_file bytes among = by (commit_of r.commits (id_of id)) refl its_commit
      where
        by : (o : Option CommitRecordValue) → commit_of r.commits (id_of id) ≡ o → IsSome o → AreKept (state_of l) bytes
        by None is h = absurd cc
        by (Some commit) is h =
            in_state l bytes (record {
              repo = repo;
              r = r;
              in_lake = in_lake;
              id = id_of id;
              commit = commit;
              in_graph = is;
              are = inr (subst (λ fs. Contains fs bytes) (index.trees repo r (id_of id) tree in_lake at ∙ ap (files l.cut) (sym its_map)) among);
            })

  in_tree : (tree : TreeValue) → IsTreeIn l tree → (bytes : List ℕ) → Contains tree.files bytes → AreKept (state_of l) bytes
  in_tree tree (repo, (id, h)) bytes among =
      let there = opened (get l.repositories repo) (λ r. get r.trees id ≡ Some tree) h in
      kept_file repo there.one there.is id tree there.holds bytes among

  module _ (fresh : List (List ℕ))
      (apart : (file kept : List ℕ) → Contains fresh file → AreKept (state_of l) kept → file_name file ≡ file_name kept → file ≡ kept) where
    -- what stands under the name of a new file, of its kind, is that file
    pub file_same : (kind : Bool) (file : List ℕ) → Contains fresh file → (s : Stored) → StandsIn l s → key_of s ≡ key_of (file_thing kind file)
        → s ≡ file_thing kind file
    file_same true file among (stored.MetaRange name bytes) (named, (tree, (there, (ranges, is)))) e =
        let names : name ≡ file_name file = cc in
        let kept = in_tree tree there bytes (subst (λ fs. Contains fs bytes) (sym is) (Contains-first bytes ranges)) in
        let same : file ≡ bytes = apart file bytes among kept (sym (named ∙ names)) in
        cc
    file_same false file among (stored.Range name bytes) (named, (tree, (there, (metarange, (ranges, (is, within)))))) e =
        let names : name ≡ file_name file = cc in
        let kept = in_tree tree there bytes (subst (λ fs. Contains fs bytes) (sym is) (Contains-later metarange bytes ranges within)) in
        let same : file ≡ bytes = apart file bytes among kept (sym (named ∙ names)) in
        cc
    file_same true file among s h e = absurd cc
    file_same false file among s h e = absurd cc

    module _ (kept : ByteMap (Option FilePlace)) (places : HasPlaces kept l) where
      -- a new file that is kept as of its kind stands
      module _ (file : List ℕ) (among : Contains fresh file) where
        told : (place : FilePlace) → get kept (file_name file).0 ≡ Some (Some place) → (kind : Bool) → place.is_metarange ≡ kind
            → StandsIn l (file_thing kind file)
        told place is kind of =
            let where_it_is = places.told (file_name file).0 place is in
            let names : file_name place.bytes ≡ file_name file = ap id_of (places.named (file_name file).0 place is) in
            let file_is : IsFileAs where_it_is.0 kind place.bytes = subst (λ k. IsFileAs where_it_is.0 k place.bytes) of where_it_is.1.1 in
            by kind names where_it_is.0 where_it_is.1.0 file_is
          where
            by : (kind : Bool) → file_name place.bytes ≡ file_name file → (tree : TreeValue) → IsTreeIn l tree → IsFileAs tree kind place.bytes
                → StandsIn l (file_thing kind file)
            by true names tree there is =
                subst (StandsIn l) (file_same true file among (stored.MetaRange (file_name place.bytes) place.bytes) (refl, (tree, (there, is)))
                (ap key.MetaRange names)) (refl, (tree, (there, is)))
            by false names tree there is =
                subst (StandsIn l) (file_same false file among (stored.Range (file_name place.bytes) place.bytes) (refl, (tree, (there, is)))
                (ap key.Range names)) (refl, (tree, (there, is)))

        pub kept_metarange : is_kept_metarange kept file ≡ true → StandsIn l (file_thing true file)
        kept_metarange h = by (get kept (file_name file).0) refl h
          where
            by : (o : Option (Option FilePlace)) → get kept (file_name file).0 ≡ o
                → option_map_or (λ (place : FilePlace). place.is_metarange) (option_and_then (λ place. place) o) false ≡ true
                → StandsIn l (file_thing true file)
            by None is h = absurd cc
            by (Some None) is h = absurd cc
            by (Some (Some place)) is h = told place is true h

        pub kept_range : is_kept_range kept file ≡ true → StandsIn l (file_thing false file)
        kept_range h = by (get kept (file_name file).0) refl h
          where
            turned : (kind : Bool) → not kind ≡ true → kind ≡ false
            turned true h = absurd cc
            turned false h = refl

            by : (o : Option (Option FilePlace)) → get kept (file_name file).0 ≡ o
                → option_map_or (λ (place : FilePlace). not place.is_metarange) (option_and_then (λ place. place) o) false ≡ true
                → StandsIn l (file_thing false file)
            by None is h = absurd cc
            by (Some None) is h = absurd cc
            by (Some (Some place)) is h = told place is false (turned place.is_metarange h)
