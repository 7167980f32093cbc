-- The trees of a repository in a sound lake with its index, and those of a merge or a pick, agree.
use Rattle.std.proofs.Common.{◌≡◌, ◌++◌, inl, inr, ℕ, suc, List, [], ◌∷◌, length, map, drop, Some, refl, sym, ap, subst, ◌∙◌, arith}
use Rattle.std.specs.Prelude.{is_some, option_map}
use Rattle.std.specs.FinMap.{empty, entries, get, len, len-empty, len-entries}
use Rattle.std.specs.List.{Contains}
use Rattle.std.proofs.lemmas.List.Elements.{Contains-append_cases}
use Rattle.lake_base.specs.declared.digest.Digest.{Digest}
use Rattle.lake_base.specs.Maps.{byte_order}
use Rattle.lake_values.specs.Entry.{EntryValue}
use Rattle.lake_values.specs.KeyMap.{KeyMapValue}
use Rattle.lake_format.specs.Cutting.{files, ranges}
use Rattle.lake_format.specs.Spelling.{file_name, line_of, metarange_spelling, range_spelling}
use Rattle.lake_format.specs.declared.cut.Cut.{Cut}
use Rattle.lake_format.proofs.CutLemmas.{ranges_none}
use Rattle.byte_map.proofs.ValuesLemmas.{contains_map_values, get_map_values}
use Rattle.meta_range.specs.Ranges.{TreeValue}
use Rattle.meta_range.specs.Trio.{Agree}
use Rattle.lake_model.specs.Soundness.{IsSound, IsSoundRepository}
use Rattle.lake_model.specs.State.{map_of}
use Rattle.core_state.specs.Index.{HasIndex}
use Rattle.core_state.specs.LakeStates.{LakeStateValue, state_of}
use Rattle.core_state.specs.RepositoryStates.{RepositoryStateValue, repository_of}
use Rattle.core_readings.proofs.EntryLemmas.{map_there}
use Rattle.core_readings.specs.Trees.{HasRanges, HasTrees, IsCutBy, IsTreeFile, IsTreeOf}

-- ---- in a sound lake with its index
module _ (l : LakeStateValue) (sound : IsSound (state_of l)) (index : HasIndex l) (repo : List ℕ) (r : RepositoryStateValue)
    (is : get l.repositories repo ≡ Some r) where
  sound_there : IsSoundRepository l.cut (repository_of r)
  sound_there =
      sound.repositories repo (repository_of r) (get_map_values repository_of l.repositories repo ∙ ap (option_map repository_of) is)

  -- a file of a tree is found by its name
  found : (file : List ℕ) → IsTreeFile r file → get l.names.files (file_name file).0 ≡ Some file
  found file of =
      let mapped = contains_map_values (λ (tree : TreeValue). tree.map) r.trees of.id.0 ∙ ap is_some of.there in
      let cut = index.trees repo r of.id of.tree is of.there ∙ ap (files l.cut) (map_there r of.id of.tree (sym of.there)) in
      index.files repo r of.id file is (sound_there.maps of.id mapped) (subst (λ all. Contains all file) cut of.within)

  named : (file other : List ℕ) → IsTreeFile r file → IsTreeFile r other → file_name file ≡ file_name other → file ≡ other
  named file other one two same =
      let both : Some file ≡ Some other = sym (found file one) ∙ ap (λ (name : Digest). get l.names.files name.0) same ∙ found other two in
      cc

  pub has_trees : HasTrees r
  has_trees = record {
    there = λ id there. sym (contains_map_values (λ (tree : TreeValue). tree.map) r.trees id.0) ∙ sound_there.mapped id there;
    named = named;
  }

  pub is_cut : IsCutBy l.cut r
  is_cut id tree there = index.trees repo r id tree is there

-- ---- the tree of the empty map

no_rows : {X : Type 0} (rows : List X) → length rows ≡ 0 → rows ≡ []
no_rows [] none = refl
no_rows (row ∷ rows) none = absurd (omega arith)

-- it has no ranges
pub no_ranges : (cut : Cut) (objects : KeyMapValue) → objects ≡ empty → drop 1 (files cut objects) ≡ []
unfolding files
no_ranges cut objects none =
    let rows = no_rows (entries objects) (sym (len-entries objects) ∙ ap len none ∙ len-empty byte_order EntryValue) in
    ap (λ these. map range_spelling (ranges cut these)) rows ∙ ap (map range_spelling) (ranges_none cut)

-- every cut gives it the same files
pub same_files : (cut other : Cut) (objects : KeyMapValue) → objects ≡ empty → files cut objects ≡ files other objects
unfolding files
same_files cut other objects none =
    let rows = no_rows (entries objects) (sym (len-entries objects) ∙ ap len none ∙ len-empty byte_order EntryValue) in
    let same : ranges cut (entries objects) ≡ ranges other (entries objects) =
    ap (ranges cut) rows ∙ ranges_none cut ∙ sym (ap (ranges other) rows ∙ ranges_none other) in
    ap (λ these. metarange_spelling (map line_of these) ∷ map range_spelling these) same

-- ---- the trees of a merge or a pick

behind : (files : List (List ℕ)) (file : List ℕ) → Contains (drop 1 files) file → Contains files file
behind [] file has = has
behind (first ∷ files) file has = (suc has.0, omega (arith, has.1), has.2)

module _ (r : RepositoryStateValue) where
  -- a commit's tree is one of its map
  pub tree_of_map : (id : Digest) (tree : TreeValue) → get r.trees id.0 ≡ Some tree → IsTreeOf r (map_of (repository_of r) id) tree
  tree_of_map id tree there = record {
    map = map_there r id tree (sym there);
    ranges = λ file has. record { id = id; tree = tree; there = there; within = behind tree.files file has };
  }

  -- three trees with such range files agree
  pub agree : HasTrees r → (base source dest : TreeValue) → HasRanges r base → HasRanges r source → HasRanges r dest
      → Agree (record { base = base; source = source; dest = dest })
  agree trees base source dest in_base in_source in_dest file other has others same = trees.named file other (one file has) (one other others) same
    where
      one : (file : List ℕ) → Contains (drop 1 base.files ++ (drop 1 source.files ++ drop 1 dest.files)) file → IsTreeFile r file
      one file has =
          elim (Contains-append_cases (drop 1 base.files) (drop 1 source.files ++ drop 1 dest.files) file has) [
            | inl here ↦ in_base file here
            | inr later ↦ elim (Contains-append_cases (drop 1 source.files) (drop 1 dest.files) file later) [
              | inl here ↦ in_source file here
              | inr last ↦ in_dest file last
            ]
          ]
