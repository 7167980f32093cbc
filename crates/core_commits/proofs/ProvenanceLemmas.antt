-- What the map of a new head is made from.
use Rattle.std.proofs.Common.{◌≡◌, ◌∙◌, List, ℕ, ap, inl, inr, subst, sym}
use Rattle.std.specs.Prelude.{is_some, option_map, Some}
use Rattle.std.specs.FinMap.{get}
use Rattle.std.specs.List.{Contains}
use Rattle.byte_map.proofs.ValuesLemmas.{contains_map_values, get_map_values}
use Rattle.lake_base.specs.declared.digest.Digest.{Digest}
use Rattle.lake_values.specs.KeyMap.{ChangesValue, apply}
use Rattle.lake_values.specs.Merging.{merged_map}
use Rattle.lake_values.specs.declared.commit.Strategy.{Strategy}
use Rattle.lake_format.specs.Cutting.{files}
use Rattle.lake_format.specs.Spelling.{file_name}
use Rattle.meta_range.specs.Ranges.{TreeValue}
use Rattle.lake_model.specs.Soundness.{IsSound, IsSoundRepository}
use Rattle.lake_model.specs.State.{HasCommit, map_of}
use Rattle.core_state.specs.BranchStates.{BranchStateValue, branch_of}
use Rattle.core_state.specs.Index.{HasIndex}
use Rattle.core_state.specs.LakeStates.{LakeStateValue, state_of}
use Rattle.core_state.specs.RepositoryStates.{RepositoryStateValue, repository_of}
use Rattle.core_readings.proofs.EntryLemmas.{map_there}
use Rattle.meta_range.specs.Provenance.{IsMerged, IsTrioFile}
use Rattle.meta_range.specs.declared.provenance.Provenance.{Provenance}
use Rattle.core_causes.specs.Clashing.{AreFound}
use Rattle.core_readings.specs.Trees.{IsTreeFile}
use Rattle.core_commits.specs.HeadProvenance.{HasTreesOf}
use Rattle.core_commits.proofs.PlaceLemmas.{on_state}

module _ (r : RepositoryStateValue) where
  -- a file of a commit's tree
  pub tree_file : (id : Digest) (tree : TreeValue) → get r.trees id.0 ≡ Some tree → (file : List ℕ) → Contains tree.files file → IsTreeFile r file
  tree_file id tree there file within = record { id = id; tree = tree; there = there; within = within }

  -- changes over the map of a commit
  pub changes_over : (id : Digest) (old : TreeValue) (changes : ChangesValue) → get r.trees id.0 ≡ Some old
      → apply changes (map_of (repository_of r) id) ≡ apply changes old.map
  changes_over id old changes there = ap (apply changes) (sym (map_there r id old (sym there)))

  -- a merge of three
  module _ (of_base of_source of_dest : Digest) (base source dest : TreeValue) (has_base : get r.trees of_base.0 ≡ Some base)
      (has_source : get r.trees of_source.0 ≡ Some source) (has_dest : get r.trees of_dest.0 ≡ Some dest) where
    pub merge_of : (strategy : Strategy)
        → IsMerged base.map source.map dest.map
        (merged_map strategy (map_of (repository_of r) of_base) (map_of (repository_of r) of_source) (map_of (repository_of r) of_dest))
    merge_of strategy = record {
      strategy = strategy;
      map =
          ap (λ m. merged_map strategy m (map_of (repository_of r) of_source) (map_of (repository_of r) of_dest))
          (sym (map_there r of_base base (sym has_base)))
          ∙ ap (λ m. merged_map strategy base.map m (map_of (repository_of r) of_dest)) (sym (map_there r of_source source (sym has_source)))
          ∙ ap (merged_map strategy base.map source.map) (sym (map_there r of_dest dest (sym has_dest)));
    }

    pub trio_file : (file : List ℕ) → IsTrioFile base source dest file → IsTreeFile r file
    trio_file file (inl within) = tree_file of_base base has_base file within
    trio_file file (inr (inl within)) = tree_file of_source source has_source file within
    trio_file file (inr (inr within)) = tree_file of_dest dest has_dest file within

-- ---- in a sound lake with its index
module _ (l : LakeStateValue) (sound : IsSound (state_of l)) (index : HasIndex l) (repo : List ℕ) (r : RepositoryStateValue)
    (at : get l.repositories repo ≡ Some r) where
  there : IsSoundRepository l.cut (repository_of r)
  there = sound.repositories repo (repository_of r) (get_map_values repository_of l.repositories repo ∙ ap (option_map repository_of) at)

  -- a file of a tree is found by its name
  found : (file : List ℕ) → IsTreeFile r file → get l.names.files (file_name file).0 ≡ Some file
  found file of =
      let mapped = contains_map_values (λ (tree : TreeValue). tree.map) r.trees of.id.0 ∙ ap is_some of.there in
      let cut = index.trees repo r of.id of.tree at of.there ∙ ap (files l.cut) (map_there r of.id of.tree (sym of.there)) in
      index.files repo r of.id file at (there.maps of.id mapped) (subst (λ all. Contains all file) cut of.within)

  pub all_found : (provenance : Provenance) → HasTreesOf r provenance → AreFound l provenance
  all_found provenance trees file of = found file (trees file of)

  -- the head of a branch is there
  pub head_there : (branch : List ℕ) (b : BranchStateValue) → get r.branches branch ≡ Some b → HasCommit (repository_of r) b.head
  head_there branch b on = (there.heads branch (branch_of b) (on_state l repo branch r b at on)).0
