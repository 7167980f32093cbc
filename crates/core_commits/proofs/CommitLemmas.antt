-- Commits that are drafted, put in a repository, and taken out.
use Rattle.std.proofs.Common.{◌≡◌, Global, List, ℕ, refl, sym, ap, ◌∙◌}
use Rattle.std.specs.Prelude.{None}
use Rattle.std.specs.FinMap.{get, insert, remove}
use Rattle.std.specs.declared.sync.Arc.{Arc}
use Rattle.lake_base.specs.Maps.{ByteMap}
use Rattle.lake_base.specs.declared.digest.Digest.{Digest}
use Rattle.lake_values.specs.Ancestry.{Graph, due_generation}
use Rattle.lake_values.specs.Commit.{AboutValue, CommitRecordValue}
use Rattle.lake_format.specs.Cutting.{files}
use Rattle.lake_format.specs.Spelling.{file_name}
use Rattle.lake_format.specs.declared.cut.Cut.{Cut}
use Rattle.byte_map.proofs.ByteMapLemmas.{remove_absent, remove_inserted}
use Rattle.meta_range.specs.Ranges.{TreeValue, first_file}
use Rattle.meta_range.specs.declared.tree.Tree.{Tree}
use Rattle.meta_range.proofs.LawLemmas.{first_is}
use Rattle.lake_model.specs.declared.reply.SwapKind.{SwapKind}
use Rattle.lake_model.specs.declared.reply.SwapKind.TheVariants.{Commit, Merge, Pick}
use Rattle.lake_model.specs.Commits.{Draft, record_of}
use Rattle.core_state.specs.BranchStates.{BranchStateValue}
use Rattle.core_state.specs.RepositoryStates.{RepositoryStateValue}
use Rattle.core_readings.specs.Trees.{IsCutTree}
use Rattle.core_commits.specs.HeadOperations.{draft_for, swap_parents}

-- ---- what is drafted for a branch of a repository
module _ (about : AboutValue) (r : RepositoryStateValue) (b : BranchStateValue) where
  -- its parents
  pub parents_are : (kind : SwapKind) → swap_parents kind b.head ≡ (draft_for kind about r b).parents
  parents_are Commit = refl
  parents_are (Merge source strategy) = refl
  parents_are (Pick base source strategy) = refl

  -- what is said of it
  pub about_is : (kind : SwapKind) → about ≡ (draft_for kind about r b).about
  about_is Commit = refl
  about_is (Merge source strategy) = refl
  about_is (Pick base source strategy) = refl

module _ (cut : Cut) (draft : Draft) (tree : TreeValue) (is : IsCutTree cut draft.objects tree) where
  -- its tree
  pub tree_is : tree ≡ record { map = draft.objects; files = files cut draft.objects }
  tree_is = λ i. record { map = is.map i; files = is.files i }

  -- its record, which names the metarange of the tree
  pub record_is : (graph : Graph) (name : Digest) (generation : ℕ) (parents : List Digest) (about : AboutValue)
      → name ≡ file_name (first_file tree.files) → generation ≡ due_generation graph draft.parents → parents ≡ draft.parents → about ≡ draft.about
      → ◌≡◌ {A = CommitRecordValue} (record {
        meta_range = name;
        generation = generation;
        date = about.date;
        parents = parents;
        committer = about.committer;
        message = about.message;
        metadata = about.metadata;
      }) (record_of cut graph draft)
  record_is graph name generation parents about named due followed said =
      let metarange = named ∙ ap (λ all. file_name (first_file all)) is.files ∙ sym (first_is cut draft.objects) in
      λ i. record {
        meta_range = metarange i;
        generation = due i;
        date = (said i).date;
        parents = followed i;
        committer = (said i).committer;
        message = (said i).message;
        metadata = (said i).metadata;
      }

-- ---- trees of commits
-- the tree that is shared
abbrev pub shared : Arc Tree Global → TreeValue
shared tree = tree.value

-- ---- a value that was put under a fresh key is taken out again
pub taken_out : {X : Type 0} (m n : ByteMap X) (k : List ℕ) (x : X) → n ≡ insert m k x → get m k ≡ None → remove n k ≡ m
taken_out m n k x put fresh = ap (λ m. remove m k) put ∙ remove_inserted m k x ∙ remove_absent m k fresh
