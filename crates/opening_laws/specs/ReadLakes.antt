-- A lake that was read from pairs.
use Rattle.std.specs.Prelude.{◌≡◌, true, ℕ, List, Some, IsSome, Ok}
use Rattle.std.specs.FinMap.{contains_key, get}
use Rattle.lake_base.specs.declared.digest.Digest.{Digest}
use Rattle.lake_values.specs.Ancestry.{commit_of}
use Rattle.lake_values.specs.Commit.{CommitRecordValue}
use Rattle.lake_format.specs.declared.cut.Cut.{Cut}
use Rattle.meta_range.specs.Ranges.{TreeValue}
use Rattle.branch_record.specs.Record.{is_among}
use Rattle.pair_format.specs.declared.pair.Pair.{Pair}
use Rattle.pair_trees.specs.Things.{kept_of, things_of}
use Rattle.pair_trees.specs.PairTrees.{tree_named}
use Rattle.core_state.specs.BranchStates.{BranchStateValue, tokens_of}
use Rattle.core_state.specs.RepositoryStates.{RepositoryStateValue}
use Rattle.core_state.specs.LakeStates.{LakeStateValue}
use Rattle.core_pairs.specs.LakePairs.{StandFor, at_rest}

-- A lake was read from pairs: these stand for it; nothing has happened in it; each commit has the tree that the pairs spell; only
-- commits have a tree or are expired; and a branch has changes only under tokens that it names.
pub record IsReadFrom (cut : Cut) (pairs : List Pair) (l : LakeStateValue) : Type 0 where
  pub stand : StandFor (kept_of pairs) l
  pub rest : at_rest l ≡ l
  pub cut_is : l.cut ≡ cut
  pub trees : (repo : List ℕ) (r : RepositoryStateValue) (id : Digest) (commit : CommitRecordValue) → get l.repositories repo ≡ Some r
      → commit_of r.commits id ≡ Some commit
      → (tree : TreeValue) × ((get r.trees id.0 ≡ Some tree) × (tree_named cut (things_of pairs) commit ≡ Ok tree))
  pub only_trees : (repo : List ℕ) (r : RepositoryStateValue) (id : Digest) → get l.repositories repo ≡ Some r
      → IsSome (get r.trees id.0) → IsSome (commit_of r.commits id)
  pub only_expired : (repo : List ℕ) (r : RepositoryStateValue) (id : Digest) → get l.repositories repo ≡ Some r
      → contains_key r.expired id.0 ≡ true → IsSome (commit_of r.commits id)
  pub named : (repo : List ℕ) (r : RepositoryStateValue) (branch : List ℕ) (b : BranchStateValue) (token : ℕ) → get l.repositories repo ≡ Some r
      → get r.branches branch ≡ Some b → contains_key b.tokens token ≡ true → is_among (tokens_of b) token ≡ true
